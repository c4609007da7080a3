use Rattle.std.proofs.Common.{rules}
use Rattle.morton_key.proofs.SortedKeys.{sorted_is}
use Rattle.morton_key.proofs.ordering.order.Goals as goal

pub returns : goal.returns
returns c =
    let sorted = sorted_is c.args.boxes.now c.in_ok-keys.keys.items c.sort_unstable.new.self.items c.requires.few
    (search rules) c.sort_unstable.ensures.permutation c.sort_unstable.ensures.sorted in
    record { order = sorted.order; value = sorted.value; lawful = sorted.lawful; count = sorted.count }
