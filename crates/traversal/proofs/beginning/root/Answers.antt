use Rattle.std.proofs.Common.{◌-◌, length, refl, ap, arith}
use Rattle.radix_tree.proofs.NodeLaws.{root_node}
use Rattle.traversal.proofs.beginning.root.Goals as goal

pub returns-else-count-eq1-clause-range : goal.returns-else-count-eq1-clause-range
returns-else-count-eq1-clause-range c =
    let keys = c.args.t.now.keys in
    root_node keys c.keys-count.ensures.table.lawful (length keys - 1) refl
    (omega (arith, ap length c.keys-count.ensures.keys))
