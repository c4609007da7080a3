use Rattle.std.proofs.Common.{◌+◌, ◌-◌, length, arith}
use Rattle.walk_list.proofs.Makings.{whole_covers, empty_covers}
use Rattle.walk_list.proofs.listing.records_of.Goals as goal

pub returns-in_default : goal.returns-in_default
returns-in_default c =
    let none = c.root.ensures.none c.in_default.is in
    empty_covers c.args.leaves.now c.new-records.result.items (omega (arith, none, c.requires.count))
    c.new-records.ensures.items

pub returns : goal.returns
returns c =
    let last = length c.args.t.now.keys - 1 in
    whole_covers c.args.leaves.now (last + 1) c.new-records.result.items c.list_below.new.records.items
    (c.in_ok-list_below.ensures 0 last c.in-Some.ensures.range) c.new-records.ensures.items
    (omega (arith, c.in-Some.ensures.some, c.requires.count))
