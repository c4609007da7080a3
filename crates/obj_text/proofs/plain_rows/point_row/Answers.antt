use Rattle.std.proofs.Common.{rules, ◌≡◌, ◌≤◌, ◌-◌, length, take, drop, slice_index_or}
use Rattle.obj_text.proofs.PlainRows.{two_first, point_row}
use Rattle.obj_text.proofs.plain_rows.point_row.Goals as goal

pub returns : goal.returns
returns c =
    let text = c.args.text.now in
    let some : 2 ≤ length text = search rules in
    let keyword : slice_index_or text 0 0 ≡ 118 = search rules in
    let space : slice_index_or text 1 0 ≡ 32 = search rules in
    let x = c.in-Some in
    let y = c.in-Some-coordinate_before in
    let z = c.in-Some-coordinate_before-2 in
    point_row c.args.unit text (take (length text - 2) (drop 2 text)) x.text.now y.text.now x._first.now y._second.now
    z._third.now z.rest.now _ _ _ (two_first 118 32 text some keyword space) x.ensures.whole y.ensures.whole
    z.ensures.whole x.ensures.plain y.ensures.plain z.ensures.plain (search rules) (search rules) (search rules)
