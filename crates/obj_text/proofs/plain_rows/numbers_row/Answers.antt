use Rattle.std.proofs.Common.{rules, ◌≡◌, ◌≤◌, ◌-◌, length, take, drop, slice_index_or}
use Rattle.obj_text.proofs.PlainRows.{two_first, numbers_row}
use Rattle.obj_text.proofs.plain_rows.numbers_row.Goals as goal

pub returns : goal.returns
returns c =
    let text = c.args.text.now in
    let some : 2 ≤ length text = search rules in
    let keyword : slice_index_or text 0 0 ≡ 102 = search rules in
    let space : slice_index_or text 1 0 ≡ 32 = search rules in
    let x = c.in-Some in
    let y = c.in-Some-number_before in
    let z = c.in-Some-number_before-2 in
    numbers_row text (take (length text - 2) (drop 2 text)) x.text.now y.text.now x._first.now y._second.now
    z._third.now z.rest.now x.a y.b z.c (two_first 102 32 text some keyword space) x.ensures.whole y.ensures.whole
    z.ensures.whole x.ensures.number y.ensures.number z.ensures.number
