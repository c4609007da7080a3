use Rattle.std.proofs.Common.{arith}
use Rattle.text_words.proofs.FirstBytes.{plain_before, parted_slices}
use Rattle.text_words.proofs.lines.plain_line.Goals as goal

pub returns-clause-line : goal.returns-clause-line
returns-clause-line c =
    let found = c.in_ok-at.ensures.0 in
    let plain = plain_before c.args.text.now c.in_ok-at.at (omega (arith, found.high)) (λ i lt. found.before i (omega arith) lt) in
    (plain.0, parted_slices c.args.text.now c.in_ok-at.at found.high c.if-text-at-ne10.false)

pub returns-clause-plain : goal.returns-clause-plain
returns-clause-plain c =
    let found = c.in_ok-at.ensures.0 in
    (plain_before c.args.text.now c.in_ok-at.at (omega (arith, found.high)) (λ i lt. found.before i (omega arith) lt)).1
