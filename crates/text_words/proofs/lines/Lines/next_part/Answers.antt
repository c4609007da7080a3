use Rattle.std.proofs.Common.{rules, ◌≡◌, ◌∷◌}
use Rattle.text_words.specs.Lines.{lines_of}
use Rattle.text_words.proofs.Cuts.{lines_ended}
use Rattle.text_words.proofs.Plain.{plain_line}
use Rattle.text_words.proofs.lines.Lines.next_part.Goals as goal

pub returns-in-Some : goal.returns-in-Some
returns-in-Some c =
    let line = c.in-Some.line.now in
    let rest = c.in-Some.rest.now in
    let lines : lines_of c.self.inside.rest.now ≡ line ∷ lines_of rest =
    lines_ended c.self.inside.rest.now line rest c.in-Some.ensures.line.0 c.in-Some.ensures.line.1 in
    let plain = plain_line line c.in-Some.ensures.plain in
    (search (rules, lines), search (rules, plain), search (rules, plain))
