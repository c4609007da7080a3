use Rattle.std.proofs.Common.{rules, ◌≡◌, ◌∷◌, ◌+◌, false, sym, ap}
use Rattle.text_words.specs.Joins.{joined_lines}
use Rattle.text_words.specs.Parts.{left_of}
use Rattle.text_words.proofs.Joining.{line_begins}
use Rattle.text_words.proofs.joins.JoinedLines.next_line.Goals as goal

pub returns : goal.returns
returns c =
    let held = c.loop-self.self-inside in
    let line = c.in_ok-_line._line.now in
    let joins : held.joins ≡ false = search rules in
    let next : held.lines ≡ line ∷ c.next_part.new.self = search rules in
    let was_joined = ap (λ k. (left_of held.words k (joined_lines (held.number + 1) held.lines)).later) (sym joins) in
    let was_next = ap (joined_lines (held.number + 1)) (sym next) in
    search (rules, line_begins (held.number + 1) line c.next_part.new.self, was_joined, was_next)
