use Rattle.std.proofs.Common.{rules, ◌≡◌, ◌∷◌, ◌+◌, [], true, sym, ap}
use Rattle.text_words.specs.Joins.{joined_lines}
use Rattle.text_words.specs.Parts.{left_of}
use Rattle.text_words.proofs.Joining.{line_goes_on}
use Rattle.text_words.proofs.joins.JoinedLines.next_word.Goals as goal

pub loop-word-preserved : goal.loop-word-preserved
loop-word-preserved c =
    let held = c.loop-word.self-inside in
    let line = c.in-Some-joined_part._line.now in
    let words : held.words ≡ [] = search rules in
    let joins : held.joins ≡ true = search rules in
    let next : held.lines ≡ line ∷ c.joined_part.new.self = search rules in
    let goes_on = line_goes_on (held.number + 1) line c.joined_part.new.self in
    let was = ap (λ w. left_of w held.joins (joined_lines (held.number + 1) held.lines)) (sym words) in
    let was_joined = ap (λ k. left_of [] k (joined_lines (held.number + 1) held.lines)) (sym joins) in
    let was_next = ap (λ l. left_of [] true (joined_lines (held.number + 1) l)) (sym next) in
    record { left = search (rules, goes_on, was, was_joined, was_next); count = search rules }
