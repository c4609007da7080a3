use Rattle.std.proofs.Common.{◌≡◌, ◌≤◌, ◌+◌, ◌++◌, ℕ, Bool, List, length}
use Rattle.text_words.specs.Lines.{IsOneLine}
use Rattle.streams.specs.Owed.{Owes}
use Rattle.streams.specs.Answers.{text_left, state_left}
use Rattle.streams.proofs.session.Session.feed.Given as goal

abbrev pub invariant-loop-front : goal.invariant-loop-front
invariant-loop-front g l = record {
  one_line : IsOneLine l.self.line.items;
  owes : (unfinished : Bool) (more : List ℕ) → Owes (g.K.Sink.written l.initial.out) (g.K.Sink.written l.out)
      (text_left g.A.Answerer.text g.A.Answerer.after l.initial.self.answerer l.initial.self.number unfinished
      (l.initial.self.line.items ++ (l.piece ++ more)))
      (text_left g.A.Answerer.text g.A.Answerer.after l.self.answerer l.self.number unfinished
      (l.self.line.items ++ (l.rest ++ more)));
  state : (unfinished : Bool) (more : List ℕ)
      → state_left g.A.Answerer.after l.self.answerer unfinished (l.self.line.items ++ (l.rest ++ more))
      ≡ state_left g.A.Answerer.after l.initial.self.answerer unfinished
      (l.initial.self.line.items ++ (l.piece ++ more));
  number : l.self.number + length l.rest ≤ l.initial.self.number + length l.piece;
  kept : g.K.Sink.faults l.out ≡ g.K.Sink.faults l.initial.out;
}

abbrev pub decreases-loop-front : goal.decreases-loop-front
decreases-loop-front g l = length l.rest
