use Rattle.std.proofs.Common.{◌≡◌, ◌≤◌, ◌+◌, ◌-◌}
use Rattle.streams.proofs.Gifts.{Gave}
use Rattle.streams.proofs.SoFar.{HasAnswered}
use Rattle.streams.proofs.answering.answer_lines.Given as goal

abbrev pub invariant-loop-count : goal.invariant-loop-count
invariant-loop-count g l =
    let session = l.session in
    record {
      few : l.taken ≤ l.limit;
      number : session.number ≤ l.taken + 1;
      gave : Gave (g.S.Source.left l.initial.script) (g.S.Source.left l.script) l.taken
          (HasAnswered g.A.Answerer.text g.A.Answerer.after l.fn.answerer (g.K.Sink.written l.initial.out)
          (g.K.Sink.written l.out) session.answerer session.number session.line.items);
      source : g.S.Source.faults l.script ≡ g.S.Source.faults l.initial.script;
      sink : g.K.Sink.faults l.out ≡ g.K.Sink.faults l.initial.out;
    }

abbrev pub decreases-loop-count : goal.decreases-loop-count
decreases-loop-count g l = l.limit - l.taken
