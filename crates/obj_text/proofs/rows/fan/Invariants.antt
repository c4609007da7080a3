use Rattle.std.proofs.Common.{◌≡◌, ◌≤◌, false, length}
use Rattle.obj_text.specs.Steps.{fan_left}
use Rattle.obj_text.specs.declared.limits.TheConstants.{MOST_FACES}
use Rattle.obj_text.proofs.rows.fan.Given as goal

abbrev pub invariant-loop-faces : goal.invariant-loop-faces
invariant-loop-faces l = record {
  left : fan_left l.fn.vertices l.before false l.fn.faces.items l.first l.second l.third l.fn.line.words
      ≡ fan_left l.vertices l.before l.over l.faces.items l.first l.last l.next l.line.words;
  vertices : l.vertices ≡ l.fn.vertices;
  later : l.line.later ≡ l.fn.line.later;
  few : length l.faces.items ≤ MOST_FACES;
}

abbrev pub decreases-loop-faces : goal.decreases-loop-faces
decreases-loop-faces l = length l.line.words
