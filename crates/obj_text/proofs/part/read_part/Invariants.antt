use Rattle.std.proofs.Common.{◌≡◌, ◌≤◌, ◌-◌, ◌++◌, length}
use Rattle.std.specs.Prelude.{replicate}
use Rattle.text_words.specs.Joins.{joined_lines_of}
use Rattle.obj_text.specs.Names.{known}
use Rattle.obj_text.specs.Parts.{names_of}
use Rattle.obj_text.proofs.Readings.{IsReadUpTo}
use Rattle.obj_text.proofs.part.read_part.Given as goal

abbrev pub invariant-loop-lines : goal.invariant-loop-lines
invariant-loop-lines l = record {
  read : IsReadUpTo l.unit l.fn.vertices l.place (joined_lines_of l.bytes) l.lines.later
      l.gathered.points.items l.gathered.faces.items
      (names_of l.runs.items ++ replicate (length l.gathered.faces.items - l.in_runs) (known l.gathered.name))
      (known l.gathered.name);
  ended : l.in_runs ≤ length l.gathered.faces.items;
  vertices : l.vertices ≡ l.fn.vertices;
}

abbrev pub decreases-loop-lines : goal.decreases-loop-lines
decreases-loop-lines l = length l.lines.later
