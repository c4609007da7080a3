use Rattle.std.proofs.Common.{◌≡◌, ◌≤◌, ◌+◌, length}
use Rattle.text_words.specs.Joins.{joined_lines_of}
use Rattle.obj_text.specs.Texts.{vertices_of}
use Rattle.obj_text.proofs.vertex_lines.vertex_lines.Given as goal

abbrev pub invariant-loop-lines : goal.invariant-loop-lines
invariant-loop-lines l = record {
  counted : l.vertices + vertices_of l.lines.later ≡ vertices_of (joined_lines_of l.text);
  few : l.vertices + length l.lines.later ≤ length (joined_lines_of l.text);
}

abbrev pub decreases-loop-lines : goal.decreases-loop-lines
decreases-loop-lines l = length l.lines.later
