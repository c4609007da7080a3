-- How many vertices a text can have.
use Rattle.std.proofs.Common.{◌≤◌, ℕ, List, length, arith}
use Rattle.std.proofs.lemmas.List.Sums.{count_by-le-length}
use Rattle.text_words.specs.Joins.{joined_lines_of}
use Rattle.text_words.proofs.Joining.{length-joined_lines_of}
use Rattle.obj_text.specs.Rows.{is_vertex}
use Rattle.obj_text.specs.Texts.{vertices_of}

-- a text has at most as many `v` lines as bytes
pub vertices_few : (text : List ℕ) → vertices_of (joined_lines_of text) ≤ length text
vertices_few text =
    omega (
      arith,
      count_by-le-length (λ line. is_vertex line.words) (joined_lines_of text),
      length-joined_lines_of text,
    )
