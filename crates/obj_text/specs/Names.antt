-- The current name of a part's lines, where none is known before its first group. No public clause cites this module.
use Rattle.std.specs.Prelude.{ℕ, List, [], ◌∷◌, ◌++◌, length, map, replicate, Option, None, Some, Result, Ok, Err}
use Rattle.std.specs.Borrow.{Bor}
use Rattle.std.specs.Option.{option_map, unwrap_or}
use Rattle.fixed_box.specs.declared.shapes.Point.{Point}
use Rattle.obj_text.specs.Rows.{Given, Nothing, Vertex, Triangles, GroupName}
use Rattle.obj_text.specs.Texts.{Reading, faces_read}
use Rattle.obj_text.specs.declared.fault.Why.{Why}
use Rattle.obj_text.specs.declared.face.Face.{Face}

-- the bytes of a name that may be known
abbrev pub known : Option (Bor (List ℕ)) → Option (List ℕ)
known name = option_map (λ name. name.now) name

-- the current name behind what a line gives
abbrev pub known_after : Option (List ℕ) → Given → Option (List ℕ)
known_after name (GroupName next) = Some next
known_after name Nothing = name
known_after name (Vertex point) = name
known_after name (Triangles faces) = name

-- and behind a line, which leaves it where it has a fault
abbrev pub known_read : Option (List ℕ) → Result Given Why → Option (List ℕ)
known_read name (Ok given) = known_after name given
known_read name (Err why) = name

-- the name of each triangle, where it is known
abbrev pub known_names : Option (List ℕ) → List Reading → List (Option (List ℕ))
known_names name [] = []
known_names name (line ∷ lines) =
    replicate (length (faces_read line.given)) name ++ known_names (known_read name line.given) lines

-- the current name behind lines
abbrev pub last_known : Option (List ℕ) → List Reading → Option (List ℕ)
last_known name [] = name
last_known name (line ∷ lines) = last_known (known_read name line.given) lines

-- names, with this one where none is known
abbrev pub names_or : List ℕ → List (Option (List ℕ)) → List (List ℕ)
names_or name names = map (λ known. unwrap_or known name) names
