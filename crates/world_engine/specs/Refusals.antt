-- What is written where a mesh is refused at a line.
use Rattle.std.specs.Prelude.{ℕ, List, ◌++◌, codes, decimal}
use Rattle.obj_text.specs.Texts.{FaultyLine}
use Rattle.query_script.specs.Reasons.{why_text}

-- a mesh is refused at a line
abbrev pub refusal_text : FaultyLine → List ℕ
refusal_text fault = codes "mesh line " ++ (decimal fault.line ++ (codes ": " ++ (why_text fault.why ++ codes "\n")))
