-- Why a line of a script or of a mesh is refused, in words.
use Rattle.std.specs.Prelude.{ℕ, List, codes}
use Rattle.obj_text.specs.declared.fault.Why.{Why}
use Rattle.obj_text.specs.declared.fault.Why.TheVariants as mesh
use Rattle.query_script.specs.declared.faults.LineFault.{LineFault}
use Rattle.query_script.specs.declared.faults.LineFault.TheVariants as script

-- of a script
abbrev pub fault_text : LineFault → List ℕ
fault_text script.UnknownWord = codes "unknown word"
fault_text script.WrongCount = codes "wrong count of words"
fault_text script.NotANumber = codes "not a number"
fault_text script.NumberTooLong = codes "number too long"
fault_text script.OutOfRange = codes "out of range"
fault_text script.NoSuchVertex = codes "no such vertex"
fault_text script.NoSuchNode = codes "no such node"
fault_text script.NoSuchLevel = codes "no such level"
fault_text script.LineTooLong = codes "line too long"

-- of a mesh
abbrev pub why_text : Why → List ℕ
why_text mesh.NotANumber = codes "not a number"
why_text mesh.NumberTooLong = codes "number too long"
why_text mesh.Outside = codes "outside the world"
why_text mesh.TooFewWords = codes "too few words"
why_text mesh.BadReference = codes "bad reference"
why_text mesh.NoSuchVertex = codes "no such vertex"
why_text mesh.TooManyVertices = codes "too many vertices"
why_text mesh.TooManyTriangles = codes "too many triangles"
