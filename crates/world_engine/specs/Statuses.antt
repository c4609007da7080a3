-- The exit status of each end of a run.
use Rattle.std.specs.Prelude.{ℕ}
use Rattle.world_engine.specs.declared.status.Status.{Status}
use Rattle.world_engine.specs.declared.status.Status.TheVariants.{Done, Usage, MeshRefused, ReadFault, WriteFault, Memory, LinesRefused}

abbrev pub code_of : Status → ℕ
code_of Done = 0
code_of Usage = 1
code_of MeshRefused = 2
code_of ReadFault = 3
code_of WriteFault = 4
code_of Memory = 5
code_of LinesRefused = 6
