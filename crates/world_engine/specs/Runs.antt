-- What the clauses of a run say of its output, its cause and what it has read.
use Rattle.std.specs.Prelude.{◌≡◌, ◌⊎◌, ◌<◌, ℕ, List, Option, None, Some, Result, Ok, Err, length, ⊤}
use Rattle.std.specs.FinMap.{get}
use Rattle.std.specs.Io.KnownBytes.{Appends}
use Rattle.outside.specs.Files.{Files, FileIs, IsAbsent}
use Rattle.streams.specs.Owed.{AppendsFront}
use Rattle.text_words.specs.Lines.{ended_lines}
use Rattle.obj_text.specs.Meshes.{MeshLists}
use Rattle.obj_text.specs.Texts.{mesh_of, FaultyLine}
use Rattle.obj_text.specs.declared.limits.TheConstants.{MOST_BYTES}
use Rattle.world_engine.specs.declared.status.Status.{Status}
use Rattle.world_engine.specs.declared.status.Status.TheVariants.{Done, Usage, MeshRefused, ReadFault, WriteFault, Memory, LinesRefused}
use Rattle.world_engine.specs.Words.{Opening}
use Rattle.world_index.specs.Worlds.{WorldState, world_of}
use Rattle.world_engine.specs.Outputs.{Output, replies_of, texts_from}

-- the statuses that say that all was written
abbrev pub IsWhole : Status → Type 0
IsWhole Done = ⊤
IsWhole Usage = ⊤
IsWhole MeshRefused = ⊤
IsWhole LinesRefused = ⊤
IsWhole ReadFault = ⊥
IsWhole WriteFault = ⊥
IsWhole Memory = ⊥

-- a run ended with the output's status and exactly its text, or with another status and a front of that text
pub record Fulfils (output : Output) (status : Status) (old now : Option (List ℕ)) : Type 0 where
  pub ended : IsWhole status → status ≡ output.status
  pub whole : IsWhole status → Appends old now output.text
  pub front : AppendsFront old now output.text

-- the output's status, or want of memory
abbrev pub IsComplete : Output → Status → Type 0
IsComplete output status = (status ≡ Memory) ⊎ (status ≡ output.status)

-- the shelf tells what it holds, and the mesh is not among it
abbrev pub IsAbsentMesh : Option Files → Option Opening → Type 0
IsAbsentMesh files None = ⊥
IsAbsentMesh files (Some opening) = IsAbsent files opening.name

-- what holds of the mesh file, which may be none, at the unit, where a mesh is named and the shelf tells what it holds
abbrev pub MeshIs : Option Files → Option Opening → (ℕ → Option (List ℕ) → Type 0) → Type 0
MeshIs files None P = ⊥
MeshIs files (Some opening) P = FileIs files opening.name (P opening.unit)

-- the file is too long
abbrev pub IsTooLong : List ℕ → Type 0
IsTooLong file = MOST_BYTES < length file

-- a line of it is refused
abbrev pub IsFaulty : Result MeshLists FaultyLine → Type 0
IsFaulty (Ok mesh) = ⊥
IsFaulty (Err fault) = ⊤

-- a file that is too long or has a faulty line
abbrev pub IsRefusedFile : ℕ → Option (List ℕ) → Type 0
IsRefusedFile unit None = ⊥
IsRefusedFile unit (Some file) = IsTooLong file ⊎ IsFaulty (mesh_of unit file)

-- the shelf tells what it holds, and the mesh file is refused
abbrev pub IsRefusedMesh : Option Files → Option Opening → Type 0
IsRefusedMesh files None = ⊥
IsRefusedMesh None (Some opening) = ⊥
IsRefusedMesh (Some files) (Some opening) = IsRefusedFile opening.unit (get files opening.name)

-- a world, and the grid steps to a unit of the script that asks it
pub record Asked : Type 0 where
  pub world : WorldState
  pub unit : ℕ

abbrev pub asked : ℕ → WorldState → Asked
asked unit world = record { world = world; unit = unit }

-- the world of a text that is a mesh
abbrev pub world_in : ℕ → Result MeshLists FaultyLine → Option Asked
world_in unit (Ok mesh) = Some (asked unit (world_of mesh))
world_in unit (Err fault) = None

-- the world of a mesh file, which may be none; a file past its limit is refused before this matters
abbrev pub world_of_file : ℕ → Option (List ℕ) → Option Asked
world_of_file unit None = None
world_of_file unit (Some file) = world_in unit (mesh_of unit file)

-- the world that the named mesh opens, where the shelf tells what it holds
abbrev pub world_of_opening : Option Files → Option Opening → Option Asked
world_of_opening files None = None
world_of_opening None (Some opening) = None
world_of_opening (Some files) (Some opening) = world_of_file opening.unit (get files opening.name)

-- the replies to the lines that ended in these bytes
abbrev pub replies_to_ended : Asked → List ℕ → List ℕ
replies_to_ended asked bytes = texts_from 1 (replies_of asked.unit asked.world (ended_lines bytes))

-- the statuses after which the script was answered
abbrev pub IsAnswered : Status → Type 0
IsAnswered Done = ⊤
IsAnswered LinesRefused = ⊤
IsAnswered Usage = ⊥
IsAnswered MeshRefused = ⊥
IsAnswered ReadFault = ⊥
IsAnswered WriteFault = ⊥
IsAnswered Memory = ⊥

-- what a device told and its count are as before
pub record IsUntouched {T : Type 0} (told told_now : T) (faults faults_now : ℕ) : Type 0 where
  pub content : told_now ≡ told
  pub count : faults_now ≡ faults
