-- What each stage of a run says of its end. No public clause cites this module.
use Rattle.std.specs.Prelude.{◌≡◌, ◌≢◌, ◌⊎◌, ◌≤◌, ◌+◌, ℕ, List, Option, IfSome}
use Rattle.std.specs.Io.KnownBytes.{Appends}
use Rattle.outside.specs.Causes.{Rose}
use Rattle.outside.specs.Files.{Files}
use Rattle.streams.specs.Taken.{Taken, Loses, LosesAtMost, IsPrompt}
use Rattle.world_engine.specs.declared.limits.TheConstants.{SCRIPT_MOST}
use Rattle.world_engine.specs.declared.status.Status.{Status}
use Rattle.world_engine.specs.declared.status.Status.TheVariants.{Usage, MeshRefused, ReadFault, WriteFault, Memory}
use Rattle.world_engine.specs.Words.{Opening}
use Rattle.world_engine.specs.Outputs.{Output, opening_output}
use Rattle.world_engine.specs.Runs.{Fulfils, Asked, IsAbsentMesh, MeshIs, IsRefusedFile, IsRefusedMesh, world_of_opening, replies_to_ended, IsAnswered, IsUntouched}

-- a fault of script or sink is told by the status, and a status of theirs comes only of one; a read fault may also come
-- of what went before the script
pub record Faults (before : Type 0) (status : Status) (reads reads_now writes writes_now : ℕ) : Type 0 where
  pub read : status ≡ ReadFault → before ⊎ Rose reads reads_now
  pub write : status ≡ WriteFault → Rose writes writes_now
  pub source : reads ≤ reads_now
  pub sink : writes ≤ writes_now
  pub source_kept : status ≢ ReadFault → reads_now ≡ reads
  pub sink_kept : status ≢ WriteFault → writes_now ≡ writes

-- the end of a stage that owes an output and answers the script in a world, where there is one: when the mesh may be
-- refused, when the script is left alone, and what else a read fault may come of
pub record Ends (owed : Option Output) (world : Option Asked) (refused alone before : Type 0) (status : Status)
    (left left_now : Option (List ℕ)) (reads reads_now : ℕ) (written written_now : Option (List ℕ))
    (writes writes_now : ℕ) : Type 0 where
  pub output : IfSome owed (λ output. Fulfils output status written written_now)
  pub usage : status ≢ Usage
  pub mesh : status ≡ MeshRefused → refused
  pub partial : status ≡ ReadFault → IfSome world (λ world.
      Taken left left_now (λ front. Appends written written_now (replies_to_ended world front)))
  pub prompt : status ≡ WriteFault → IfSome world (λ world.
      IsPrompt (replies_to_ended world) left left_now written written_now)
  pub taken : IsAnswered status → Loses (SCRIPT_MOST + 1) left left_now
  pub most : LosesAtMost (SCRIPT_MOST + 1) left left_now
  pub unread : (status ≡ MeshRefused) ⊎ alone → IsUntouched left left_now reads reads_now
  pub faults : Faults before status reads reads_now writes writes_now

-- the end of a stage that fetches the mesh that is named first
pub record EndsFile (named : Option Opening) (files : Option Files) (fetches fetches_now : ℕ) (status : Status)
    (left left_now : Option (List ℕ)) (reads reads_now : ℕ) (written written_now : Option (List ℕ))
    (writes writes_now : ℕ) : Type 0 where
  pub ends : Ends (opening_output named files left) (world_of_opening files named) (MeshIs files named IsRefusedFile)
      (IsRefusedMesh files named) (Rose fetches fetches_now ⊎ IsAbsentMesh files named) status left left_now
      reads reads_now written written_now writes writes_now
  pub absent : IsAbsentMesh files named → (status ≡ ReadFault) ⊎ (status ≡ Memory)
  pub silent : status ≡ ReadFault → Rose reads reads_now ⊎ (written_now ≡ written)
  pub shelf : fetches ≤ fetches_now
  pub shelf_kept : status ≢ ReadFault → fetches_now ≡ fetches
