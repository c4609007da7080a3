-- The end of a stage of a run, from what its calls said.
use Rattle.std.proofs.Common.{codes, Global, ◌≡◌, ◌⊎◌, ◌≤◌, ◌+◌, ℕ, List, [], Option, None, Some, IfSome, inl, inr, length, refl, sym, ap, subst, arith, cond}
use Rattle.std.specs.Prelude.{◌≢◌}
use Rattle.std.specs.Option.{option_map}
use Rattle.std.specs.FinMap.{get}
use Rattle.std.specs.declared.vec.Vec.{Vec}
use Rattle.std.specs.Io.KnownBytes.{Appends}
use Rattle.std.proofs.KnownBytes.{Appends-nil}
use Rattle.outside.specs.Causes.{Rose}
use Rattle.outside.specs.Files.{Files, FileIs}
use Rattle.streams.specs.Loads.{IsLoadedFile}
use Rattle.streams.specs.declared.loads.Loaded.{Loaded}
use Rattle.streams.specs.declared.loads.Loaded.TheVariants.{Whole}
use Rattle.streams.specs.Owed.{AppendsFront}
use Rattle.streams.specs.Taken.{Taken, Loses, LosesAtMost, IsPrompt}
use Rattle.streams.proofs.Gifts.{loses_none}
use Rattle.streams.proofs.Within.{not_less}
use Rattle.obj_text.specs.Texts.{mesh_of}
use Rattle.obj_text.specs.declared.limits.TheConstants.{MOST_BYTES}
use Rattle.world_engine.specs.declared.limits.TheConstants.{SCRIPT_MOST}
use Rattle.world_engine.specs.declared.status.Status.{Status}
use Rattle.world_engine.specs.declared.status.Status.TheVariants.{Usage, MeshRefused, ReadFault, WriteFault, Memory}
use Rattle.world_engine.specs.Words.{Opening, opening, opening_of, grid_of}
use Rattle.world_index.specs.Worlds.{WorldState}
use Rattle.world_engine.specs.Outputs.{Output, says, script_output, mesh_output, file_output, opening_output, words_output, output_of}
use Rattle.world_engine.specs.Runs.{Fulfils, IsWhole, Asked, asked, IsFaulty, MeshIs, IsRefusedFile, IsRefusedMesh, world_in, world_of_file, world_of_opening, replies_to_ended, IsAnswered}
use Rattle.world_engine.specs.StageEnds.{Faults, Ends, EndsFile}
use Rattle.world_engine.proofs.Stops.{stopped_told}

-- of a script that was not read no line was answered
none_taken : (world : Option Asked) (left written : Option (List ℕ))
    → IfSome world (λ world. Taken left left (λ front. Appends written written (replies_to_ended world front)))
none_taken None left written = tt
none_taken (Some world) None written = tt
none_taken (Some world) (Some bytes) written = ([], refl, Appends-nil written)

-- and none was taken ahead
prompt_none : (answers : List ℕ → List ℕ) (left written written_now : Option (List ℕ)) (text : List ℕ)
    → AppendsFront written written_now text → IsPrompt answers left left written written_now
prompt_none answers None written written_now text front = tt
prompt_none answers (Some bytes) None written_now text front = tt
prompt_none answers (Some bytes) (Some old) None text front = absurd front.1.taken
prompt_none answers (Some bytes) (Some old) (Some now) text front = λ ahead back is short. omega arith

-- where none was taken ahead, the same holds of a world that may not be there
prompt_in : (world : Option Asked) (left written written_now : Option (List ℕ)) (text : List ℕ)
    → AppendsFront written written_now text
    → IfSome world (λ world. IsPrompt (replies_to_ended world) left left written written_now)
prompt_in None left written written_now text front = tt
-- where none was taken ahead, the same holds of a world that may not be there
prompt_in (Some world) left written written_now text front =
    prompt_none (replies_to_ended world) left written written_now text front

module _ {status : Status} {failed : Type 0} (ends : (status ≡ MeshRefused) ⊎ (status ≡ Memory) ⊎ ((status ≡ WriteFault) × failed)) where
  -- with word of a refused mesh no run ends as one of bad words
  no_usage : status ≢ Usage
  no_usage = λ e. elim ends [
    | inl is ↦ cc
    | inr rest ↦ elim rest [ inl is ↦ cc | inr is ↦ let status_is = is.0 in cc ]
  ]

  -- nor as one whose script was read
  no_read_fault : status ≢ ReadFault
  no_read_fault = λ e. elim ends [
    | inl is ↦ cc
    | inr rest ↦ elim rest [ inl is ↦ cc | inr is ↦ let status_is = is.0 in cc ]
  ]

  -- or answered
  no_answer : IsAnswered status → ⊥
  no_answer = λ answered. elim ends [
    | inl is ↦ subst IsAnswered is answered
    | inr rest ↦ elim rest [
      | inl is ↦ subst IsAnswered is answered
      | inr is ↦ subst IsAnswered is.0 answered
    ]
  ]

module _ (owed : Option Output) (world : Option Asked) (refused alone before : Type 0) (status : Status)
    (left : Option (List ℕ)) (reads : ℕ) (written : Option (List ℕ)) (writes : ℕ) where
  -- a stage that stopped before it touched script and sink
  pub stopped_first : (IsWhole status → ⊥) → (IsAnswered status → ⊥) → status ≢ WriteFault
      → (status ≡ ReadFault → before)
      → Ends owed world refused alone before status left left reads reads written written writes writes
  stopped_first stops unanswered unwritten why = record {
    output = stopped_told owed status written stops;
    usage = λ e. stops (subst IsWhole (sym e) tt);
    mesh = λ e. absurd (stops (subst IsWhole (sym e) tt));
    partial = λ e. none_taken world left written;
    prompt = λ e. absurd (unwritten e);
    taken = λ answered. absurd (unanswered answered);
    most = loses_none left _;
    unread = λ cause. record { content = refl; count = refl };
    faults = record {
      read = λ e. inl (why e);
      write = λ e. absurd (unwritten e);
      source = omega arith;
      sink = omega arith;
      source_kept = λ e. refl;
      sink_kept = λ e. refl;
    };
  }

  -- a stage that refused the mesh, of which word was written or not
  pub refused_first : (written_now : Option (List ℕ)) (writes_now : ℕ) (text : List ℕ)
      → IfSome owed (λ output. Fulfils output status written written_now) → AppendsFront written written_now text
      → refused → (status ≡ MeshRefused) ⊎ (status ≡ Memory) ⊎ ((status ≡ WriteFault) × Rose writes writes_now)
      → writes ≤ writes_now → (status ≢ WriteFault → writes_now ≡ writes)
      → Ends owed world refused alone before status left left reads reads written written_now writes writes_now
  refused_first written_now writes_now text output front why ends later kept = record {
    output = output;
    usage = λ e. no_usage ends e;
    mesh = λ e. why;
    partial = λ e. absurd (no_read_fault ends e);
    prompt = λ e. prompt_in world left written written_now text front;
    taken = λ answered. absurd (no_answer ends answered);
    most = loses_none left _;
    unread = λ cause. record { content = refl; count = refl };
    faults = record {
      read = λ e. absurd (no_read_fault ends e);
      write = λ e. elim ends [
        | inl is ↦ let clash : ⊥ = cc in absurd clash
        | inr rest ↦ elim rest [ inl is ↦ let clash : ⊥ = cc in absurd clash | inr is ↦ is.1 ]
      ];
      source = omega arith;
      sink = later;
      source_kept = λ e. refl;
      sink_kept = kept;
    };
  }

-- a stage behind another, which owes no more and says as much
ends_as : (owed owed_now : Option Output) (world world_now : Option Asked)
    (refused refused_now alone alone_now before before_now : Type 0) (status : Status)
    (left left_now : Option (List ℕ)) (reads reads_now : ℕ) (written written_now : Option (List ℕ))
    (writes writes_now : ℕ)
    → (IfSome owed (λ output. Fulfils output status written written_now)
    → IfSome owed_now (λ output. Fulfils output status written written_now))
    → ((P : Asked → Type 0) → IfSome world P → IfSome world_now P)
    → (refused → refused_now) → (alone_now → alone) → (before → before_now)
    → Ends owed world refused alone before status left left_now reads reads_now written written_now writes writes_now
    → Ends owed_now world_now refused_now alone_now before_now status left left_now reads reads_now written written_now
    writes writes_now
ends_as owed owed_now world world_now refused refused_now alone alone_now before before_now status left left_now reads
    reads_now written written_now writes writes_now output asks refuses leaves comes ends = record {
      output = output ends.output;
      usage = ends.usage;
      mesh = λ e. refuses (ends.mesh e);
      partial = λ e. asks _ (ends.partial e);
      prompt = λ e. asks _ (ends.prompt e);
      taken = ends.taken;
      most = ends.most;
      unread = λ cause. elim cause [
        | inl is ↦ ends.unread (inl is)
        | inr why ↦ ends.unread (inr (leaves why))
      ];
      faults = record {
        read = λ e. elim (ends.faults.read e) [ inl why ↦ inl (comes why) | inr rose ↦ inr rose ];
        write = ends.faults.write;
        source = ends.faults.source;
        sink = ends.faults.sink;
        source_kept = ends.faults.source_kept;
        sink_kept = ends.faults.sink_kept;
      };
    }

module _ (unit : ℕ) (status : Status) (left left_now : Option (List ℕ)) (reads reads_now : ℕ)
    (written written_now : Option (List ℕ)) (writes writes_now : ℕ) where
  -- a mesh file within its limit owes what its text owes
  file_owed : (file : List ℕ) (P : Output → Type 0) → length file ≤ MOST_BYTES
      → IfSome (mesh_output unit (mesh_of unit file) left) P → IfSome (file_output unit (Some file) left) P
  file_owed file P few p =
      let output : Option Output = mesh_output unit (mesh_of unit file) left in
      subst (λ o. IfSome o P)
      (sym (ap (λ b. cond b (Some (says (codes "mesh too long\n") MeshRefused)) output)
      (not_less MOST_BYTES (length file) few))) p

  -- a mesh file that was loaded whole, over whose text the script was answered
  answered_file : (file : Option (List ℕ)) (text : Vec ℕ Global) (before : Type 0) → IsLoadedFile MOST_BYTES (Whole text) file
      → Ends (mesh_output unit (mesh_of unit text.items) left) (world_in unit (mesh_of unit text.items))
      (IsFaulty (mesh_of unit text.items)) (IsFaulty (mesh_of unit text.items)) ⊥ status left left_now reads reads_now
      written written_now writes writes_now
      → Ends (file_output unit file left) (world_of_file unit file) (IsRefusedFile unit file) (IsRefusedFile unit file)
      before status left left_now reads reads_now written written_now writes writes_now
  answered_file None text before loaded ends = absurd loaded
  answered_file (Some file) text before loaded ends =
      ends_as _ _ _ _ _ _ _ _ _ _ status left left_now reads reads_now written written_now writes writes_now
      (file_owed file _ loaded.1) (λ P p. p) (λ faulty. inr faulty) (λ refused. elim refused [
        | inl long ↦ absurd (omega (arith, long, loaded.1))
        | inr faulty ↦ faulty
      ]) (λ never. absurd never)
      (subst (λ t. Ends (mesh_output unit (mesh_of unit t) left) (world_in unit (mesh_of unit t))
      (IsFaulty (mesh_of unit t)) (IsFaulty (mesh_of unit t)) ⊥ status left left_now reads reads_now
      written written_now writes writes_now) loaded.0 ends)

  -- the same of the file that is named, where the shelf tells what it holds
  pub fetched_mesh : (files : Option Files) (name : List ℕ) (loaded : Loaded) (text : Vec ℕ Global) (before : Type 0)
      → loaded ≡ Whole text → FileIs files name (λ file. IsLoadedFile MOST_BYTES loaded file)
      → Ends (mesh_output unit (mesh_of unit text.items) left) (world_in unit (mesh_of unit text.items))
      (IsFaulty (mesh_of unit text.items)) (IsFaulty (mesh_of unit text.items)) ⊥ status left left_now reads reads_now
      written written_now writes writes_now
      → Ends (opening_output (Some (opening name unit)) files left) (world_of_opening files (Some (opening name unit)))
      (MeshIs files (Some (opening name unit)) IsRefusedFile) (IsRefusedMesh files (Some (opening name unit))) before
      status left left_now reads reads_now written written_now writes writes_now
  fetched_mesh None name loaded text before is told ends =
      ends_as _ _ _ _ _ _ _ _ _ _ status left left_now reads reads_now written written_now writes writes_now
      (λ p. tt) (λ P p. tt) (λ faulty. tt) (λ never. absurd never) (λ never. absurd never) ends
  fetched_mesh (Some files) name loaded text before is told ends =
      answered_file (get files name) text before
      (subst (λ loaded. IsLoadedFile MOST_BYTES loaded (get files name)) is told) ends

-- a text that was written, as one for which there was memory
pub or_memory : {A B C : Type 0} → A ⊎ B → A ⊎ (C ⊎ B)
or_memory said = elim said [ inl is ↦ inl is | inr failed ↦ inr (inr failed) ]

-- what is owed of a script, as far as the script is told
of_script : (owed : List ℕ → Output) (left : Option (List ℕ)) (P : Output → Type 0)
    → IfSome left (λ bytes. P (owed bytes)) → IfSome (option_map owed left) P
of_script owed None P p = tt
of_script owed (Some bytes) P p = p

module _ (unit : ℕ) (world : WorldState) (status : Status) (left left_now : Option (List ℕ)) (reads reads_now : ℕ)
    (written written_now : Option (List ℕ)) (writes writes_now : ℕ) where
  -- a stage that answered a script in a world, or stopped in its midst
  pub script_ended : IfSome left (λ bytes. Fulfils (script_output unit world bytes) status written written_now)
      → status ≢ Usage → status ≢ MeshRefused
      → (status ≡ ReadFault → Taken left left_now (λ front.
      Appends written written_now (replies_to_ended (asked unit world) front)))
      → (status ≡ WriteFault → IsPrompt (replies_to_ended (asked unit world)) left left_now written written_now)
      → (IsAnswered status → Loses (SCRIPT_MOST + 1) left left_now) → LosesAtMost (SCRIPT_MOST + 1) left left_now
      → Faults ⊥ status reads reads_now writes writes_now
      → Ends (option_map (script_output unit world) left) (Some (asked unit world)) ⊥ ⊥ ⊥ status left left_now reads
      reads_now written written_now writes writes_now
  script_ended output usage mesh partial prompt taken most faults = record {
    output = of_script (script_output unit world) left (λ output. Fulfils output status written written_now) output;
    usage = usage;
    mesh = mesh;
    partial = partial;
    prompt = prompt;
    taken = taken;
    most = most;
    unread = λ cause. elim cause [ inl is ↦ absurd (mesh is) | inr never ↦ absurd never ];
    faults = faults;
  }

module _ {named : Opening} {files : Option Files} {fetches fetches_now : ℕ} {status : Status}
    {left left_now : Option (List ℕ)} {reads reads_now : ℕ} {written written_now : Option (List ℕ)}
    {writes writes_now : ℕ} (words : List (List ℕ)) (opens : opening_of words ≡ Some named)
    (ends : EndsFile (Some named) files fetches fetches_now status left left_now reads reads_now written written_now
    writes writes_now) where
  -- what a stage says of the mesh that it was given, of that which the words name
  pub of_words : EndsFile (opening_of words) files fetches fetches_now status left left_now reads reads_now written
      written_now writes writes_now
  of_words = subst (λ named. EndsFile named files fetches fetches_now status left left_now reads reads_now written
      written_now writes writes_now) (sym opens) ends

  -- and so of the output of the words, which ask for no large workload
  pub output_of_words : grid_of words ≡ None → IfSome (output_of words files left) (λ output.
      Fulfils output status written written_now)
  output_of_words no_grid = subst (λ grid. IfSome (words_output grid (opening_of words) files left) (λ output.
      Fulfils output status written written_now)) (sym no_grid) of_words.ends.output
