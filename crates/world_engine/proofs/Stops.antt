-- Runs that stop before they write.
use Rattle.std.proofs.Common.{◌≡◌, ℕ, List, [], Option, None, Some, IfSome, refl, subst}
use Rattle.std.proofs.KnownBytes.{Appends-nil}
use Rattle.world_engine.specs.Outputs.{Output, says}
use Rattle.world_engine.specs.Runs.{Fulfils, IsWhole}
use Rattle.world_engine.specs.declared.status.Status.{Status}

-- a run that wrote nothing, with a status that does not say that it was whole
pub stopped : (output : Output) (status : Status) (old : Option (List ℕ)) → (IsWhole status → ⊥)
    → Fulfils output status old old
stopped output status old stops = record {
  ended = λ w. absurd (stops w);
  whole = λ w. absurd (stops w);
  front = (output.text, record { front = []; whole = refl; taken = Appends-nil old });
}

-- the same, where the output is told
pub stopped_told : (output : Option Output) (status : Status) (old : Option (List ℕ)) → (IsWhole status → ⊥)
    → IfSome output (λ o. Fulfils o status old old)
stopped_told None status old stops = tt
stopped_told (Some o) status old stops = stopped o status old stops

-- a text that was written under another name
pub same_said : (said text : List ℕ) (status result : Status) (old now : Option (List ℕ)) → said ≡ text
    → Fulfils (says said status) result old now → Fulfils (says text status) result old now
same_said said text status result old now e p = subst (λ t. Fulfils (says t status) result old now) e p
