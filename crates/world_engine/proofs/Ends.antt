-- How long a script is, by how it ended, and with which status.
use Rattle.std.proofs.Common.{Bool, true, false, ◌≡◌, ◌↔◌, ◌<◌, ◌≤◌, ℕ, List, Option, None, Some, IfSome, length, inl, inr}
use Rattle.std.proofs.lemmas.Bool.{cases_lt}
use Rattle.std.specs.Prelude.{◌≢◌}
use Rattle.streams.specs.declared.answerer.Ended.{Ended}
use Rattle.streams.specs.declared.answerer.Ended.TheVariants.{Whole, TooLong}
use Rattle.world_engine.specs.declared.status.Status.TheVariants.{ReadFault, WriteFault}
use Rattle.world_engine.specs.Outputs.{status_of}

-- a script that ended whole is within the limit
pub whole_is_within : (left : Option (List ℕ)) (ended : Ended) (limit : ℕ) → ended ≡ Whole
    → IfSome left (λ bytes. (ended ≡ TooLong) ↔ (limit < length bytes)) → IfSome left (λ bytes. length bytes ≤ limit)
whole_is_within None ended limit e p = tt
whole_is_within (Some bytes) ended limit e p = elim (cases_lt limit (length bytes)) [
  | inl long ↦ let no : ended ≡ TooLong = p.1 long in absurd (let clash : ⊥ = cc in clash)
  | inr few ↦ few
]

-- a script that was too long is past it
pub too_long_is_past : (left : Option (List ℕ)) (ended : Ended) (limit : ℕ) → ended ≡ TooLong
    → IfSome left (λ bytes. (ended ≡ TooLong) ↔ (limit < length bytes)) → IfSome left (λ bytes. limit < length bytes)
too_long_is_past None ended limit e p = tt
too_long_is_past (Some bytes) ended limit e p = p.0 e

-- a script that was answered ended with no fault of its source
pub no_read_fault : (refused : Bool) → status_of refused ≢ ReadFault
no_read_fault true = λ e. cc
no_read_fault false = λ e. cc

-- and with none of the sink
pub no_write_fault : (refused : Bool) → status_of refused ≢ WriteFault
no_write_fault true = λ e. cc
no_write_fault false = λ e. cc
