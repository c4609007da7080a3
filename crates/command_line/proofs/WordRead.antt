-- How a word is read: the step that it comes to says whether its turn passes and where clap stands behind it.
use Rattle.std.proofs.Common.{◌≡◌, ap, ap₂, ℕ, ◌&&◌, Bool, false, List, [], None, refl}
use Rattle.clap.specs.Walk.{Held, Step, Text, Waiting, Walk, after_step, idle, subcommand_met, walked, word_met}
use Rattle.clap.specs.Kinds.{Kinds, or_else}
use Rattle.clap.specs.Faults.{step_fault, turn_fault, word_fault}
use Rattle.clap.specs.Takes.{step_passes, turn_passes, word_passes}
use Rattle.clap.proofs.OnLiterals.{clap_on_literals}
use Rattle.command_line.specs.Uses.{Use}
use Rattle.command_line.proofs.OneCommand.{rules_built}
use Rattle.command_line.proofs.Standing.{Pending, holding, standing, top}

-- a word comes to a step, with what is held then, and passes or has a fault
pub record IsRead (waiting : Waiting) (uses : List Use) (pending : Pending) (position : ℕ) (word : Text)
    (met : Held × Step) (passes : Bool) (fault : Kinds) : Type 0 where
  pub met_is : word_met rules_built [] false waiting position word (holding uses pending) ≡ met
  pub passes_is : word_passes top [] false waiting word (holding uses pending) ≡ passes
  pub fault_is : word_fault top [] false waiting word (holding uses pending) ≡ fault

-- no word names a subcommand
pub none_named : (waiting : Waiting) (word : Text) → subcommand_met [] waiting word ≡ None
none_named idle word = refl
none_named _ word = refl

module _ {waiting : Waiting} {uses : List Use} {pending : Pending} {position : ℕ} {word : Text} {met : Held × Step}
    {passes : Bool} {fault : Kinds} (read : IsRead waiting uses pending position word met passes fault) where
  -- where clap stands as the word is read
  abbrev here : Walk
  here = standing waiting uses pending position

  -- the word passes where its reading and its step do
  pub turn_passed : turn_passes top [] here word ≡ (passes && step_passes top position met.0 met.1)
  turn_passed = ap₂ (λ (passed : Bool). λ (came : Held × Step). passed && step_passes top position came.0 came.1)
      read.passes_is read.met_is

  -- its faults are those of its reading, then those of its step
  pub turn_faults : turn_fault top [] here word ≡ or_else fault (step_fault top position met.0 met.1)
  turn_faults = ap₂ (λ (faults : Kinds). λ (came : Held × Step). or_else faults (step_fault top position came.0 came.1))
      read.fault_is read.met_is

  -- behind it clap stands where its step leads
  pub walked_of : walked rules_built [] here word ≡ after_step rules_built word here met.0 met.1
  unfolding clap_on_literals
  walked_of = ap (λ (came : Held × Step). after_step rules_built word here came.0 came.1) read.met_is
