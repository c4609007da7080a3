-- One use more whose value is pending: the verdict is that of the cut from it on.
use Rattle.std.proofs.Common.{◌≡◌, ◌∙◌, ap, not, Bool, true, false, if◌then◌else◌, List, [], ◌∷◌, ◌++◌, Option, None, Some, refl, sym}
use Rattle.std.specs.Prelude.{option_map}
use Rattle.clap.specs.Walk.{Text, idle}
use Rattle.command_line.specs.Parts.{Name}
use Rattle.command_line.specs.Uses.{key_text, Use, seen, cut, ends, has_dashes}
use Rattle.command_line.proofs.OneCommand.{by_id}
use Rattle.command_line.proofs.FoundRows.{ends_more, use_once, used_absent}
use Rattle.command_line.proofs.OneWalk.{Verdict, run, verdict_of}
use Rattle.command_line.proofs.Standing.{Pending, Settles, standing}
use Rattle.command_line.proofs.Places.{place}
use Rattle.command_line.proofs.FollowsCut.{FollowsCut, IsReady}
use Rattle.command_line.proofs.Twice.{twice}

-- the verdict on a use and the words behind it, by whether the argument was seen
abbrev pub verdict_with : Use → List Use → List Text → Bool → Verdict
verdict_with one uses words is = verdict_of (if is then None else ends (uses ++ one ∷ []) (cut None words))

-- that is the verdict of the cut that the use begins
pub with_use : (one : Use) (uses : List Use) (words : List Text) → verdict_with one uses words (seen one.0 uses)
    ≡ verdict_of (ends uses (option_map (λ later. one ∷ later) (cut None words)))
with_use one uses words = sym (ap verdict_of (ends_more uses one (cut None words)))

-- where the value of a use is pending, the verdict is that of the cut that it begins
pub held_follows : (words : List Text) → has_dashes words ≡ false → FollowsCut words
    → (key : Option Name) (text : Text) (uses : List Use)
    → run (standing idle uses (Some (key_text key, text ∷ [])) (place (uses ++ (key, text) ∷ []))) words
    ≡ verdict_of (ends uses (option_map (λ later. (key, text) ∷ later) (cut None words)))
held_follows words undashed later key text uses = go (seen key uses) refl ∙ with_use (key, text) uses words
  where
    due : Pending
    due = Some (key_text key, text ∷ [])

    settles : (is : Bool) → seen key uses ≡ is → Settles uses due (not is)
    settles is known = (
      rw (by_id key) (use_once key text uses).0 ∙ ap not known,
      rw (by_id key) (use_once key text uses).1 ∙ ap not known,
    )

    go : (is : Bool) → seen key uses ≡ is → run (standing idle uses due (place (uses ++ (key, text) ∷ []))) words
        ≡ verdict_with (key, text) uses words (seen key uses)
    go true known = twice uses due (settles true known) (seen None (uses ++ (key, text) ∷ [])) words undashed
        ∙ sym (ap (verdict_with (key, text) uses words) known)
    go false known =
        let ready : IsReady uses (uses ++ (key, text) ∷ []) due = record {
          settles = settles false known;
          rows_are = rw (by_id key) (used_absent key text uses known);
        } in
        later None uses (uses ++ (key, text) ∷ []) due ready ∙ sym (ap (verdict_with (key, text) uses words) known)
