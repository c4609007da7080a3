-- The items of the grammar are what the uses of the cut say: word by word, from left to right.
use Rattle.std.proofs.Common.{◌≡◌, ℕ, ◌+◌, false, List, [], ◌∷◌, Option, None, Some, is_some, codes, refl}
use Rattle.std.specs.Str.{bytes_eq}
use Rattle.std.proofs.lemmas.Bool.{or_parts}
use Rattle.clap.specs.Walk.{Text}
use Rattle.command_line.specs.Parts.{Name}
use Rattle.command_line.specs.Items.{items_from}
use Rattle.command_line.specs.Uses.{cut, has_dashes, mesh_from}
use Rattle.command_line.proofs.Reading.{Agree}
use Rattle.command_line.proofs.FirstItem.{idle_agrees}
use Rattle.command_line.proofs.AwaitedItem.{open_agrees}

-- the items, with the MESH word's place, are what the uses say
pub agree : (waiting : Option Name) (place : ℕ) (words : List Text) → has_dashes words ≡ false
    → Agree (mesh_from (is_some waiting) place words) (items_from waiting place words) (cut waiting words)
agree None place [] plain = (tt, refl)
agree (Some option_name) place [] plain = tt
agree None place (word ∷ words) plain =
    let parts = or_parts (bytes_eq word (codes "--")) (has_dashes words) plain in
    idle_agrees words place _ _ _ _ (agree None (place + 1) words parts.1)
    (λ option_name. agree (Some option_name) (place + 1) words parts.1) word parts.0
agree (Some option_name) place (word ∷ words) plain =
    let parts = or_parts (bytes_eq word (codes "--")) (has_dashes words) plain in
    open_agrees words place _ _ _ (λ other. cut (Some other) words) (agree None (place + 1) words parts.1)
    (λ other. agree (Some other) (place + 1) words parts.1) option_name word
