-- The texts of one argument among the uses, of which a parse finds the first.
use Rattle.std.proofs.Common.{◌≡◌, ◌∙◌, ap, ◌+◌, ◌≤◌, Bool, true, false, if◌then◌else◌, List, [], ◌∷◌, ◌++◌, length, Option, None, Some, is_some, refl, arith}
use Rattle.std.specs.Prelude.{filter_map, slice_get}
use Rattle.std.specs.Str.{bytes_eq}
use Rattle.std.proofs.lemmas.Slice.Eq.{bytes_eq-Decides}
use Rattle.std.proofs.lemmas.List.{length-append}
use Rattle.std.proofs.lemmas.List.Elements.{filter_map-append}
use Rattle.clap.specs.Walk.{Text, first_of}
use Rattle.command_line.specs.Parts.{Name}
use Rattle.command_line.specs.Uses.{key_text, Use, rows, seen}

-- the two arguments are one
abbrev pub same_key : Option Name → Option Name → Bool
same_key other key = bytes_eq (key_text other) (key_text key)

-- the text of a use of this argument
abbrev text_at : Option Name → Use → Option Text
text_at key one = if same_key one.0 key then Some one.1 else None

-- the texts of an argument
abbrev pub texts : Option Name → List Use → List Text
texts key uses = filter_map (text_at key) uses

-- an argument is itself
pub same_self : (key : Option Name) → same_key key key ≡ true
same_self key = (bytes_eq-Decides (key_text key) (key_text key)).1 refl

-- an argument is seen where it has a text
pub seen_texts : (key : Option Name) (uses : List Use) → seen key uses ≡ is_some (slice_get (texts key uses) 0)
seen_texts key [] = refl
seen_texts key (one ∷ uses) = go (same_key one.0 key) refl (seen_texts key uses)
  where
    go : (is : Bool) → same_key one.0 key ≡ is → seen key uses ≡ is_some (slice_get (texts key uses) 0)
        → seen key (one ∷ uses) ≡ is_some (slice_get (texts key (one ∷ uses)) 0)
    go true known later = rw known refl
    go false known later = rw known later

-- the value that a parse finds of an argument
abbrev pub found_text : Option Name → List Use → Option Text
found_text key uses = first_of (key_text key) (rows uses)

-- the value that is found is the first text
pub first_text : (key : Option Name) (uses : List Use) → found_text key uses ≡ slice_get (texts key uses) 0
first_text key [] = refl
first_text key (one ∷ uses) = go (same_key one.0 key) refl (first_text key uses)
  where
    go : (is : Bool) → same_key one.0 key ≡ is → first_of (key_text key) (rows uses) ≡ slice_get (texts key uses) 0
        → first_of (key_text key) (rows (one ∷ uses)) ≡ slice_get (texts key (one ∷ uses)) 0
    go true known later = rw known refl
    go false known later = rw known later

-- the texts of more uses are as many more
pub more_texts : (key : Option Name) (uses later : List Use)
    → length (texts key (uses ++ later)) ≡ length (texts key uses) + length (texts key later)
more_texts key uses later =
    ap length (filter_map-append (text_at key) uses later) ∙ length-append (texts key uses) (texts key later)

-- a list is empty where it has no first element
pub none_first : (values : List Text) (is : Bool) → is_some (slice_get values 0) ≡ is
    → (is ≡ true → 1 ≤ length values) × (is ≡ false → length values ≡ 0)
none_first [] is known = (λ is_so. absurd cc, λ is_so. refl)
none_first (value ∷ values) is known = (λ is_so. omega arith, λ is_so. absurd cc)
