-- What the first `=` of an option's word parts: a name and a value, or a name alone.
use Rattle.std.proofs.Common.{◌≡◌, ◌∙◌, ℕ, ◌==◌, Bool, true, false, [], ◌∷◌, length, refl, arith, nat_lt}
use Rattle.std.specs.List.{before_first, after_first, position_or_len}
use Rattle.std.proofs.lemmas.Bool.{ltb-false}
use Rattle.std.proofs.lemmas.Bool.Decides.{nat_tests}
use Rattle.std.proofs.lemmas.List.{take_all}
use Rattle.clap.specs.Lexer.{has_byte}
use Rattle.clap.specs.Walk.{Text}
use Rattle.command_line.specs.Values.{name_of}
use Rattle.command_line.specs.Items.{value_part, front_part, long_part}

-- the byte is `=`
abbrev pub is_equals : ℕ → Bool
is_equals byte = byte == 61

-- the first `=` stands within the text where there is one
first_within : (text : Text) → nat_lt (position_or_len is_equals text) (length text) ≡ has_byte 61 text
first_within [] = refl
first_within (byte ∷ rest) = go (byte == 61) refl (first_within rest)
  where
    go : (is : Bool) → (byte == 61) ≡ is → nat_lt (position_or_len is_equals rest) (length rest) ≡ has_byte 61 rest
        → nat_lt (position_or_len is_equals (byte ∷ rest)) (length (byte ∷ rest)) ≡ has_byte 61 (byte ∷ rest)
    go true known later = rw known (grind (arith, nat_tests))
    go false known later = rw (known, ← later) (grind (arith, nat_tests))

-- with a `=` the text is a name and a value
pub long_with : (text : Text) → has_byte 61 text ≡ true
    → long_part text ≡ value_part (name_of (before_first is_equals text)) (after_first is_equals text)
long_with text known = rw (first_within text ∙ known) refl

-- without one it is a name alone
pub long_alone : (text : Text) → has_byte 61 text ≡ false → long_part text ≡ front_part (name_of text)
long_alone text known = rw (first_within text ∙ known) refl

-- and all of it stands before the first
pub name_alone : (text : Text) → has_byte 61 text ≡ false → before_first is_equals text ≡ text
name_alone text known = take_all _ text (ltb-false _ _ (first_within text ∙ known))
