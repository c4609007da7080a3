-- What stands at the end of a text, told from its last bytes.
use Rattle.std.proofs.Common.{◌≡◌, ◌≤◌, ℕ, suc, ◌-◌, Bool, true, false, List, [], ◌∷◌, ◌==◌, ◌||◌, ◌&&◌, length, drop, eqb, refl, sym, ap, ◌∙◌, arith}
use Rattle.std.specs.List.{ends_with}
use Rattle.std.specs.Cmp.Lexicographic.{pointwise}
use Rattle.std.proofs.lemmas.Bool.Decides.{nat_tests}
use Rattle.text_words.specs.Halves.{may_join}

-- two tests of whether the same two bytes are equal answer the same
turned_by : (a b : ℕ) (x y : Bool) → (a == b) ≡ x → eqb b a ≡ y → x ≡ y
turned_by a b true true e f = refl
turned_by a b false false e f = refl
turned_by a b true false e f = grind (arith, nat_tests, e, f)
turned_by a b false true e f = grind (arith, nat_tests, e, f)

-- whether two bytes are equal, asked the other way round
turned : (a b : ℕ) → (a == b) ≡ eqb b a
turned a b = turned_by a b (a == b) (eqb b a) refl refl

-- the end of a text of one byte
one_byte : (x y : Bool) → x ≡ y → (x && true || false) ≡ (y && true || y && false)
one_byte true true e = refl
one_byte false false e = refl
one_byte true false e = absurd (cc)
one_byte false true e = absurd (cc)

-- the end of a text of two bytes
two_bytes : (x y z : Bool) → (x && y || (z && true || false)) ≡ (z && true || x && (y && true))
two_bytes true true true = refl
two_bytes true true false = refl
two_bytes true false true = refl
two_bytes true false false = refl
two_bytes false y true = refl
two_bytes false y false = refl

-- no end begins at a byte with two or more behind it
none_here : (x m : Bool) → (x && false || m) ≡ m
none_here true m = refl
none_here false m = refl

-- the last bytes of a text are those of the text without its first
drop_behind : (b : ℕ) (bs : List ℕ) (n : ℕ) → n ≤ length bs
    → drop (length (b ∷ bs) - n) (b ∷ bs) ≡ drop (length bs - n) bs
drop_behind b bs n le =
    let e : length (b ∷ bs) - n ≡ suc (length bs - n) = omega arith in
    ap (λ k. drop k (b ∷ bs)) e

-- a line feed might join two lines behind a '\', or a '\' and a carriage return
pub may_join-ends : (text : List ℕ)
    → may_join text ≡ (ends_with eqb text (92 ∷ []) || ends_with eqb text (92 ∷ 13 ∷ []))
may_join-ends [] = refl
may_join-ends (b ∷ []) = one_byte (b == 92) (eqb 92 b) (turned b 92)
may_join-ends (b ∷ c ∷ []) =
    two_bytes (b == 92) (c == 13) (c == 92)
    ∙ ap (λ z. z && true || b == 92 && (c == 13 && true)) (turned c 92)
    ∙ ap (λ x. eqb 92 c && true || x && (c == 13 && true)) (turned b 92)
    ∙ ap (λ y. eqb 92 c && true || eqb 92 b && (y && true)) (turned c 13)
may_join-ends (b ∷ c ∷ d ∷ bs) =
    let one = drop_behind b (c ∷ d ∷ bs) 1 (omega arith) in
    let two = drop_behind b (c ∷ d ∷ bs) 2 (omega arith) in
    none_here (b == 92) (may_join (c ∷ d ∷ bs)) ∙ may_join-ends (c ∷ d ∷ bs)
    ∙ ap (λ t. pointwise eqb (92 ∷ []) t || ends_with eqb (c ∷ d ∷ bs) (92 ∷ 13 ∷ [])) (sym one)
    ∙ ap (λ t. ends_with eqb (b ∷ c ∷ d ∷ bs) (92 ∷ []) || pointwise eqb (92 ∷ 13 ∷ []) t) (sym two)
