-- References in digits alone.
use Rattle.std.proofs.Common.{◌≡◌, ◌<◌, ◌≤◌, ◌+◌, ◌-◌, ◌*◌, ◌^◌, min, nat_lt, ℕ, Bool, true, false, List, [], ◌∷◌, ◌==◌, ◌||◌, ◌&&◌, cond, IsTrue, drop, refl, sym, ap, ◌∙◌, arith, Err}
use Rattle.std.specs.List.{list_all}
use Rattle.std.proofs.lemmas.Bool.{and_parts}
use Rattle.std.proofs.lemmas.Bool.Decides.{nat_tests}
use Rattle.text_words.specs.Lines.{is_word}
use Rattle.text_words.specs.Numbers.{is_digit, value_after, digits_of, past_digits, past_sign}
use Rattle.text_words.specs.ThreeNumbers.{IsNumber, AreThreeNumbers}
use Rattle.obj_text.specs.Rows.{position, position_of, at_most_two_parts}
use Rattle.obj_text.specs.Steps.{all_three, first_corners_of}
use Rattle.obj_text.specs.declared.limits.TheConstants.{GREATEST_NUMBER}
use Rattle.obj_text.specs.declared.fault.Why.TheVariants.{BadReference}

-- digits alone are all digits, and nothing follows them
digits_alone : (word : List ℕ) → IsTrue (list_all is_digit word) → (digits_of word ≡ word) × (past_digits word ≡ [])
digits_alone [] p = (refl, refl)
digits_alone (b ∷ bs) p =
    let q = and_parts (is_digit b) (list_all is_digit bs) p in
    let r = digits_alone bs q.1 in (
      ap (λ k. cond k (b ∷ digits_of bs) []) q.0 ∙ ap (λ k. b ∷ k) r.0,
      ap (λ k. cond k (past_digits bs) (b ∷ bs)) q.0 ∙ r.1,
    )

-- a digit is no sign
sign_by : (b : ℕ) (k : Bool) → is_digit b ≡ true → (b == 43 || b == 45) ≡ k → k ≡ false
sign_by b k e f = grind (arith, nat_tests, e, f)

-- nor a minus
minus_by : (b : ℕ) (k : Bool) → is_digit b ≡ true → (b == 45) ≡ k → k ≡ false
minus_by b k e f = grind (arith, nat_tests, e, f)

-- digits alone name the vertex of their number
named_by : (vertices before : ℕ) (b : ℕ) (bs size : List ℕ) (minus : Bool) → size ≡ b ∷ bs
    → digits_of (b ∷ bs) ≡ b ∷ bs → past_digits (b ∷ bs) ≡ [] → minus ≡ false
    → cond (is_word (digits_of size) && at_most_two_parts (past_digits size))
    (position vertices before minus (value_after 0 (digits_of size))) (Err BadReference)
    ≡ position vertices 0 false (value_after 0 (b ∷ bs))
named_by vertices before b bs size minus e d p m =
    ap (λ s. cond (is_word (digits_of s) && at_most_two_parts (past_digits s))
    (position vertices before minus (value_after 0 (digits_of s))) (Err BadReference)) e
    ∙ ap (λ s. cond (is_word s && at_most_two_parts (past_digits (b ∷ bs)))
    (position vertices before minus (value_after 0 s)) (Err BadReference)) d
    ∙ ap (λ s. cond (at_most_two_parts s)
    (position vertices before minus (value_after 0 (b ∷ bs))) (Err BadReference)) p
    ∙ ap (λ k. position vertices before k (value_after 0 (b ∷ bs))) m

-- a number in digits alone names a vertex by itself
pub number_names : (vertices before n : ℕ) (word : List ℕ) → IsNumber word n
    → position_of vertices before word ≡ position vertices 0 false n
number_names vertices before n [] p = absurd (omega (arith, p.some))
number_names vertices before n (b ∷ bs) p =
    let q = and_parts (is_digit b) (list_all is_digit bs) p.digits in
    let r = digits_alone (b ∷ bs) p.digits in
    let sign : past_sign (b ∷ bs) ≡ b ∷ bs =
    ap (λ k. cond k bs (b ∷ bs)) (sign_by b (b == 43 || b == 45) q.0 refl) in
    named_by vertices before b bs (past_sign (b ∷ bs)) (b == 45) sign r.0 r.1 (minus_by b (b == 45) q.0 refl)
    ∙ ap (position vertices 0 false) (sym p.value)

-- so do three words
three_by : (vertices before a b c : ℕ) (x y z : List ℕ) → IsNumber x a → IsNumber y b → IsNumber z c
    → all_three (position_of vertices before x) (position_of vertices before y) (position_of vertices before z)
    ≡ all_three (position vertices 0 false a) (position vertices 0 false b) (position vertices 0 false c)
three_by vertices before a b c x y z p q r =
    ap (λ k. all_three k (position_of vertices before y) (position_of vertices before z)) (number_names vertices before a x p)
    ∙ ap (λ k. all_three (position vertices 0 false a) k (position_of vertices before z)) (number_names vertices before b y q)
    ∙ ap (λ k. all_three (position vertices 0 false a) (position vertices 0 false b) k) (number_names vertices before c z r)

-- the first three corners, where three numbers stand
pub numbers_name : (vertices before a b c : ℕ) (words rest : List (List ℕ)) → AreThreeNumbers words a b c rest
    → first_corners_of vertices before words
    ≡ all_three (position vertices 0 false a) (position vertices 0 false b) (position vertices 0 false c)
numbers_name vertices before a b c words rest p =
    ap (first_corners_of vertices before) p.words_are
    ∙ three_by vertices before a b c p.first p.second p.third p.a_is p.b_is p.c_is

-- the words behind three numbers
pub behind_numbers : (a b c : ℕ) (words rest : List (List ℕ)) → AreThreeNumbers words a b c rest → rest ≡ drop 3 words
behind_numbers a b c words rest p = sym (ap (drop 3) p.words_are)

-- digits behind a number do not lessen it
value_grows : (n : ℕ) (word : List ℕ) → n ≤ value_after n word
value_grows n [] = omega arith
value_grows n (b ∷ bs) = omega (arith, value_grows (n * 10 + (b - 48)) bs)

-- a number is cut off alike after any digits, by whether it is small
cut_by : (a b : ℕ) (ds : List ℕ) (few : Bool) → nat_lt a (10 ^ 18) ≡ few → b ≡ value_after a ds → (a < 10 ^ 18 → a ≡ b)
    → min b GREATEST_NUMBER ≡ min a GREATEST_NUMBER
cut_by a b ds true e all whole =
    let small : a < 10 ^ 18 = grind (arith, nat_tests, e) in
    ap (λ n. min n GREATEST_NUMBER) (sym (whole small))
cut_by a b ds false e all whole =
    let large : 10 ^ 18 ≤ a = grind (arith, nat_tests, e) in
    omega (arith, all, value_grows a ds, large)

-- a number whose digits were read as far as they have room, cut off
pub number_cut_off : (text rest : List ℕ) (number : ℕ)
    → value_after 0 (digits_of text) ≡ value_after number (digits_of rest)
    → (number < 10 ^ 18 → number ≡ value_after 0 (digits_of text))
    → min (value_after 0 (digits_of text)) GREATEST_NUMBER ≡ min number GREATEST_NUMBER
number_cut_off text rest number all whole =
    cut_by number (value_after 0 (digits_of text)) (digits_of rest) (nat_lt number (10 ^ 18)) refl all whole
