-- Digits that are read one by one, with a number that is cut off at a limit.
use Rattle.std.proofs.Common.{arith, ◌≡◌, ◌≤◌, ◌*◌, ◌+◌, ◌-◌, ◌∷◌, ◌++◌, [], List, length, cond, ◌==◌, drop, min, ℕ, Bool, true, false, refl, sym, ap, ◌∙◌}
use Rattle.std.proofs.lemmas.Bool.Decides.{nat_tests}
use Rattle.text_words.specs.Numbers.{is_digit, value_after, digits_of, past_digits}

-- a number cut off before one digit more is, once cut off again, the same as one cut off only then
cut_step : (n c d : ℕ) → min (min n c * 10 + d) c ≡ min (n * 10 + d) c
cut_step n c d = grind arith

-- a number that was cut off on the way
pub cut_off : (c n : ℕ) (ds : List ℕ) → min (value_after (min n c) ds) c ≡ min (value_after n ds) c
cut_off c n [] = grind arith
cut_off c n (b ∷ ds) =
    sym (cut_off c (min n c * 10 + (b - 48)) ds)
    ∙ ap (λ k. min (value_after k ds) c) (cut_step n c (b - 48))
    ∙ cut_off c (n * 10 + (b - 48)) ds

-- one digit more
pub one_more : (c n b : ℕ) (ds : List ℕ)
    → min (value_after (min (n * 10 + (b - 48)) c) ds) c ≡ min (value_after n (b ∷ ds)) c
one_more c n b ds = cut_off c (n * 10 + (b - 48)) ds

-- the number that two runs of digits write
pub value_after-append : (n : ℕ) (xs ys : List ℕ) → value_after n (xs ++ ys) ≡ value_after (value_after n xs) ys
value_after-append n [] ys = refl
value_after-append n (b ∷ bs) ys = value_after-append (n * 10 + (b - 48)) bs ys

-- two runs of digits, cut off behind each
pub two_runs : (c v w : ℕ) (xs ys : List ℕ) → v ≡ min (value_after 0 xs) c → w ≡ min (value_after v ys) c
    → w ≡ min (value_after 0 (xs ++ ys)) c
two_runs c v w xs ys p q =
    q ∙ ap (λ k. min (value_after k ys) c) p ∙ cut_off c (value_after 0 xs) ys
    ∙ ap (λ k. min k c) (sym (value_after-append 0 xs ys))

-- the digits and what follows are as long as a text with one byte more, whether that counts as a digit or not
digits_by : (b : ℕ) (bs : List ℕ) (k : Bool) → length (digits_of bs) + length (past_digits bs) ≡ length bs
    → length (cond k (b ∷ digits_of bs) []) + length (cond k (past_digits bs) (b ∷ bs)) ≡ length bs + 1
digits_by b bs true e = omega (arith, e)
digits_by b bs false e = omega arith

-- the digits at the front and what follows them are the whole text
pub length-digits : (text : List ℕ) → length (digits_of text) + length (past_digits text) ≡ length text
length-digits [] = omega arith
length-digits (b ∷ bs) = omega (arith, digits_by b bs (is_digit b) (length-digits bs))

-- what follows the digits at the front is within the text
pub digits_within : (text rest : List ℕ) → rest ≡ past_digits text → length rest ≤ length text
digits_within text rest e = omega (arith, length-digits text, ap length e)

-- how many they are
pub digits_count : (text rest : List ℕ) → rest ≡ past_digits text → length text - length rest ≡ length (digits_of text)
digits_count text rest e = omega (arith, length-digits text, ap length e)

-- one digit more of a text whose digits are read up to some place
pub next_digit : (c n v x at b : ℕ) (text : List ℕ) → drop at text ≡ b ∷ drop (at + 1) text → is_digit b ≡ true
    → v ≡ min (n * 10 + (b - 48)) c → x ≡ min (value_after n (digits_of (drop at text))) c
    → x ≡ min (value_after v (digits_of (drop (at + 1) text))) c
next_digit c n v x at b text e digit is so_far =
    let rest = digits_of (drop (at + 1) text) in
    so_far
    ∙ ap (λ k. min (value_after n (digits_of k)) c) e
    ∙ ap (λ k. min (value_after n (cond k (b ∷ rest) [])) c) digit
    ∙ sym (one_more c n b rest)
    ∙ ap (λ k. min (value_after k rest) c) (sym is)

-- the same, with no limit
pub digits_next : (n at b : ℕ) (text : List ℕ) → drop at text ≡ b ∷ drop (at + 1) text → is_digit b ≡ true
    → value_after n (digits_of (drop at text)) ≡ value_after (n * 10 + (b - 48)) (digits_of (drop (at + 1) text))
digits_next n at b text e digit =
    let rest = digits_of (drop (at + 1) text) in
    ap (λ k. value_after n (digits_of k)) e ∙ ap (λ k. value_after n (cond k (b ∷ rest) [])) digit

-- what follows the digits from a digit on is what follows those from the byte behind it on
pub past_next : (at b : ℕ) (text : List ℕ) → drop at text ≡ b ∷ drop (at + 1) text → is_digit b ≡ true
    → past_digits (drop at text) ≡ past_digits (drop (at + 1) text)
past_next at b text e digit =
    ap past_digits e ∙ ap (λ k. cond k (past_digits (drop (at + 1) text)) (b ∷ drop (at + 1) text)) digit

-- one byte more before a text that is its digits where nothing follows, whether it counts as a digit or not
all_by : (b : ℕ) (bs : List ℕ) (k : Bool) → (past_digits bs ≡ [] → digits_of bs ≡ bs)
    → cond k (past_digits bs) (b ∷ bs) ≡ []
    → cond k (b ∷ digits_of bs) [] ≡ b ∷ bs
all_by b bs true later e = ap (λ k. b ∷ k) (later e)
all_by b bs false later e = absurd (cc)

-- a text that holds digits alone
pub all_digits : (text : List ℕ) → past_digits text ≡ [] → digits_of text ≡ text
all_digits [] e = refl
all_digits (b ∷ bs) e = all_by b bs (is_digit b) (all_digits bs) e

-- digits that nothing follows
pub digits_all : (text rest : List ℕ) → rest ≡ past_digits text → (length rest == 0) ≡ true
    → length text ≡ length (digits_of text)
digits_all text rest e none =
    let no : length rest ≡ 0 = grind (arith, nat_tests, none) in
    omega (arith, digits_count text rest e, no)
