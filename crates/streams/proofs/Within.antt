-- Which lines of a text are answered, as far as a front of it tells.
use Rattle.std.proofs.Common.{◌≡◌, ◌≤◌, ◌<◌, ◌+◌, ◌-◌, ℕ, Bool, true, false, List, ◌++◌, take, drop, length, cond, nat_lt, sym, ap, ◌∙◌, arith}
use Rattle.std.proofs.lemmas.Bool.Decides.{nat_tests}
use Rattle.std.proofs.Math.Seq.{take-add, take-append_seam, drop-append_seam}
use Rattle.text_words.specs.Lines.{cut_lines, lines_of, ended_lines}
use Rattle.streams.specs.Answers.{lines_within}

-- a test that a number is not below another
pub not_less : (a b : ℕ) → b ≤ a → nat_lt a b ≡ false
not_less a b l = grind (arith, nat_tests)

-- a test that it is
pub is_less : (a b : ℕ) → a < b → nat_lt a b ≡ true
is_less a b l = grind (arith, nat_tests)

-- all lines of a text within the limit
pub within_whole : (limit : ℕ) (bytes : List ℕ) → length bytes ≤ limit → lines_within limit bytes ≡ lines_of bytes
within_whole limit bytes few = ap (λ b. cond b (ended_lines (take limit bytes)) (lines_of bytes))
    (not_less limit (length bytes) few)

-- the lines of a longer text that end within the limit
pub within_cut : (limit : ℕ) (bytes : List ℕ) → limit < length bytes → lines_within limit bytes
    ≡ ended_lines (take limit bytes)
within_cut limit bytes long = ap (λ b. cond b (ended_lines (take limit bytes)) (lines_of bytes))
    (is_less limit (length bytes) long)

-- what a take of more than a front gives
take_front : (n : ℕ) (front rest : List ℕ) → length front ≤ n → take n (front ++ rest)
    ≡ front ++ take (n - length front) rest
take_front n front rest l =
    let k : ℕ = n - length front in
    let e : n ≡ length front + k = omega arith in
    ap (λ m. take m (front ++ rest)) e ∙ take-add (length front) k (front ++ rest)
    ∙ ap (λ x. x ++ take k (drop (length front) (front ++ rest))) (take-append_seam front rest)
    ∙ ap (λ x. front ++ take k x) (drop-append_seam front rest)

-- a front that is as long as the limit is what lies within it
pub take_limit : (limit : ℕ) (bytes front rest : List ℕ) → bytes ≡ front ++ rest → length front ≡ limit
    → take limit bytes ≡ front
take_limit limit bytes front rest e len = ap (take limit) e ∙ ap (λ n. take n (front ++ rest)) (sym len)
    ∙ take-append_seam front rest

-- the lines that are answered are those of a front within the limit and of some more bytes, with or without an
-- unfinished last one
pub within_from : (limit : ℕ) (bytes front rest : List ℕ) → bytes ≡ front ++ rest → length front ≤ limit
    → (unfinished : Bool) × (more : List ℕ) × (lines_within limit bytes ≡ cut_lines unfinished (front ++ more))
within_from limit bytes front rest e few =
    let k : ℕ = limit - length front in
    elim (nat_lt limit (length bytes)) as (λ b. (unfinished : Bool) × (more : List ℕ)
    × (cond b (ended_lines (take limit bytes)) (lines_of bytes) ≡ cut_lines unfinished (front ++ more))) [
      | true ↦ (false, take k rest, ap ended_lines (ap (take limit) e ∙ take_front limit front rest few))
      | false ↦ (true, rest, ap lines_of e)
    ]
