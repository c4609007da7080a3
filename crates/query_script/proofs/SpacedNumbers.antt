-- Numbers that are written behind spaces, some of them at once.
use Rattle.std.proofs.Common.{◌≡◌, ◌≤◌, ◌<◌, ◌+◌, ◌-◌, ◌^◌, ℕ, List, [], ◌∷◌, ◌++◌, length, drop, take, map, decimal, slice_set, slice_index_or, refl, sym, ap, ◌∙◌, append_assoc, arith}
use Rattle.std.proofs.lemmas.Fmt.{length-decimal-le}
use Rattle.std.proofs.lemmas.List.{drop-set, drop_more, take-append-drop}
use Rattle.query_script.specs.Replies.{spaced}

-- those of two lists are those of the one and then those of the other
pub spaced-append : (xs ys : List ℕ)
    → spaced (map decimal (xs ++ ys)) ≡ spaced (map decimal xs) ++ spaced (map decimal ys)
spaced-append [] ys = refl
spaced-append (n ∷ ns) ys =
    ap (λ t. 32 ∷ (decimal n ++ t)) (spaced-append ns ys)
    ∙ ap (λ t. 32 ∷ t) (sym (append_assoc (decimal n) (spaced (map decimal ns)) (spaced (map decimal ys))))

-- so are those of a list that is parted
pub spaced_parted : (n : ℕ) (numbers few more text : List ℕ) → few ≡ take n numbers → more ≡ drop n numbers
    → (text ++ spaced (map decimal few)) ++ spaced (map decimal more) ≡ text ++ spaced (map decimal numbers)
spaced_parted n numbers few more text e f =
    append_assoc text (spaced (map decimal few)) (spaced (map decimal more))
    ∙ ap (λ t. text ++ t) (sym (spaced-append few more)
    ∙ ap (λ t. spaced (map decimal t)) (ap (λ t. t ++ more) e ∙ ap (λ t. take n numbers ++ t) f
    ∙ take-append-drop n numbers))

-- a number of 32 bits has few digits
pub few_digits : (n : ℕ) → n < 2 ^ 32 → length (decimal n) ≤ 10
few_digits n small = length-decimal-le 10 n (omega arith) (omega (arith, small)) (omega (arith, small))

-- one number more is written before those that are there, and a space before it
pub number_before : (words buf numbers : List ℕ) (at end left n : ℕ) → 1 ≤ left → left ≤ length numbers
    → n ≡ slice_index_or numbers (left - 1) 0 → 1 ≤ end → end ≤ length buf → drop end buf ≡ decimal n ++ drop at words
    → drop at words ≡ spaced (map decimal (drop left numbers))
    → drop (end - 1) (slice_set buf (end - 1) 32) ≡ spaced (map decimal (drop (left - 1) numbers))
number_before words buf numbers at end left n some here e first within written so_far =
    let next : end - 1 + 1 ≡ end = omega (arith, first) in
    let behind : left - 1 + 1 ≡ left = omega (arith, some) in
    let number : drop (left - 1) numbers ≡ n ∷ drop left numbers =
    drop_more numbers (left - 1) 0 (omega (arith, some, here))
    ∙ ap (λ k. slice_index_or numbers (left - 1) 0 ∷ drop k numbers) behind ∙ ap (λ k. k ∷ drop left numbers) (sym e) in
    drop-set buf (end - 1) 32 (omega (arith, first, within)) ∙ ap (λ k. 32 ∷ drop k buf) next
    ∙ ap (λ t. 32 ∷ t) (written ∙ ap (λ t. decimal n ++ t) so_far)
    ∙ sym (ap (λ t. spaced (map decimal t)) number)
