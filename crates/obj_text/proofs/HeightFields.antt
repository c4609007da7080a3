-- Rows of a height field, joined: one row more, how long they are, and what holds of each element.
use Rattle.std.proofs.Common.{◌≡◌, ◌≤◌, ◌<◌, ◌+◌, ◌*◌, ℕ, zero, suc, List, [], ◌∷◌, ◌++◌, length, length-append, append-nil, add-one, ap, arith}
use Rattle.std.specs.List.{All, flat_map, range_with_len}
use Rattle.std.proofs.lemmas.List.Concat.{flat_map-append}
use Rattle.std.proofs.lemmas.List.Elements.{All-nil, All-cons, All-append}

-- one number more stands at the end of the numbers from one on
range_more : (n start j : ℕ) → start + n ≡ j
    → range_with_len start (suc n) ≡ range_with_len start n ++ j ∷ []
range_more zero start j e = ap (λ k. k ∷ []) (omega (arith, e))
range_more (suc n) start j e = ap (λ ks. start ∷ ks) (range_more n (start + 1) j (omega (arith, e)))

-- one row more stands behind the rows before it
pub rows_more : {A : Type 0} (f : ℕ → List A) (n : ℕ)
    → flat_map f (range_with_len 0 n) ++ f n ≡ flat_map f (range_with_len 0 (n + 1))
rows_more f n =
    let one : flat_map f (n ∷ []) ≡ f n = append-nil (f n) in
    let joined = flat_map-append f (range_with_len 0 n) (n ∷ []) in
    let more = ap (flat_map f) (range_more n 0 n (omega arith)) in
    rw add-one (cc)

-- rows of one length, joined
pub length-rows : {A : Type 0} (f : ℕ → List A) (k : ℕ) → ((row : ℕ) → length (f row) ≡ k) → (n start : ℕ)
    → length (flat_map f (range_with_len start n)) ≡ n * k
length-rows f k each zero start = omega arith
length-rows f k each (suc n) start =
    let later = length-rows f k each n (start + 1) in
    let first = each start in
    let joined = length-append (f start) (flat_map f (range_with_len (start + 1) n)) in
    grind (arith, later, first, joined)

-- what holds of each element of each row
pub All-rows : {A : Type 0} (P : A → Type 0) (f : ℕ → List A) (n start : ℕ)
    → ((row : ℕ) → start ≤ row → row < start + n → All P (f row))
    → All P (flat_map f (range_with_len start n))
All-rows P f zero start each = All-nil P
All-rows P f (suc n) start each =
    All-append P (f start) (flat_map f (range_with_len (start + 1) n)) (each start (omega arith) (omega arith))
    (All-rows P f n (start + 1) (λ row low high. each row (omega arith) (omega arith)))

-- what holds of each number of a row
pub All-row : (P : ℕ → Type 0) (n start : ℕ) → ((column : ℕ) → column < start + n → P column)
    → All P (range_with_len start n)
All-row P zero start each = All-nil P
All-row P (suc n) start each =
    All-cons P start (range_with_len (start + 1) n) (each start (omega arith))
    (All-row P n (start + 1) (λ column high. each column (omega arith)))
