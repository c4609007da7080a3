use Rattle.std.proofs.Common.{◌≡◌, ◌≢◌, ℕ, suc, zero, ◌+◌, ◌<◌, ◌≤◌, refl, ap, ◌∙◌, arith, inl, inr, List, [], ◌∷◌, length}
use Rattle.std.specs.Prelude.{◌==◌, count_by, if◌then◌else◌}
use Rattle.std.proofs.lemmas.List.Sums.{sum_by-cons}
use Rattle.std.proofs.lemmas.Bool.{cases_eq, eq-eqb, ne_eqb, cond-true, cond-false}
use Rattle.fixed_box.specs.declared.shapes.Box3.{Box3}
use Rattle.morton_key.specs.declared.keys.Key.{Key}
use Rattle.morton_key.specs.Codes.{code_of}
use Rattle.morton_key.specs.Keys.{key_at, tri_at, IsLawful}
use Rattle.morton_key.specs.Order.{keys_from}

-- 1 where the key has that number
abbrev pub has_number : ℕ → Key → ℕ
has_number t k = if k.tri == t then 1 else 0

-- how many keys have that number
abbrev pub count_of : ℕ → List Key → ℕ
count_of t keys = count_by (λ k. k.tri == t) keys

-- a key with the number counts
count_yes : (t : ℕ) (k : Key) (keys : List Key) → k.tri ≡ t → count_of t (k ∷ keys) ≡ suc (count_of t keys)
count_yes t k keys e =
    let one : has_number t k ≡ 1 = cond-true {A = ℕ} (k.tri == t) 1 0 (eq-eqb k.tri t e) in
    omega (arith, sum_by-cons (has_number t) k keys, one)

-- another does not
count_no : (t : ℕ) (k : Key) (keys : List Key) → k.tri ≢ t → count_of t (k ∷ keys) ≡ count_of t keys
count_no t k keys ne =
    let none : has_number t k ≡ 0 = cond-false {A = ℕ} (k.tri == t) 1 0 (ne_eqb k.tri t ne) in
    omega (arith, sum_by-cons (has_number t) k keys, none)

-- ---- in the keys of numbered boxes

-- keys that are numbered from s on have no smaller number
count_before : (t s : ℕ) (boxes : List Box3) → t < s → count_of t (keys_from s boxes) ≡ 0
unfolding keys_from
count_before t s [] lt = refl
count_before t s (b ∷ bs) lt = count_no t (record { code = code_of b; tri = s }) (keys_from (suc s) bs)
    (λ e. omega arith) ∙ count_before t (suc s) bs (omega arith)

-- each number of the run stands once
pub count_inside : (t s : ℕ) (boxes : List Box3) → s ≤ t → t < s + length boxes → count_of t (keys_from s boxes) ≡ 1
unfolding keys_from
count_inside t s [] le lt = absurd (omega arith)
count_inside t s (b ∷ bs) le lt = elim (cases_eq s t) [
  | inl e ↦ count_yes t (record { code = code_of b; tri = s }) (keys_from (suc s) bs) e
      ∙ ap suc (count_before t (suc s) bs (omega arith))
  | inr ne ↦ count_no t (record { code = code_of b; tri = s }) (keys_from (suc s) bs) ne
      ∙ count_inside t (suc s) bs (omega arith) (omega arith)
]

-- ---- in any keys

-- one more key in front lessens no count
count_grows : (t : ℕ) (k : Key) (keys : List Key) → count_of t keys ≤ count_of t (k ∷ keys)
count_grows t k keys = elim (cases_eq k.tri t) [
  | inl e ↦ omega (arith, count_yes t k keys e)
  | inr ne ↦ omega (arith, count_no t k keys ne)
]

-- a number that stands at a position counts once at least
count_one : (t : ℕ) (keys : List Key) (i : ℕ) → i < length keys → (key_at keys i).tri ≡ t → 1 ≤ count_of t keys
unfolding key_at
count_one t [] i lt e = absurd (omega arith)
count_one t (k ∷ keys) zero lt e = omega (arith, count_yes t k keys e)
count_one t (k ∷ keys) (suc i) lt e = omega (arith, count_one t keys i (omega arith) e, count_grows t k keys)

-- two positions with one number count twice
pub count_two : (t : ℕ) (keys : List Key) (i j : ℕ) → i < j → j < length keys → (key_at keys i).tri ≡ t →
    (key_at keys j).tri ≡ t → 2 ≤ count_of t keys
unfolding key_at
count_two t [] i j lt h e f = absurd (omega arith)
count_two t (k ∷ keys) i zero lt h e f = absurd (omega arith)
count_two t (k ∷ keys) zero (suc j) lt h e f = omega (arith, count_yes t k keys e, count_one t keys j (omega arith) f)
count_two t (k ∷ keys) (suc i) (suc j) lt h e f = omega (
  arith,
  count_two t keys i j (omega arith) (omega arith) e f,
  count_grows t k keys,
)

-- a number that is counted stands somewhere
pub count_found : (t : ℕ) (keys : List Key) → 0 < count_of t keys →
    (i : ℕ) × (i < length keys) × ((key_at keys i).tri ≡ t)
unfolding key_at
count_found t [] pos = absurd (omega arith)
count_found t (k ∷ keys) pos = elim (cases_eq k.tri t) [
  | inl e ↦ (0, omega arith, e)
  | inr ne ↦ let (i, lt, e) = count_found t keys (omega (arith, count_no t k keys ne)) in (suc i, omega arith, e)
]

module _ (keys : List Key) (ok : IsLawful keys) where
  -- each triangle of lawful keys stands at some position
  pub tri_found : (t : ℕ) → 0 < t → t ≤ length keys → (i : ℕ) × (i < length keys) × (tri_at keys i ≡ t)
  unfolding tri_at
  tri_found t pos le = count_found t keys (omega (arith, ok.each_once t pos le))

  -- and at no other
  pub tri_apart : (i j : ℕ) → i < j → j < length keys → tri_at keys i ≢ tri_at keys j
  unfolding tri_at
  tri_apart i j lt h e = omega (
    arith,
    ok.each_once (key_at keys j).tri (ok.from_one j h) (ok.to_count j h),
    count_two (key_at keys j).tri keys i j lt h e refl,
  )
