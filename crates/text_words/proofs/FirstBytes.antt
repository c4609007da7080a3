-- What stands before the first byte that passes a test.
use Rattle.std.proofs.Common.{◌≡◌, ◌<◌, ◌≤◌, ℕ, zero, suc, Bool, true, false, not, ◌&&◌, ◌||◌, ◌==◌, ◌+◌, ◌-◌, ◌++◌, List, [], ◌∷◌, length, take, drop, slice_index, refl, sym, ap, ◌∙◌, take_all, length-drop, arith}
use Rattle.std.specs.List.{list_all}
use Rattle.std.proofs.lemmas.Bool.{and_from}
use Rattle.text_words.specs.Lines.{IsOneLine}
use Rattle.text_words.specs.Parts.{IsPlain}

-- a front of which each byte passes a test
all_before : (f : ℕ → Bool) (text : List ℕ) (at : ℕ) → ((i : ℕ) → i < at → f (slice_index text i) ≡ true) → at ≤ length text
    → list_all f (take at text) ≡ true
all_before f text zero h le = refl
all_before f [] (suc at) h le = absurd (omega (arith, le))
all_before f (b ∷ bs) (suc at) h le =
    and_from (f b) (list_all f (take at bs)) (h 0 (omega arith)) (all_before f bs at (λ i lt. h (suc i) (omega (arith, lt))) (omega (arith, le)))

-- a byte that is none of three
parts : (a b c : Bool) → ((a || b || c) ≡ true → ⊥) → (not a ≡ true) × ((not b && not c) ≡ true)
parts true b c h = absurd (h refl)
parts false true c h = absurd (h refl)
parts false false true h = absurd (h refl)
parts false false false h = (refl, refl)

-- before the first of the bytes 10, 35 and 92 none of them stands
pub plain_before : (text : List ℕ) (at : ℕ) → at ≤ length text
    → ((i : ℕ) → i < at → (slice_index text i == 10 || slice_index text i == 35 || slice_index text i == 92) ≡ true → ⊥)
    → IsOneLine (take at text) × IsPlain (take at text)
plain_before text at le h = (
  all_before (λ b. not (b == 10)) text at (λ i lt. (parts (slice_index text i == 10) (slice_index text i == 35) (slice_index text i == 92) (h i lt)).0) le,
  all_before (λ b. not (b == 35) && not (b == 92)) text at (λ i lt. (parts (slice_index text i == 10) (slice_index text i == 35) (slice_index text i == 92) (h i lt)).1) le,
)

-- a text parted at a line feed
parted : (text : List ℕ) (at : ℕ) → at < length text → slice_index text at ≡ 10 → text ≡ take at text ++ 10 ∷ drop (suc at) text
parted [] at lt e = absurd (omega (arith, lt))
parted (b ∷ bs) zero lt e = ap (λ k. k ∷ bs) e
parted (b ∷ bs) (suc at) lt e = ap (λ k. b ∷ k) (parted bs at (omega (arith, lt)) e)

-- as the slices before it and behind it
pub parted_slices : (text : List ℕ) (at : ℕ) → at < length text → slice_index text at ≡ 10
    → text ≡ take at text ++ 10 ∷ take (length text - (at + 1)) (drop (at + 1) text)
parted_slices text at lt e =
    let next : suc at ≡ at + 1 = omega arith in
    parted text at lt e
    ∙ ap (λ n. take at text ++ 10 ∷ drop n text) next
    ∙ ap (λ rest. take at text ++ 10 ∷ rest) (sym (take_all (length text - (at + 1)) (drop (at + 1) text) (omega (arith, length-drop (at + 1) text))))
