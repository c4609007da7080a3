-- A run of keys with one prefix of a level, which no key beside it has: it makes one cell, or none where it is one key.
use Rattle.std.proofs.Common.{◌≡◌, ◌≢◌, ℕ, suc, zero, ◌+◌, ◌-◌, ◌<◌, ◌≤◌, min, refl, sym, ap, ◌∙◌, arith, inl, inr, List, [], ◌∷◌, ◌++◌, length, take, Bool, true, false, cond}
use Rattle.std.specs.Prelude.{◌==◌, nat_lt, count_by}
use Rattle.std.proofs.lemmas.List.{take_all}
use Rattle.std.proofs.lemmas.List.Sums.{count_by_more_yes, count_by_more_no}
use Rattle.std.proofs.lemmas.Bool.{cases_eq, cases_lt, eq-eqb, ne_eqb, lt-ltb, le-ltb, and_from, and_left, and_right, cond-true, cond-false}
use Rattle.morton_key.specs.declared.keys.Key.{Key}
use Rattle.morton_key.specs.declared.keys.TheConstants.{LEVELS}
use Rattle.morton_key.specs.Keys.{key_at, code_at, IsLawful}
use Rattle.octree_cells.specs.Cells.{prefix_of, prefix_at}
use Rattle.octree_cells.specs.CellsOf.{keys_with, last_with, is_cell_at, cell_at, cells_from}
use Rattle.octree_cells.specs.Levels.{IsApart, cells_in, cell_over}
use Rattle.octree_cells.proofs.Prefixes.{prefix_le}

-- the keys in [a, b] have one prefix, and no other key has it
pub record IsRun (keys : List Key) (level a b : ℕ) : Type 0 where
  pub order : a ≤ b
  pub within : b < length keys
  pub shared : prefix_at keys level a ≡ prefix_at keys level b
  pub apart : IsApart keys level a b

module _ (keys : List Key) (ok : IsLawful keys) (level : ℕ) (deep : level ≤ LEVELS) (a b : ℕ)
    (run : IsRun keys level a b) where
  -- the keys of the run have its prefix
  pub in_run : (i : ℕ) → a ≤ i → i ≤ b → prefix_at keys level i ≡ prefix_at keys level a
  in_run i low high = omega (
    arith,
    run.shared,
    prefix_le keys ok level deep a i low (omega (arith, run.within)),
    prefix_le keys ok level deep i b high run.within,
  )

  -- those before it do not
  pub before_run : (i : ℕ) → i < a → prefix_at keys level i ≢ prefix_at keys level a
  before_run i lt e = run.apart.before (omega arith)
      (omega (
        arith,
        e,
        prefix_le keys ok level deep i (a - 1) (omega arith) (omega (arith, run.order, run.within)),
        prefix_le keys ok level deep (a - 1) a (omega arith) (omega (arith, run.order, run.within)),
      ))

  -- nor do those behind it
  pub after_run : (i : ℕ) → b < i → i < length keys → prefix_at keys level i ≢ prefix_at keys level a
  after_run i lt h e = run.apart.after (omega arith)
      (omega (
        arith,
        e,
        run.shared,
        prefix_le keys ok level deep b (suc b) (omega arith) (omega arith),
        prefix_le keys ok level deep (suc b) i lt h,
      ))

  -- a key has the prefix of the run
  abbrev has_it : Key → Bool
  has_it = λ k. prefix_of level k.code == prefix_at keys level a

  -- one more key counts if it has the prefix
  count_more : (i : ℕ) → i < length keys → prefix_at keys level i ≡ prefix_at keys level a →
      count_by has_it (take (suc i) keys) ≡ count_by has_it (take i keys) + 1
  unfolding prefix_at code_at key_at
  count_more i lt e = let next : suc i ≡ i + 1 = omega arith in
      ap (λ n. count_by has_it (take n keys)) next ∙ count_by_more_yes has_it keys i _ lt (eq-eqb _ _ e)

  -- and not if it has another
  count_same : (i : ℕ) → i < length keys → prefix_at keys level i ≢ prefix_at keys level a →
      count_by has_it (take (suc i) keys) ≡ count_by has_it (take i keys)
  unfolding prefix_at code_at key_at
  count_same i lt ne = let next : suc i ≡ i + 1 = omega arith in
      ap (λ n. count_by has_it (take n keys)) next ∙ count_by_more_no has_it keys i _ lt (ne_eqb _ _ ne)

  -- how many of the first keys have the prefix
  count_to : (i : ℕ) → i ≤ length keys →
      keys_with level (prefix_at keys level a) (take i keys) ≡ min i (suc b) - a
  unfolding keys_with
  count_to zero h = omega arith
  count_to (suc i) h = elim (cases_lt i a) [
    | inl before ↦ omega (arith, count_same i (omega arith) (before_run i before), count_to i (omega arith))
    | inr from ↦ elim (cases_lt b i) [
      | inl behind ↦ omega (
        arith,
        count_same i (omega arith) (after_run i behind (omega arith)),
        count_to i (omega arith),
        run.order,
      )
      | inr inside ↦ omega (arith, count_more i (omega arith) (in_run i from inside), count_to i (omega arith))
    ]
  ]

  -- how many have it of all
  count_all : keys_with level (prefix_at keys level a) keys ≡ suc b - a
  count_all = omega (
    arith,
    count_to (length keys) (omega arith),
    ap (keys_with level (prefix_at keys level a)) (take_all (length keys) keys (omega arith)),
    run.within,
  )

  -- the last key of the run is the last that has it
  last_is : (i : ℕ) → b ≤ i → i < length keys → last_with keys level (prefix_at keys level a) i ≡ b
  unfolding last_with
  last_is zero le h = omega arith
  last_is (suc i) le h = elim (cases_eq b (suc i)) [
    | inl e ↦ cond-true (prefix_at keys level (suc i) == prefix_at keys level a) (suc i) _
        (eq-eqb _ _ (in_run (suc i) (omega (arith, run.order)) (omega arith))) ∙ sym e
    | inr ne ↦ cond-false (prefix_at keys level (suc i) == prefix_at keys level a) (suc i) _
        (ne_eqb _ _ (after_run (suc i) (omega arith) h)) ∙ last_is i (omega arith) (omega arith)
  ]

  -- the two parts of the test for a cell's first key
  abbrev had_by_two : ℕ → Bool
  had_by_two i = nat_lt 1 (keys_with level (prefix_at keys level i) keys)

  -- and no earlier key has it
  abbrev new_at : ℕ → Bool
  new_at i = keys_with level (prefix_at keys level i) (take i keys) == 0

  -- a run of two or more begins a cell
  pub cell_begins : a < b → is_cell_at keys level a ≡ true
  unfolding is_cell_at
  cell_begins lt = and_from (had_by_two a) (new_at a)
      (lt-ltb 1 (keys_with level (prefix_at keys level a) keys) (omega (arith, count_all)))
      (eq-eqb (keys_with level (prefix_at keys level a) (take a keys)) 0
      (omega (arith, count_to a (omega (arith, run.order, run.within)))))

  -- one key does not
  pub none_begins : a ≡ b → is_cell_at keys level a ≡ false
  unfolding is_cell_at
  none_begins e = and_left (had_by_two a) (new_at a)
      (le-ltb 1 (keys_with level (prefix_at keys level a) keys) (omega (arith, count_all)))

  -- nor does a later key of the run
  begun_before : (i : ℕ) → a < i → i ≤ b → is_cell_at keys level i ≡ false
  unfolding is_cell_at
  begun_before i lt le =
      let same = ap (λ p. keys_with level p (take i keys)) (in_run i (omega arith) le) in
      let earlier = count_to i (omega (arith, run.within)) in
      and_right (had_by_two i) (new_at i)
      (ne_eqb (keys_with level (prefix_at keys level i) (take i keys)) 0 (λ none. omega (arith, none, same, earlier)))

  -- so no cell begins behind the first key
  later_none : (i count : ℕ) → a < i → i + count ≤ suc b → cells_from keys level i count ≡ []
  unfolding cells_from
  later_none i zero lt le = refl
  later_none i (suc count) lt le =
      ap (λ xs. xs ++ cells_from keys level (suc i) count)
      (cond-false (is_cell_at keys level i) (cell_at keys level i ∷ []) [] (begun_before i lt (omega arith)))
      ∙ later_none (suc i) count (omega arith) (omega arith)

  -- the cells of the range are the one that its first key begins, if it does
  first_then : cells_in keys level a b
      ≡ cond (is_cell_at keys level a) (cell_at keys level a ∷ []) [] ++ []
  unfolding cells_in cells_from
  first_then = let count : suc b - a ≡ suc (b - a) = omega (arith, run.order) in
      ap (cells_from keys level a) count
      ∙ ap (λ xs. cond (is_cell_at keys level a) (cell_at keys level a ∷ []) [] ++ xs)
      (later_none (suc a) (b - a) (omega arith) (omega (arith, run.order)))

  -- that cell is the cell over the range
  cell_is : cell_at keys level a ≡ cell_over keys level a b
  unfolding cell_at cell_over
  cell_is = ap (λ z. record { level = level; prefix = prefix_at keys level a; first = a; last = z })
      (last_is (length keys - 1) (omega (arith, run.within)) (omega (arith, run.within)))

  -- a run of two or more keys is one cell
  pub cells_of_run : a < b → cells_in keys level a b ≡ cell_over keys level a b ∷ []
  cells_of_run lt = first_then
      ∙ (ap (λ xs. xs ++ []) (cond-true (is_cell_at keys level a) (cell_at keys level a ∷ []) [] (cell_begins lt))
      ∙ ap (λ c. c ∷ []) cell_is)

  -- and one key is none
  pub cells_of_one : a ≡ b → cells_in keys level a b ≡ []
  cells_of_one e = first_then
      ∙ ap (λ xs. xs ++ []) (cond-false (is_cell_at keys level a) (cell_at keys level a ∷ []) [] (none_begins e))
