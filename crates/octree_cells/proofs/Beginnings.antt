-- Where cells begin: at a key, at each level that it shares with the next key and not with the one before it.
use Rattle.std.proofs.Common.{◌≡◌, ℕ, suc, zero, ◌+◌, ◌-◌, ◌<◌, ◌≤◌, ◌≢◌, min, refl, sym, ap, ◌∙◌, arith, inl, inr, List, [], ◌∷◌, ◌++◌, length, take, true, false, cond}
use Rattle.std.specs.Prelude.{◌==◌, nat_lt}
use Rattle.std.proofs.lemmas.Bool.{cases_eq, cases_lt, eq-eqb, ne_eqb, lt-ltb, le-ltb, and_right, cond-true, cond-false}
use Rattle.std.proofs.lemmas.List.{length-append}
use Rattle.std.proofs.lemmas.List.Sums.{count_by_more_yes}
use Rattle.morton_key.specs.declared.keys.Key.{Key}
use Rattle.morton_key.specs.declared.keys.TheConstants.{LEVELS}
use Rattle.morton_key.specs.Keys.{key_at, code_at, IsLawful}
use Rattle.octree_cells.specs.Cells.{prefix_of, prefix_at}
use Rattle.octree_cells.specs.CellsOf.{keys_with, is_cell_at, cell_at, cells_from, cells_of, cells_to, cell_count_of}
use Rattle.octree_cells.specs.Levels.{shared_level}
use Rattle.octree_cells.proofs.Prefixes.{prefix_from_shared, prefixes_differ, shared_most}
use Rattle.octree_cells.proofs.Runs.{IsRun, cell_begins, none_begins}
use Rattle.octree_cells.proofs.Parting.{cells_from-add, one_run}

-- how many levels, from 0 on, the key at a position shares with the one before it: none where either is missing
unfoldable pub levels_at : List Key → ℕ → ℕ
levels_at keys zero = 0
levels_at keys (suc i) = cond (nat_lt (suc i) (length keys)) (suc (shared_level keys i (suc i))) 0

-- how many cells of the levels from 0 to one begin at so many first positions
unfoldable pub begun : List Key → ℕ → ℕ → ℕ
begun keys zero count = length (cells_from keys 0 0 count)
begun keys (suc level) count = begun keys level count + length (cells_from keys (suc level) 0 count)

-- between two keys they are those to the shared level
pub levels-between : (keys : List Key) (i : ℕ) → suc i < length keys →
    levels_at keys (suc i) ≡ suc (shared_level keys i (suc i))
unfolding levels_at
levels-between keys i h =
    cond-true (nat_lt (suc i) (length keys)) (suc (shared_level keys i (suc i))) 0 (lt-ltb (suc i) (length keys) h)

-- past the last key there are none
levels-past : (keys : List Key) (i : ℕ) → length keys ≤ suc i → levels_at keys (suc i) ≡ 0
unfolding levels_at
levels-past keys i h =
    cond-false (nat_lt (suc i) (length keys)) (suc (shared_level keys i (suc i))) 0 (le-ltb (suc i) (length keys) h)

-- nor before the first
pub levels-first : (keys : List Key) → levels_at keys 0 ≡ 0
unfolding levels_at
levels-first keys = refl

module _ (keys : List Key) (ok : IsLawful keys) (level : ℕ) (deep : level ≤ LEVELS) where
  -- the run of keys that begins at a position, from a later one of it on
  run_from : (f a b : ℕ) → length keys ≤ b + f → a ≤ b → b < length keys →
      prefix_at keys level a ≡ prefix_at keys level b →
      (0 < a → prefix_at keys level (a - 1) ≢ prefix_at keys level a) →
      (last : ℕ) × (b ≤ last) × IsRun keys level a last
  run_from zero a b enough le h e before = absurd (omega arith)
  run_from (suc f) a b enough le h e before =
      let ends : (suc b < length keys → prefix_at keys level b ≢ prefix_at keys level (suc b)) → IsRun keys level a b =
      λ after. record { order = le; within = h; shared = e; apart = record { before = before; after = after } } in
      elim (cases_lt (suc b) (length keys)) [
        | inr end ↦ (b, omega arith, ends (λ more. absurd (omega arith)))
        | inl more ↦ elim (cases_eq (prefix_at keys level b) (prefix_at keys level (suc b))) [
          | inl same ↦
              let whole = run_from f a (suc b) (omega arith) (omega arith) more (e ∙ same) before in
              (whole.0, omega (arith, whole.1), whole.2)
          | inr ne ↦ (b, omega arith, ends (λ _. ne))
        ]
      ]

  -- no cell begins at a key that has the prefix of the one before it
  none_again : (i : ℕ) → suc i < length keys → prefix_at keys level i ≡ prefix_at keys level (suc i) →
      is_cell_at keys level (suc i) ≡ false
  unfolding is_cell_at keys_with prefix_at code_at key_at
  none_again i h same =
      let own : ℕ = prefix_at keys level (suc i) in
      let next : suc i ≡ i + 1 = omega arith in
      let earlier = ap (λ n. keys_with level own (take n keys)) next
      ∙ count_by_more_yes (λ k. prefix_of level k.code == own) keys i _ (omega arith) (eq-eqb _ _ same) in
      and_right (nat_lt 1 (keys_with level own keys)) (keys_with level own (take (suc i) keys) == 0)
      (ne_eqb (keys_with level own (take (suc i) keys)) 0 (λ none. omega (arith, none, earlier)))

  -- at a level that the key shares with the one before it none begins
  none_if_before : (i : ℕ) → i < length keys → level < levels_at keys i → is_cell_at keys level i ≡ false
  none_if_before zero h lt = absurd (omega (arith, levels-first keys))
  none_if_before (suc i) h lt = none_again i h
      (prefix_from_shared keys ok level deep i (suc i) (omega arith) h (omega (arith, lt, levels-between keys i h)))

  -- at any other the two have two prefixes
  before_differs : (i : ℕ) → i < length keys → levels_at keys i ≤ level → 0 < i →
      prefix_at keys level (i - 1) ≢ prefix_at keys level i
  before_differs zero h le pos = absurd (omega arith)
  before_differs (suc i) h le pos =
      let here : suc i - 1 ≡ i = omega arith in
      rw here (prefixes_differ keys ok level deep i (suc i) (omega arith) h
      (omega (arith, le, levels-between keys i h)))

  -- one begins where the next key shares it
  one_begins : (i : ℕ) → i < length keys → levels_at keys i ≤ level → level < levels_at keys (suc i) →
      is_cell_at keys level i ≡ true
  one_begins i h le lt = elim (cases_lt (suc i) (length keys)) [
    | inr end ↦ absurd (omega (arith, lt, levels-past keys i end))
    | inl more ↦
        let run = run_from (length keys) i (suc i) (omega arith) (omega arith) more
        (prefix_from_shared keys ok level deep i (suc i) h more (omega (arith, lt, levels-between keys i more)))
        (before_differs i h le) in
        cell_begins keys ok level deep i run.0 run.2 (omega (arith, run.1))
  ]

  -- and none where it does not
  none_if_alone : (i : ℕ) → i < length keys → levels_at keys i ≤ level → levels_at keys (suc i) ≤ level →
      is_cell_at keys level i ≡ false
  none_if_alone i h le behind = none_begins keys ok level deep i i
      (one_run keys level i i refl h (record {
        before = before_differs i h le;
        after = λ more. prefixes_differ keys ok level deep i (suc i) h more
            (omega (arith, behind, levels-between keys i more));
      })) refl

  -- one more position has one more cell if one begins there
  one_more : (i : ℕ) → length (cells_from keys level 0 (suc i))
      ≡ length (cells_from keys level 0 i) + length (cells_from keys level i 1)
  one_more i =
      let next : suc i ≡ i + 1 = omega arith in
      let here : 0 + i ≡ i = omega arith in
      ap (λ n. length (cells_from keys level 0 n)) next
      ∙ (ap length (cells_from-add keys level 0 i 1
      ∙ ap (λ k. cells_from keys level 0 i ++ cells_from keys level k 1) here)
      ∙ length-append (cells_from keys level 0 i) (cells_from keys level i 1))

  -- where it does that is one cell
  one_here : (i : ℕ) → is_cell_at keys level i ≡ true → length (cells_from keys level i 1) ≡ 1
  unfolding cells_from
  one_here i is = ap (λ b. length (cond b (cell_at keys level i ∷ []) [] ++ [])) is

  -- and else none
  none_here : (i : ℕ) → is_cell_at keys level i ≡ false → length (cells_from keys level i 1) ≡ 0
  unfolding cells_from
  none_here i is = ap (λ b. length (cond b (cell_at keys level i ∷ []) [] ++ [])) is

  -- so a position adds a cell at each level from those of the pair before it to those of the pair behind it
  level_step : (i : ℕ) → i < length keys →
      length (cells_from keys level 0 (suc i)) + (min level (levels_at keys (suc i)) - levels_at keys i)
      ≡ length (cells_from keys level 0 i) + (min (suc level) (levels_at keys (suc i)) - levels_at keys i)
  level_step i h = elim (cases_lt level (levels_at keys i)) [
    | inl early ↦ omega (arith, one_more i, none_here i (none_if_before i h early))
    | inr le ↦ elim (cases_lt level (levels_at keys (suc i))) [
      | inl lt ↦ omega (arith, one_more i, one_here i (one_begins i h le lt))
      | inr behind ↦ omega (arith, one_more i, none_here i (none_if_alone i h le behind))
    ]
  ]

module _ (keys : List Key) (ok : IsLawful keys) where
  -- and over the levels from 0 to one, all of these
  levels_step : (level i : ℕ) → level ≤ LEVELS → i < length keys →
      begun keys level (suc i) ≡ begun keys level i + (min (suc level) (levels_at keys (suc i)) - levels_at keys i)
  unfolding begun
  levels_step zero i deep h = omega (arith, level_step keys ok 0 deep i h)
  levels_step (suc level) i deep h =
      omega (arith, level_step keys ok (suc level) deep i h, levels_step level i (omega arith) h)

  -- one more pair of neighbours adds the levels that it shares and the pair before it does not
  pub pair_step : (i : ℕ) → suc i < length keys →
      begun keys LEVELS (suc i) ≡ begun keys LEVELS i + (suc (shared_level keys i (suc i)) - levels_at keys i)
  pair_step i h = omega (
    arith,
    levels_step LEVELS i (omega arith) (omega arith),
    levels-between keys i h,
    shared_most keys i (suc i),
  )

-- no position has no cell
pub begun-none : (keys : List Key) (level : ℕ) → begun keys level 0 ≡ 0
unfolding begun cells_from
begun-none keys zero = refl
begun-none keys (suc level) = omega (arith, begun-none keys level)

-- all positions have all
begun-all : (keys : List Key) (level : ℕ) → cells_to keys level ≡ begun keys level (length keys)
unfolding begun cells_to cells_of
begun-all keys zero = refl
begun-all keys (suc level) = ap (λ n. n + length (cells_from keys (suc level) 0 (length keys))) (begun-all keys level)

-- so have all but the last, at which none begins
pub begun-but_last : (keys : List Key) → IsLawful keys →
    begun keys LEVELS (length keys - 1) ≡ cell_count_of keys
unfolding cell_count_of
begun-but_last keys ok = elim (cases_eq (length keys) 0) [
  | inl e ↦ let none : length keys - 1 ≡ length keys = omega arith in
      ap (begun keys LEVELS) none ∙ sym (begun-all keys LEVELS)
  | inr ne ↦
      let last : ℕ = length keys - 1 in
      let next : suc last ≡ length keys = omega arith in
      omega (
        arith,
        begun-all keys LEVELS,
        ap (begun keys LEVELS) next,
        levels_step keys ok LEVELS last (omega arith) (omega arith),
        levels-past keys last (omega arith),
      )
]
