-- The function's list has exactly the cells that are meant.
use Rattle.std.proofs.Common.{◌≡◌, ◌≢◌, ℕ, suc, zero, ◌+◌, ◌-◌, ◌<◌, ◌≤◌, refl, sym, ap, subst, arith, inl, inr, List, [], ◌∷◌, ◌++◌, length, get_or}
use Rattle.std.specs.List.{All, AllPairs}
use Rattle.std.proofs.lemmas.Bool.{cases_eq, cases_lt}
use Rattle.std.proofs.lemmas.List.{length-append, get_or_append_left, get_or-append_right}
use Rattle.std.proofs.lemmas.List.Elements.{All-nil, All-cons, All-append, All-get_or, All-weaker, Contains-append_left, Contains-append_right}
use Rattle.morton_key.specs.declared.keys.Key.{Key}
use Rattle.morton_key.specs.declared.keys.TheConstants.{LEVELS}
use Rattle.morton_key.specs.Keys.{IsLawful}
use Rattle.radix_tree.specs.Split.{split}
use Rattle.radix_tree.proofs.SplitLaws.{split_laws}
use Rattle.octree_cells.specs.declared.cell.Cell.{Cell}
use Rattle.octree_cells.specs.Cells.{prefix_at, IsCell, Lists, AreCells}
use Rattle.octree_cells.specs.CellsOf.{cells_of}
use Rattle.octree_cells.specs.Levels.{shared_level, IsApart, cell_over, cells_in}
use Rattle.octree_cells.proofs.Prefixes.{prefix_le, prefixes_differ}
use Rattle.octree_cells.proofs.Runs.{IsRun, in_run, before_run, after_run, cells_of_run, cells_of_one}
use Rattle.octree_cells.proofs.Parting.{cells_in-parted, left_apart, right_apart, middle_differs, run_from_shared, one_run, cells_of-whole, cells_of-empty, whole_apart}

-- the first of two cells has the smaller prefix
abbrev IsBelow : Cell → Cell → Type 0
IsBelow a b = a.prefix < b.prefix

-- two rising lists one after the other rise where all of the first is below all of the second
rising-append : (xs ys : List Cell) (p q : ℕ) → p < q → AllPairs IsBelow xs → AllPairs IsBelow ys →
    All (λ c. c.prefix ≤ p) xs → All (λ c. q ≤ c.prefix) ys → AllPairs IsBelow (xs ++ ys)
rising-append xs ys p q lt first then below above = λ i j d before inside.
    let count = length-append xs ys in
    elim (cases_lt j (length xs)) [
      | inl both ↦ subst (λ c. c.prefix < (get_or (xs ++ ys) j d).prefix)
          (sym (get_or_append_left xs ys d i (omega arith)))
          (subst (λ c. (get_or xs i d).prefix < c.prefix) (sym (get_or_append_left xs ys d j both))
          (first i j d before both))
      | inr late ↦
          let there = get_or-append_right xs ys (length xs) j d refl late in
          elim (cases_lt i (length xs)) [
            | inl early ↦
                let low = All-get_or (λ c. c.prefix ≤ p) xs i d early below in
                let high = All-get_or (λ c. q ≤ c.prefix) ys (j - length xs) d (omega (arith, count)) above in
                omega (
                  arith,
                  low,
                  high,
                  ap (λ c. c.prefix) (get_or_append_left xs ys d i early),
                  ap (λ c. c.prefix) there,
                )
            | inr too ↦
                let here = get_or-append_right xs ys (length xs) i d refl too in
                omega (
                  arith,
                  then (i - length xs) (j - length xs) d (omega arith) (omega (arith, count)),
                  ap (λ c. c.prefix) here,
                  ap (λ c. c.prefix) there,
                )
          ]
    ]

-- a list that goes on has what it had
lists_left : (xs ys : List Cell) (p : ℕ) → Lists xs p → Lists (xs ++ ys) p
lists_left xs ys p (cell, inside, e) = (cell, Contains-append_left xs ys cell inside, e)

-- and what it goes on with
lists_right : (xs ys : List Cell) (p : ℕ) → Lists ys p → Lists (xs ++ ys) p
lists_right xs ys p (cell, inside, e) = (cell, Contains-append_right xs ys cell inside, e)

module _ (keys : List Key) (ok : IsLawful keys) (level : ℕ) (deep : level ≤ LEVELS) where
  -- the list has the cells of the positions in [a, b]
  record AreCellsIn (a b : ℕ) (cells : List Cell) : Type 0 where
    each : All (IsCell keys level) cells
    every : (i j : ℕ) → a ≤ i → i < j → j ≤ b → prefix_at keys level i ≡ prefix_at keys level j →
        Lists cells (prefix_at keys level i)
    rising : AllPairs IsBelow cells
    low : All (λ c. prefix_at keys level a ≤ c.prefix) cells
    high : All (λ c. c.prefix ≤ prefix_at keys level b) cells

  -- a run of two or more keys is the one cell
  run_is_cell : (a b : ℕ) → IsRun keys level a b → a < b → IsCell keys level (cell_over keys level a b)
  unfolding cell_over
  run_is_cell a b run lt = record {
    at_depth = refl;
    two = lt;
    within = run.within;
    alike = λ i h. (
      λ e. (from_first i h e, to_last i h e),
      λ inside. in_run keys ok level deep a b run i inside.0 inside.1,
    );
  }
    where
      from_first : (i : ℕ) → i < length keys → prefix_at keys level i ≡ prefix_at keys level a → a ≤ i
      from_first i h e = elim (cases_lt i a) [
        | inl less ↦ absurd (before_run keys ok level deep a b run i less e)
        | inr le ↦ le
      ]

      to_last : (i : ℕ) → i < length keys → prefix_at keys level i ≡ prefix_at keys level a → i ≤ b
      to_last i h e = elim (cases_lt b i) [
        | inl more ↦ absurd (after_run keys ok level deep a b run i more h e)
        | inr le ↦ le
      ]

  -- a run of two or more keys has one cell
  of_run : (a b : ℕ) → IsRun keys level a b → a < b → AreCellsIn a b (cell_over keys level a b ∷ [])
  unfolding cell_over
  of_run a b run lt = record {
    each = All-cons (IsCell keys level) (cell_over keys level a b) [] (run_is_cell a b run lt)
        (All-nil (IsCell keys level));
    every = λ i j low before high e.
        (cell_over keys level a b, (0, omega arith, refl), sym (in_run keys ok level deep a b run i low (omega arith)));
    rising = λ i j d before inside. absurd (omega arith);
    low = All-cons (λ c. prefix_at keys level a ≤ c.prefix) (cell_over keys level a b) [] (omega arith)
        (All-nil (λ c. prefix_at keys level a ≤ c.prefix));
    high = All-cons (λ c. c.prefix ≤ prefix_at keys level b) (cell_over keys level a b) [] (omega (arith, run.shared))
        (All-nil (λ c. c.prefix ≤ prefix_at keys level b));
  }

  -- one position has none
  of_one : (a b : ℕ) → a ≡ b → AreCellsIn a b []
  of_one a b e = record {
    each = All-nil (IsCell keys level);
    every = λ i j low before high same. absurd (omega arith);
    rising = λ i j d before inside. absurd (omega arith);
    low = All-nil (λ c. prefix_at keys level a ≤ c.prefix);
    high = All-nil (λ c. c.prefix ≤ prefix_at keys level b);
  }

  -- two parts whose prefixes differ where they meet have the cells of both
  of_parts : (a s b : ℕ) (xs ys : List Cell) → a ≤ s → s < b → b < length keys →
      prefix_at keys level s ≢ prefix_at keys level (suc s) → AreCellsIn a s xs → AreCellsIn (s + 1) b ys →
      AreCellsIn a b (xs ++ ys)
  of_parts a s b xs ys low high h differ left right =
      let next : suc s ≡ s + 1 = omega arith in
      let apart : prefix_at keys level s < prefix_at keys level (s + 1) = omega (
        arith,
        differ,
        prefix_le keys ok level deep s (suc s) (omega arith) (omega arith),
        ap (prefix_at keys level) next,
      ) in
      record {
        each = All-append (IsCell keys level) xs ys left.each right.each;
        every = λ i j from before to e. elim (cases_lt s j) [
          | inr inside ↦ lists_left xs ys (prefix_at keys level i) (left.every i j from before inside e)
          | inl behind ↦ elim (cases_lt s i) [
            | inl later ↦ lists_right xs ys (prefix_at keys level i)
                (right.every i j (omega arith) before to e)
            | inr earlier ↦ absurd (omega (
              arith,
              e,
              apart,
              prefix_le keys ok level deep i s earlier (omega arith),
              prefix_le keys ok level deep (s + 1) j (omega arith) (omega arith),
            ))
          ]
        ];
        rising = rising-append xs ys (prefix_at keys level s) (prefix_at keys level (s + 1)) apart left.rising
            right.rising left.high right.low;
        low = All-append (λ c. prefix_at keys level a ≤ c.prefix) xs ys left.low
            (All-weaker (λ c. prefix_at keys level (s + 1) ≤ c.prefix) (λ c. prefix_at keys level a ≤ c.prefix)
            (λ c le. omega (arith, le, prefix_le keys ok level deep a (s + 1) (omega arith) (omega arith))) ys right.low);
        high = All-append (λ c. c.prefix ≤ prefix_at keys level b) xs ys
            (All-weaker (λ c. c.prefix ≤ prefix_at keys level s) (λ c. c.prefix ≤ prefix_at keys level b)
            (λ c le. omega (arith, le, prefix_le keys ok level deep s b (omega arith) h)) xs left.high) right.high;
      }

  -- the cells of a key that stands alone are right
  of_single : (a b : ℕ) → a ≡ b → b < length keys → IsApart keys level a b →
      AreCellsIn a b (cells_in keys level a b)
  of_single a b e h apart =
      subst (AreCellsIn a b) (sym (cells_of_one keys ok level deep a b (one_run keys level a b e h apart) e))
      (of_one a b e)

  -- so each range that stands alone has its cells
  in_range : (f a b : ℕ) → b ≤ a + f → a ≤ b → b < length keys → IsApart keys level a b →
      AreCellsIn a b (cells_in keys level a b)
  in_range zero a b enough le h apart = of_single a b (omega arith) h apart
  in_range (suc f) a b enough le h apart = elim (cases_eq a b) [
    | inl e ↦ of_single a b e h apart
    | inr ne ↦
        let lt : a < b = omega arith in
        elim (cases_lt (shared_level keys a b) level) [
          | inr shared ↦
              let run = run_from_shared keys ok level deep a b le h shared apart in
              subst (AreCellsIn a b) (sym (cells_of_run keys ok level deep a b run lt)) (of_run a b run lt)
          | inl less ↦
              let s : ℕ = split keys a b in
              let q = split_laws keys ok a b s lt h refl in
              subst (AreCellsIn a b) (sym (cells_in-parted keys level a s b q.low q.high))
              (of_parts a s b (cells_in keys level a s) (cells_in keys level (s + 1) b) q.low q.high h
              (prefixes_differ keys ok level deep s (suc s) (omega (arith, q.high)) (omega (arith, q.high))
              (middle_differs keys ok level deep a b s lt h refl less))
              (in_range f a s (omega (arith, q.high)) q.low (omega (arith, q.high))
              (left_apart keys ok level deep a b s lt h refl less apart))
              (in_range f (s + 1) b (omega (arith, q.low)) (omega (arith, q.high)) h
              (right_apart keys ok level deep a b s lt h refl less apart)))
        ]
  ]

  -- where no key is there, no cell is
  none_are_cells : length keys ≡ 0 → AreCells keys level []
  none_are_cells none = record {
    each = All-nil (IsCell keys level);
    every = λ i j before inside e. absurd (omega arith);
    rising = λ i j d before inside. absurd (omega arith);
  }

  -- the cells of the whole range are the cells of the keys
  some_are_cells : (list : List Cell) → 0 < length keys → AreCellsIn 0 (length keys - 1) list → AreCells keys level list
  some_are_cells list some has = record {
    each = has.each;
    every = λ i j before inside e. has.every i j (omega arith) before (omega arith) e;
    rising = has.rising;
  }

  -- the function's list has the cells of its level
  pub are_cells : AreCells keys level (cells_of keys level)
  are_cells = elim (cases_eq (length keys) 0) [
    | inl e ↦ subst (AreCells keys level) (sym (cells_of-empty keys level e)) (none_are_cells e)
    | inr ne ↦
        let last : ℕ = length keys - 1 in
        some_are_cells (cells_of keys level) (omega arith)
        (subst (AreCellsIn 0 last) (sym (cells_of-whole keys level (omega arith)))
        (in_range last 0 last (omega arith) (omega arith) (omega arith) (whole_apart keys level)))
  ]
