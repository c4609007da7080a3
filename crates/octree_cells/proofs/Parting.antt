-- The cells of a range are those of its two parts; at a level that the range does not share each part stands alone.
use Rattle.std.proofs.Common.{◌≡◌, ℕ, suc, zero, ◌+◌, ◌-◌, ◌<◌, ◌≤◌, sym, ap, ◌∙◌, arith, List, [], ◌∷◌, ◌++◌, length, append_assoc, cond}
use Rattle.morton_key.specs.declared.keys.Key.{Key}
use Rattle.morton_key.specs.declared.keys.TheConstants.{LEVELS}
use Rattle.morton_key.specs.Keys.{IsLawful}
use Rattle.radix_tree.specs.Split.{split}
use Rattle.radix_tree.proofs.SplitLaws.{split_laws}
use Rattle.octree_cells.specs.declared.cell.Cell.{Cell}
use Rattle.octree_cells.specs.Cells.{prefix_at}
use Rattle.octree_cells.specs.CellsOf.{is_cell_at, cell_at, cells_from, cells_of}
use Rattle.octree_cells.specs.Levels.{shared_level, IsApart, cells_in}
use Rattle.octree_cells.proofs.Prefixes.{prefixes_differ, prefix_from_shared, shared_from_gap}
use Rattle.octree_cells.proofs.Runs.{IsRun}

-- so many positions and then others
pub cells_from-add : (keys : List Key) (level i m n : ℕ) →
    cells_from keys level i (m + n) ≡ cells_from keys level i m ++ cells_from keys level (i + m) n
unfolding cells_from
cells_from-add keys level i zero n =
    let none : zero + n ≡ n = omega arith in
    let here : i ≡ i + zero = omega arith in
    ap (cells_from keys level i) none ∙ ap (λ k. cells_from keys level k n) here
cells_from-add keys level i (suc m) n =
    let more : suc m + n ≡ suc (m + n) = omega arith in
    let there : suc i + m ≡ i + suc m = omega arith in
    let own : List Cell = cond (is_cell_at keys level i) (cell_at keys level i ∷ []) [] in
    ap (cells_from keys level i) more
    ∙ (ap (λ xs. own ++ xs) (cells_from-add keys level (suc i) m n
    ∙ ap (λ k. cells_from keys level (suc i) m ++ cells_from keys level k n) there)
    ∙ sym (append_assoc own (cells_from keys level (suc i) m) (cells_from keys level (i + suc m) n)))

-- the cells of a range, from those of its parts
pub cells_in-parted : (keys : List Key) (level a s b : ℕ) → a ≤ s → s < b →
    cells_in keys level a b ≡ cells_in keys level a s ++ cells_in keys level (s + 1) b
unfolding cells_in
cells_in-parted keys level a s b low high =
    let count : suc b - a ≡ suc s - a + (suc b - (s + 1)) = omega arith in
    let there : a + (suc s - a) ≡ s + 1 = omega arith in
    ap (cells_from keys level a) count
    ∙ (cells_from-add keys level a (suc s - a) (suc b - (s + 1))
    ∙ ap (λ k. cells_from keys level a (suc s - a) ++ cells_from keys level k (suc b - (s + 1))) there)

module _ (keys : List Key) (ok : IsLawful keys) (level : ℕ) (deep : level ≤ LEVELS) where
  -- the two sides of a split share no more than the whole range
  pub middle_differs : (a b s : ℕ) → a < b → b < length keys → split keys a b ≡ s → shared_level keys a b < level →
      shared_level keys s (suc s) < level
  middle_differs a b s lt h e less =
      let q = split_laws keys ok a b s lt h e in
      omega (
        arith,
        less,
        shared_from_gap keys ok s (suc s) a b (omega (arith, q.high)) (omega (arith, q.high)) (omega arith) h
            (omega (arith, q.middle)),
      )

  -- so at a level that the range does not share the left part stands alone
  pub left_apart : (a b s : ℕ) → a < b → b < length keys → split keys a b ≡ s → shared_level keys a b < level →
      IsApart keys level a b → IsApart keys level a s
  left_apart a b s lt h e less apart =
      let q = split_laws keys ok a b s lt h e in
      record {
        before = apart.before;
        after = λ _. prefixes_differ keys ok level deep s (suc s) (omega (arith, q.high)) (omega (arith, q.high))
            (middle_differs a b s lt h e less);
      }

  -- and the right one
  pub right_apart : (a b s : ℕ) → a < b → b < length keys → split keys a b ≡ s → shared_level keys a b < level →
      IsApart keys level a b → IsApart keys level (s + 1) b
  right_apart a b s lt h e less apart =
      let q = split_laws keys ok a b s lt h e in
      let here : s + 1 - 1 ≡ s = omega arith in
      let next : s + 1 ≡ suc s = omega arith in
      record {
        before = λ _. rw (here, next) (prefixes_differ keys ok level deep s (suc s) (omega (arith, q.high))
            (omega (arith, q.high)) (middle_differs a b s lt h e less));
        after = apart.after;
      }

  -- a range that shares the level, and stands alone, is a run
  pub run_from_shared : (a b : ℕ) → a ≤ b → b < length keys → level ≤ shared_level keys a b →
      IsApart keys level a b → IsRun keys level a b
  run_from_shared a b le h shared apart = record {
    order = le;
    within = h;
    shared = prefix_from_shared keys ok level deep a b (omega arith) h shared;
    apart = apart;
  }

-- one key that stands alone is a run
pub one_run : (keys : List Key) (level a b : ℕ) → a ≡ b → b < length keys → IsApart keys level a b →
    IsRun keys level a b
one_run keys level a b e h apart =
    record { order = omega arith; within = h; shared = ap (prefix_at keys level) e; apart = apart }

-- the cells of a level are those of the whole range
pub cells_of-whole : (keys : List Key) (level : ℕ) → 0 < length keys →
    cells_of keys level ≡ cells_in keys level 0 (length keys - 1)
unfolding cells_of cells_in
cells_of-whole keys level some = let count : length keys ≡ suc (length keys - 1) - 0 = omega arith in
    ap (cells_from keys level 0) count

-- no key makes no cell
pub cells_of-empty : (keys : List Key) (level : ℕ) → length keys ≡ 0 → cells_of keys level ≡ []
unfolding cells_of cells_from
cells_of-empty keys level e = ap (cells_from keys level 0) e

-- the whole range stands alone
pub whole_apart : (keys : List Key) (level : ℕ) → IsApart keys level 0 (length keys - 1)
whole_apart keys level = record { before = λ pos. absurd (omega arith); after = λ more. absurd (omega arith) }
