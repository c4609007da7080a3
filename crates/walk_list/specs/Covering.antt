-- What it is that records cover leaves: the law of a walk list.
use Rattle.std.specs.Prelude.{ℕ, ◌≡◌, ◌+◌, ◌<◌, ◌≤◌, List, [], ◌∷◌, ◌++◌, length}
use Rattle.fixed_box.specs.declared.shapes.Box3.{Box3}
use Rattle.fixed_box.specs.Boxes.{Contains}
use Rattle.fixed_box.specs.World.{BoxInWorld}
use Rattle.walk_list.specs.declared.records.Leaf.{Leaf}
use Rattle.walk_list.specs.declared.records.Record.{Record}
use Rattle.walk_list.specs.Leaves.{leaf_at}

-- the records are those of one subtree, which has the leaves at positions from a up to b, b left out. The first is the
-- subtree's own: it ends where the leaves end, and its escape leads past them all. It stands alone, or the records of
-- two parts stand behind it, the one with the leaves up to some position, the other with those from there on. Of each
-- record, the box and the positions are as `bounds` says
pub data CoversBy (bounds : Box3 → ℕ → ℕ → Type 0) : List Record → ℕ → ℕ → Type 0 where
  run : {r : Record} {a b : ℕ} → r.escape ≡ 1 → r.end ≡ b → bounds r.fit a b → CoversBy bounds (r ∷ []) a b
  fork : {r : Record} {rs : List Record} {a b : ℕ} → (left right : List Record) (middle : ℕ) → rs ≡ left ++ right →
      r.escape ≡ 1 + length rs → r.end ≡ b → bounds r.fit a b →
      CoversBy bounds left a middle → CoversBy bounds right middle b → CoversBy bounds (r ∷ rs) a b

-- the box is in the world, and contains those of the leaves at positions from a up to b, b left out
pub record Bounds (leaves : List Leaf) (fit : Box3) (a b : ℕ) : Type 0 where
  pub order : a < b
  pub world : BoxInWorld fit
  pub each : (p : ℕ) → a ≤ p → p < b → Contains fit (leaf_at leaves p).fit

-- these records cover positions a to b: they are one subtree's, and each box contains those of its leaves
abbrev pub Covers : List Leaf → List Record → ℕ → ℕ → Type 0
Covers leaves records a b = CoversBy (Bounds leaves) records a b

-- the records cover all leaves; there are none where there is no leaf
abbrev pub CoversAll : List Leaf → List Record → Type 0
CoversAll leaves [] = length leaves ≡ 0
CoversAll leaves (r ∷ records) = Covers leaves (r ∷ records) 0 (length leaves)
