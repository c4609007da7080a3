-- The same tree by a function, with its height and its rows.
use Rattle.std.specs.Prelude.{ℕ, suc, zero, ◌-◌, ◌==◌, if◌then◌else◌, List, [], ◌∷◌, ◌++◌, max, length, Option, find}
use Rattle.morton_key.specs.declared.keys.Key.{Key}
use Rattle.radix_tree.specs.Split.{split}

-- a leaf at a position, or an inner node with its range, its split and its children
pub data Shape : Type 0 where
  leaf : ℕ → Shape
  fork : ℕ → ℕ → ℕ → Shape → Shape → Shape

-- the tree over [a, b], down to so many levels
unfoldable pub grown : List Key → ℕ → ℕ → ℕ → Shape
grown keys zero a b = leaf a
grown keys (suc f) a b =
    if a == b
    then leaf a
    else fork a b (split keys a b) (grown keys f a (split keys a b)) (grown keys f (suc (split keys a b)) b)

-- the tree over a range
unfoldable pub shape_in : List Key → ℕ → ℕ → Shape
shape_in keys a b = grown keys (b - a) a b

-- the tree over all keys
unfoldable pub shape_of : List Key → Shape
shape_of keys = shape_in keys 0 (length keys - 1)

-- the greatest count of inner nodes on a way down to a leaf
unfoldable pub height_of : Shape → ℕ
height_of (leaf p) = 0
height_of (fork a b s l r) = suc (max (height_of l) (height_of r))

-- an inner node: its number, the first and last position of its range, and its split
pub record Row : Type 0 where
  pub number : ℕ
  pub first : ℕ
  pub last : ℕ
  pub split : ℕ

-- the inner nodes of a tree whose root has number i
unfoldable pub rows : ℕ → Shape → List Row
rows i (leaf p) = []
rows i (fork a b s l r) = record { number = i; first = a; last = b; split = s } ∷ (rows s l ++ rows (suc s) r)

-- the inner node of that number
unfoldable pub row_at : List Key → ℕ → Option Row
row_at keys k = find (λ r. r.number == k) (rows 0 (shape_of keys))
