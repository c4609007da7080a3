-- The live inner nodes, by their splits. Public contracts cite it.
use Rattle.std.specs.Prelude.{ℕ, suc, zero, Bool, true, false, ◌≡◌, ◌<◌, if◌then◌else◌, List, [], ◌∷◌, Option, Some, None}
use Rattle.arrival_core.specs.declared.packets.Side.{Side}
use Rattle.arrival_core.specs.Frames.{Frame, Below}
use Rattle.arrival_core.specs.Frames.Below.{leaf, inner}

-- the node is one of the tree, and live
abbrev pub Shown : Frame → ℕ → Type 0
Shown f t = (t < f.nodes) × (f.live_node t ≡ true)

-- whether what stands there has a slot: a live inner node has, and nothing else
unfoldable pub slot_below : Frame → Below → Bool
slot_below f (leaf p) = false
slot_below f (inner t) = f.live_node t

-- whether the child on a side of a node has a slot
unfoldable pub slotted : Frame → ℕ → Side → Bool
slotted f s d = slot_below f (f.child s d)

-- the live ones of so many splits, from a split on
unfoldable pub live_splits : Frame → ℕ → ℕ → List ℕ
live_splits f a zero = []
live_splits f a (suc m) = if f.live_node a then a ∷ live_splits f (suc a) m else live_splits f (suc a) m

-- the splits of all live nodes, in order
abbrev pub splits_of : Frame → List ℕ
splits_of f = live_splits f 0 f.nodes

-- these are listed; where there is no list, all nodes are live
abbrev pub AreSpots : Frame → Option (List ℕ) → Type 0
AreSpots f None = (t : ℕ) → t < f.nodes → f.live_node t ≡ true
AreSpots f (Some xs) = xs ≡ splits_of f
