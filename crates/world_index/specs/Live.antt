-- Where each triangle stands in the order of a tree, and which positions a fit has to look at: those of the triangles
-- that use a vertex that was moved. No public clause cites this module.
use Rattle.std.specs.Prelude.{◌≡◌, ◌⊎◌, ℕ, ◌-◌, ◌<◌, ◌≤◌, List, length, slice_index_or}
use Rattle.std.specs.List.{AllPairs, Contains}
use Rattle.morton_key.specs.declared.keys.Key.{Key}
use Rattle.morton_key.specs.Keys.{tri_at}
use Rattle.obj_text.specs.declared.face.Face.{Face}
use Rattle.refit.specs.Listing.{ListsBut}
use Rattle.world_index.specs.Fans.{HasVertex, face_at}

-- no corner of the face was moved
abbrev pub IsStill : List ℕ → Face → Type 0
IsStill moved face = (v : ℕ) → Contains moved v → ¬ HasVertex face v

-- the triangle that stands at a position uses no vertex that was moved
abbrev pub StandsStill : List Face → List Key → List ℕ → ℕ → Type 0
StandsStill faces keys moved p = IsStill moved (face_at faces (tri_at keys p - 1))

-- the live positions, rising: of all positions those, and those alone, of the triangles that use a moved vertex
abbrev pub AreLive : List Face → List Key → List ℕ → List ℕ → Type 0
AreLive faces keys moved = ListsBut (StandsStill faces keys moved) (length keys)

-- ---- the order, turned round

-- the position at which a triangle stands, counted from 0
abbrev pub position_at : List ℕ → ℕ → ℕ
position_at positions t = slice_index_or positions t 0

-- as many positions as there are keys, and those of the first n keys stand at their triangles
pub record ArePositionsTo (positions : List ℕ) (keys : List Key) (n : ℕ) : Type 0 where
  pub count : length positions ≡ length keys
  pub each : (p : ℕ) → p < n → position_at positions (tri_at keys p - 1) ≡ p

-- the same of all keys
abbrev pub ArePositions : List ℕ → List Key → Type 0
ArePositions positions keys = ArePositionsTo positions keys (length keys)

-- ---- positions, gathered from the triangles at moved vertices

-- the position is that of a triangle that uses the vertex
pub record IsOfFan (faces : List Face) (positions : List ℕ) (v p : ℕ) : Type 0 where
  pub triangle : ℕ
  pub within : triangle < length faces
  pub uses : HasVertex (face_at faces triangle) v
  pub position : position_at positions triangle ≡ p

-- positions were added: those of the triangles from a number on that use the vertex, and no other
pub record AddsFan (faces : List Face) (positions : List ℕ) (v from : ℕ) (before after : List ℕ) : Type 0 where
  pub kept : (p : ℕ) → Contains before p → Contains after p
  pub all : (t : ℕ) → t < length faces → HasVertex (face_at faces t) v → from ≤ t →
      Contains after (position_at positions t)
  pub alone : (p : ℕ) → Contains after p → Contains before p ⊎ IsOfFan faces positions v p

-- the positions of the triangles that use one of the first n vertices, and no other
pub record AreOfFans (faces : List Face) (positions moved : List ℕ) (n : ℕ) (list : List ℕ) : Type 0 where
  pub all : (t k : ℕ) → t < length faces → k < n → HasVertex (face_at faces t) (slice_index_or moved k 0) →
      Contains list (position_at positions t)
  pub alone : (p : ℕ) → Contains list p →
      (k : ℕ) × (k < n) × IsOfFan faces positions (slice_index_or moved k 0) p

-- and they rise
pub record AreSortedFans (faces : List Face) (positions moved list : List ℕ) : Type 0 where
  pub rising : AllPairs (λ p q. p < q) list
  pub fans : AreOfFans faces positions moved (length moved) list
