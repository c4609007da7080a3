-- Which triangles use a vertex, and how chains of them tell. No public clause cites this module.
use Rattle.std.specs.Prelude.{◌≡◌, ◌⊎◌, ℕ, ◌-◌, ◌<◌, ◌≤◌, ◌==◌, List, length, slice_index_or, if◌then◌else◌}
use Rattle.obj_text.specs.declared.face.Face.{Face}
use Rattle.world_index.specs.declared.fans.Links.{Links}
use Rattle.world_index.specs.declared.fans.Fans.{Fans}

-- the face of a triangle, counted from 0
abbrev pub face_at : List Face → ℕ → Face
face_at faces t = slice_index_or faces t (record { a = 0; b = 0; c = 0 })

-- the face has the vertex at a corner
abbrev pub HasVertex : Face → ℕ → Type 0
HasVertex face v = (face.a ≡ v) ⊎ ((face.b ≡ v) ⊎ (face.c ≡ v))

-- x is one more than the last of the first n triangles that use the vertex, or 0 where none does
pub record IsLatest (faces : List Face) (n v x : ℕ) : Type 0 where
  pub all : (t : ℕ) → t < n → HasVertex (face_at faces t) v → t < x
  pub within : x ≤ n
  pub uses : 0 < x → HasVertex (face_at faces (x - 1)) v

-- the number that stands for a vertex
abbrev pub latest_at : List ℕ → ℕ → ℕ
latest_at latest v = slice_index_or latest v 0

-- the number that stands at the corner of a face that has the vertex
abbrev pub link_at : Links → Face → ℕ → ℕ
link_at links face v = if face.a == v then links.a else (if face.b == v then links.b else links.c)

-- the links of a triangle
abbrev pub links_at : List Links → ℕ → Links
links_at earlier t = slice_index_or earlier t (record { a = 0; b = 0; c = 0 })

-- the last of the first n triangles at each vertex, and from each of these, at each corner, the last before it
pub record AreFansTo (latest : List ℕ) (earlier : List Links) (faces : List Face) (count n : ℕ) : Type 0 where
  pub vertices : length latest ≡ count
  pub triangles : length earlier ≡ n
  pub last : (v : ℕ) → IsLatest faces n v (latest_at latest v)
  pub before : (t v : ℕ) → t < n → HasVertex (face_at faces t) v →
      IsLatest faces t v (link_at (links_at earlier t) (face_at faces t) v)

-- the same of all triangles
abbrev pub AreFans : Fans → List Face → ℕ → Type 0
AreFans fans faces vertices = AreFansTo fans.latest.items fans.earlier.items faces vertices (length faces)
