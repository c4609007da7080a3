-- What a look at some triangles does to the best hit so far, which the crate's own functions cite.
-- No public clause cites this module.
use Rattle.std.specs.Prelude.{ℕ, ◌≡◌, ◌≤◌, ◌⊎◌, List, Option, None, Some, IfSome, IsSomeAnd}
use Rattle.fixed_box.specs.declared.shapes.Point.{Point}
use Rattle.fixed_box.specs.declared.shapes.Tri.{Tri}
use Rattle.morton_key.specs.declared.keys.Key.{Key}
use Rattle.morton_key.specs.Keys.{tri_at}
use Rattle.segment_hit.specs.Meeting.{IsHit}
use Rattle.segment_hit.specs.FractionOrder.{IsBelow, IsBehind}
use Rattle.segment_hit.specs.declared.fraction.Frac.{Frac}
use Rattle.segment_hit.specs.declared.stretch.Entry.{Entry}
use Rattle.traversal.specs.Nearest.{triangle_of, IsMet}

-- of two hits, each a triangle's number and a fraction, the first is nearer, or as near and of no higher number
abbrev pub IsNoFarther : ℕ × Frac → ℕ × Frac → Type 0
IsNoFarther h k = IsBelow h.1 k.1 ⊎ ((h.1 ≡ k.1) × (h.0 ≤ k.0))

-- the triangle of that number stands at a position from a to b
abbrev pub StandsIn : List Key → ℕ → ℕ → ℕ → Type 0
StandsIn keys a b number = (i : ℕ) × (a ≤ i) × (i ≤ b) × (tri_at keys i ≡ number)

-- the best hit before and after a look at some triangles: it is that before or a hit, and no farther than that before
-- or than any of theirs
pub record Nears (tris : List Tri) (p q : Point) (seen : ℕ → Type 0) (before after : Option (ℕ × Frac)) : Type 0 where
  pub taken : IfSome after (λ h. (before ≡ Some h) ⊎ IsMet tris p q h.0 h.1)
  pub kept : (h : ℕ × Frac) → before ≡ Some h → IsSomeAnd after (λ k. IsNoFarther k h)
  pub beats : (number : ℕ) (at : Frac) → seen number → IsHit p q (triangle_of tris number) at →
      IsSomeAnd after (λ k. IsNoFarther k (number, at))

-- what the place where a segment enters a box, if it does, tells of some triangles: none is met where there is none,
-- and else none before it
pub record Screens (tris : List Tri) (p q : Point) (seen : ℕ → Type 0) (at : Option Entry) : Type 0 where
  pub missed : at ≡ None → (number : ℕ) (f : Frac) → seen number → IsHit p q (triangle_of tris number) f → ⊥
  pub behind : IfSome at (λ e. (best : Frac) → IsBehind e best →
      (number : ℕ) (f : Frac) → seen number → IsHit p q (triangle_of tris number) f → IsBelow best f)
