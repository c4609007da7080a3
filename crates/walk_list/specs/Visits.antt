-- A visit of a walk to a record, and to the two parts below it. No public clause cites this module.
use Rattle.std.specs.Prelude.{ℕ, ◌<◌, ◌⊎◌, ℤ, List, length}
use Rattle.fixed_box.specs.declared.shapes.Point.{Point}
use Rattle.fixed_box.specs.declared.shapes.Tri.{Tri}
use Rattle.fixed_box.specs.World.{InWorld}
use Rattle.segment_hit.specs.declared.line.Line.{Line}
use Rattle.segment_hit.specs.Lines.{IsLineOf, IsPassageOf}
use Rattle.walk_list.specs.declared.visits.Visit.{Visit}
use Rattle.walk_list.specs.Lists.{Contents}
use Rattle.walk_list.specs.Parts.{IsSubtreeAt}
use Rattle.walk_list.specs.Records.{record_at}
use Rattle.walk_list.specs.Reaches.{IsScene, StandsFrom}

-- a line is the segment's, its ends and the triangles lie in the world, and the leaves are some of these
pub record IsAim (f : Contents) (tris : List Tri) (p q : Point) (l : Line) : Type 0 where
  pub line : IsLineOf p q l
  pub scene : IsScene f.leaves tris
  pub begins : InWorld p
  pub ends : InWorld q

-- the walk stands at a subtree's record, and the segment goes through its box as the visit says
pub record IsVisit (f : Contents) (p q : Point) (whole : ℤ) (v : Visit) : Type 0 where
  pub within : v.at < length f.records
  pub subtree : IsSubtreeAt f.leaves f.records v.at v.position
  pub way : IsPassageOf p q (record_at f.records v.at).fit whole v.way

-- the numbers of a visit's leaves
abbrev pub LeavesOf : Contents → Visit → ℕ → Type 0
LeavesOf f v number = StandsFrom f.leaves v.position (record_at f.records v.at).end number

-- two visits that have all leaves of a third between them, further on in the list
pub record AreParts (f : Contents) (p q : Point) (whole : ℤ) (v a b : Visit) : Type 0 where
  pub first : IsVisit f p q whole a
  pub second : IsVisit f p q whole b
  pub first_on : v.at < a.at
  pub second_on : v.at < b.at
  pub all : (n : ℕ) → LeavesOf f v n → LeavesOf f a n ⊎ LeavesOf f b n
