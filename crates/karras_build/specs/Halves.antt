-- The two halves below a node while they are fitted, which the crate's own functions cite.
-- No public clause cites this module.
use Rattle.std.specs.Prelude.{ℕ, ◌+◌, List}
use Rattle.fixed_box.specs.declared.shapes.Box3.{Box3}
use Rattle.fixed_box.specs.Boxes.{IsLeastBox}
use Rattle.morton_key.specs.declared.keys.Key.{Key}
use Rattle.radix_tree.specs.declared.nodes.Node.{Node}
use Rattle.radix_tree.specs.Fit.{boxes_in}
use Rattle.karras_build.specs.declared.inputs.Inputs.{Inputs}
use Rattle.karras_build.specs.declared.inputs.Cut.{Cut}
use Rattle.karras_build.specs.Parts.{HasRows, IsPart}

-- a half is a part of the keys: the left one has its last position as its number, the right one its first
abbrev pub IsLeftHalf : List Key → ℕ → ℕ → ℕ → Type 0
IsLeftHalf keys first split count = IsPart keys split first split count

abbrev pub IsRightHalf : List Key → ℕ → ℕ → ℕ → Type 0
IsRightHalf keys split last count = IsPart keys (split + 1) (split + 1) last count

-- both halves, each with room for so many nodes
pub record AreHalves (keys : List Key) (cut : Cut) (lefts rights : ℕ) : Type 0 where
  pub left : IsLeftHalf keys cut.first cut.split lefts
  pub right : IsRightHalf keys cut.split cut.last rights

-- the nodes of a half are its rows, and the box is the least round it
pub record IsLeftFitted (x : Inputs) (first split : ℕ) (nodes : List Node) (fit : Box3) : Type 0 where
  pub rows : HasRows x (first + 1) nodes
  pub least : IsLeastBox (boxes_in x.boxes.now x.keys.now first split) fit

pub record IsRightFitted (x : Inputs) (split last : ℕ) (nodes : List Node) (fit : Box3) : Type 0 where
  pub rows : HasRows x (split + 1) nodes
  pub least : IsLeastBox (boxes_in x.boxes.now x.keys.now (split + 1) last) fit

-- both halves fitted
pub record AreHalvesFitted (x : Inputs) (cut : Cut) (lefts rights : List Node) (low high : Box3) : Type 0 where
  pub left : IsLeftFitted x cut.first cut.split lefts low
  pub right : IsRightFitted x cut.split cut.last rights high
