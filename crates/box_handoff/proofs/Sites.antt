-- Where a passage of a node works.
use Rattle.std.proofs.Common.{ℕ, ◌+◌, Bool}
use Rattle.arrival_core.specs.declared.packets.Side.{Side}
use Rattle.box_handoff.specs.declared.views.Given.{Given}
use Rattle.box_handoff.specs.LiveNodes.{slotted}
use Rattle.box_handoff.specs.Entries.{numbers, frame}
use Rattle.box_handoff.specs.Rule.{slot}

-- a node's word, the slot of its child on a side, and whether that child has one
pub record Site : Type 0 where
  pub word : ℕ
  pub spot : ℕ
  pub has : Bool

-- that of a side of the node with split `t`
abbrev pub site_of : Given → ℕ → Side → Site
site_of g t d = record {
  word = (frame g).batches + (numbers g).number t;
  spot = slot ((numbers g).number t) d;
  has = slotted (frame g) t d;
}
