-- What is taken of a child tells its range, where all leaves are live: a child with no slot is a leaf.
use Rattle.std.proofs.Common.{◌≡◌, ◌<◌, ◌-◌, ◌+◌, ℕ, suc, true, false, List, length, sym, refl, ap, ◌∙◌, subst, arith, inl, inr}
use Rattle.std.specs.Prelude.{Option, Some, None, IfSome, slice_set}
use Rattle.std.proofs.Math.ListN.{length-set}
use Rattle.radix_tree.specs.declared.nodes.Node.{Node}
use Rattle.arrival_core.specs.Frames.{Below, packet_at, packet_below}
use Rattle.arrival_core.specs.Frames.Below.{leaf, inner}
use Rattle.arrival_core.specs.declared.packets.Packet.{Packet}
use Rattle.arrival_core.specs.declared.packets.Side.{Side}
use Rattle.arrival_core.specs.declared.packets.Side.TheVariants.{Left, Right}
use Rattle.arrival_core.specs.Tasks.{IsWhole}
use Rattle.arrival_core.proofs.SplitNames.{Named, named}
use Rattle.box_handoff.specs.declared.views.Given.{Given}
use Rattle.box_handoff.specs.LiveNodes.{slot_below, slotted}
use Rattle.box_handoff.specs.Entries.{IsGiven, frame, setting_of}
use Rattle.box_handoff.specs.Packets.{child_packet}
use Rattle.box_handoff.specs.Gathering.{IsTaken}
use Rattle.box_handoff.specs.Assembling.{row, first_taken, last_taken, PutsChild, PutsRoot, PutsSlot}
use Rattle.box_handoff.proofs.FrameOf.{frame_is, nodes_is}
use Rattle.box_handoff.proofs.HandedLaws.{leaf_one, inner_more}
use Rattle.box_handoff.proofs.ReadLaws.{child_is}
use Rattle.box_handoff.proofs.WholeFrame.{all_live_nodes}
use Rattle.box_handoff.proofs.PacketRows.{left_tells, right_tells}
use Rattle.box_handoff.proofs.AssembleLaws.{right_within}

-- a list stays as long
pub slot_count : (old new : List Node) (k : ℕ) (o : Option Packet) → PutsSlot old new k o → length new ≡ length old
slot_count old new k (Some p) puts = ap (λ xs. length xs) puts ∙ length-set old k (row p)
slot_count old new k None puts = ap (λ xs. length xs) puts

-- the root is put from packets that are those of its children
pub puts_both : (old new : List Node) (s : ℕ) (l r k m : Packet) → l ≡ k → r ≡ m → PutsRoot old new s l r →
    PutsRoot old new s k m
puts_both old new s l r k m a b puts = subst (λ (x : Packet). PutsRoot old new s x m) a
    (subst (λ (x : Packet). PutsRoot old new s l x) b puts)

module _ (g : Given) (ok : IsGiven g) (whole : IsWhole (setting_of g)) where
  -- what has a slot has more than one position
  below_more : (x : Below) → ((t : ℕ) → x ≡ inner t → t < (frame g).nodes) → slot_below (frame g) x ≡ true →
      (packet_below (frame g) x).first < (packet_below (frame g) x).last
  unfolding slot_below
  below_more (leaf p) within on = let no : true ≡ false = sym on in cc
  below_more (inner t) within on = inner_more g ok t (within t refl)

  -- what has none has one
  below_one : (x : Below) → ((t : ℕ) → x ≡ inner t → t < (frame g).nodes) → slot_below (frame g) x ≡ false →
      (packet_below (frame g) x).last ≡ (packet_below (frame g) x).first
  unfolding slot_below
  below_one (leaf p) within off = leaf_one g ok p
  below_one (inner t) within off =
      let no : true ≡ false = sym (all_live_nodes g whole t (within t refl)) ∙ off in cc

  -- and so it is with the children of a node
  child_more : (t : ℕ) (d : Side) → t < (frame g).nodes → slotted (frame g) t d ≡ true →
      (child_packet g.keys g.boxes t d).first < (child_packet g.keys g.boxes t d).last
  unfolding slotted packet_at
  child_more t d lt on = subst (λ (p : Packet). p.first < p.last) (child_is g t d)
      (below_more ((frame g).child t d) (λ k e. (frame_is g ok).child_node t d k lt e) on)

  -- one that has no slot is a leaf: it begins where it ends
  child_one : (t : ℕ) (d : Side) → t < (frame g).nodes → slotted (frame g) t d ≡ false →
      (child_packet g.keys g.boxes t d).last ≡ (child_packet g.keys g.boxes t d).first
  unfolding slotted packet_at
  child_one t d lt off = subst (λ (p : Packet). p.last ≡ p.first) (child_is g t d)
      (below_one ((frame g).child t d) (λ k e. (frame_is g ok).child_node t d k lt e) off)

  -- the row that is put is the child's, if that is inner
  pub puts_child : (t k : ℕ) (d : Side) (o : Option Packet) → t < (frame g).nodes → IsTaken g t d o →
      (old new : List Node) → PutsSlot old new k o → PutsChild old new k (child_packet g.keys g.boxes t d)
  puts_child t k d (Some p) lt is old new puts = inl (
    child_more t d lt is.0,
    puts ∙ ap (λ (q : Packet). slice_set old k (row q)) is.1,
  )
  puts_child t k d None lt is old new puts =
      let one = child_one t d lt is in inr (omega (arith, one), puts)

  -- a right child that is inner has the row behind its parent's split
  pub right_room : (t n : ℕ) (o : Option Packet) → n ≡ length g.keys - 1 → t < n → IsTaken g t Right o →
      IfSome o (λ p. t + 1 < n)
  right_room t n (Some p) count lt is =
      let nodes = nodes_is g ok in
      let r = right_within g.keys whole.lawful g.boxes t p (omega (arith, count, lt)) is.1
      (subst (λ (q : Packet). q.first < q.last) (sym is.1)
      (child_more t Right (omega (arith, nodes, count, lt)) is.0)) in
      omega (arith, r, count)
  right_room t n None count lt is = tt

  -- where a left child begins
  pub first_there : (t : ℕ) (o : Option Packet) → t < length g.keys - 1 → IsTaken g t Left o →
      first_taken t o ≡ (child_packet g.keys g.boxes t Left).first
  first_there t (Some p) lt is = ap (λ (q : Packet). q.first) is.1
  first_there t None lt is =
      let nodes = nodes_is g ok in
      let node : Named g.keys whole.lawful t = named g.keys whole.lawful t (omega (arith, lt)) in
      let tells = left_tells g.keys whole.lawful g.boxes t _ node.node node.parts refl in
      sym tells.last ∙ child_one t Left (omega (arith, nodes, lt)) is

  -- where a right child ends
  pub last_there : (t : ℕ) (o : Option Packet) → t < length g.keys - 1 → IsTaken g t Right o →
      last_taken t o ≡ (child_packet g.keys g.boxes t Right).last
  last_there t (Some p) lt is = ap (λ (q : Packet). q.last) is.1
  last_there t None lt is =
      let nodes = nodes_is g ok in
      let node : Named g.keys whole.lawful t = named g.keys whole.lawful t (omega (arith, lt)) in
      let tells = right_tells g.keys whole.lawful g.boxes t _ node.node node.parts refl in
      let next : t + 1 ≡ suc t = omega arith in
      next ∙ sym tells.first ∙ sym (child_one t Right (omega (arith, nodes, lt)) is)
