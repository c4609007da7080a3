-- Whether the child whose packet a worker carries has a slot.
use Rattle.std.proofs.Common.{◌≡◌, ℕ, ◌<◌, ◌≤◌, inl, inr, Bool, true, false, sym, refl, ◌∙◌, subst, arith}
use Rattle.std.proofs.lemmas.Bool.{cases_Bool}
use Rattle.arrival_core.specs.declared.packets.Packet.{Packet}
use Rattle.arrival_core.specs.declared.packets.Load.{Load}
use Rattle.arrival_core.specs.Frames.{Below, packet_at, packet_below, live_at, live_below}
use Rattle.arrival_core.specs.Frames.Below.{leaf, inner}
use Rattle.arrival_core.specs.Settings.{frame_of}
use Rattle.arrival_core.proofs.SplitRanges.{first_is, last_is, low, high}
use Rattle.box_handoff.specs.declared.views.Given.{Given}
use Rattle.box_handoff.specs.LiveNodes.{slot_below, slotted}
use Rattle.box_handoff.specs.Entries.{IsGiven, setting_of, frame}
use Rattle.box_handoff.specs.Climbs.{IsCarried}
use Rattle.box_handoff.proofs.FrameOf.{frame_is}

module _ (g : Given) (ok : IsGiven g) where
  -- a leaf has one position
  pub leaf_one : (p : ℕ) → (packet_below (frame g) (leaf p)).last ≡ (packet_below (frame g) (leaf p)).first
  unfolding frame frame_of packet_below
  leaf_one p = refl

  -- an inner node has more
  pub inner_more : (t : ℕ) → t < (frame g).nodes →
      (packet_below (frame g) (inner t)).first < (packet_below (frame g) (inner t)).last
  unfolding frame frame_of packet_below
  inner_more t lt =
      let a = first_is (setting_of g) ok.task t lt in
      let b = last_is (setting_of g) ok.task t lt in
      let c = low (setting_of g) ok.task t lt in
      let d = high (setting_of g) ok.task t lt in
      omega (arith, a, b, c, d)

  -- so what is live has a slot where it has more than one
  more_tells : (x : Below) (p : Packet) (b : Bool) → p ≡ packet_below (frame g) x → live_below (frame g) x ≡ true →
      ((t : ℕ) → x ≡ inner t → t < (frame g).nodes) → (b ≡ true → p.first < p.last) → (b ≡ false → p.last ≤ p.first) →
      b ≡ slot_below (frame g) x
  unfolding slot_below live_below
  more_tells (leaf q) p b is live within several single = elim (cases_Bool b) [
    | inl on ↦
        let one : p.last ≡ p.first = subst (λ (z : Packet). z.last ≡ z.first) (sym is) (leaf_one q) in
        let more = several on in absurd (omega (arith, one, more))
    | inr off ↦ off
  ]
  more_tells (inner t) p b is live within several single = elim (cases_Bool b) [
    | inl on ↦ on ∙ sym live
    | inr off ↦
        let more : p.first < p.last = subst (λ (z : Packet). z.first < z.last) (sym is) (inner_more t (within t refl)) in
        let less = single off in absurd (omega (arith, less, more))
  ]

  -- and so has the child whose packet is carried
  pub handed_is : (l : Load) → IsCarried (frame g) l → (b : Bool) → (b ≡ true → l.packet.first < l.packet.last) →
      (b ≡ false → l.packet.last ≤ l.packet.first) → b ≡ slotted (frame g) l.split l.side
  unfolding slotted packet_at live_at
  handed_is l is b several single = more_tells ((frame g).child l.split l.side) l.packet b is.packet is.own
      (λ t e. (frame_is g ok).child_node l.split l.side t is.node e) several single
