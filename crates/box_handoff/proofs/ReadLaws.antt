-- Packets are taken out of a closed table one by one.
use Rattle.std.proofs.Common.{◌≡◌, ◌≢◌, ℕ, zero, suc, ◌+◌, ◌<◌, ◌≤◌, ⊎_elim, inl, inr, Bool, true, false, List, [], ◌∷◌, ◌++◌, length, set, get_or, sym, refl, ap, ◌∙◌, subst, arith}
use Rattle.std.specs.Prelude.{slice_index}
use Rattle.std.proofs.lemmas.List.{get_or-set_other}
use Rattle.std.proofs.lemmas.Bool.{cases_eq, cases_lt}
use Rattle.std.proofs.Math.ListN.{length-append, get_or-append}
use Rattle.std.proofs.Math.Seq.{get_or-append_seam}
use mathlib.Core.Option.{some, some-injective, some-ne-none}
use lib.ListN.{get_elem?}
use Rattle.fixed_box.specs.declared.shapes.Box3.{Box3}
use Rattle.morton_key.specs.declared.keys.Key.{Key}
use Rattle.arrival_core.specs.declared.packets.Packet.{Packet}
use Rattle.arrival_core.specs.declared.packets.Side.{Side}
use Rattle.arrival_core.specs.Frames.{Below, packet_at, packet_below}
use Rattle.arrival_core.specs.Frames.Below.{leaf, inner}
use Rattle.arrival_core.specs.Settings.{Setting, frame_of, child_of}
use Rattle.box_handoff.specs.declared.slots.SlotPacket.{SlotPacket}
use Rattle.box_handoff.specs.declared.views.Given.{Given}
use Rattle.box_handoff.specs.Slots.{packed, unpacked}
use Rattle.box_handoff.specs.LiveNodes.{Shown, slotted, splits_of}
use Rattle.box_handoff.specs.Entries.{IsGiven, setting_of, frame, numbers}
use Rattle.box_handoff.specs.Rule.{slot, bit_on, side_no, node_word}
use Rattle.box_handoff.specs.Packets.{packet_of, child_packet, ArePacketsOf}
use Rattle.box_handoff.specs.Gathering.{AreKept, AreFlags, IsTaking, HasBefore}
use Rattle.box_handoff.proofs.SplitLists.{listed_shown}
use Rattle.box_handoff.proofs.NumberLaws.{counted, listed}
use Rattle.box_handoff.proofs.PackLaws.{unpacked_packed}

-- the packet of what has a range speaks of keys and boxes alone
below_is : (x : Setting) (b : Below) → packet_below (frame_of x) b ≡ packet_of x.keys x.boxes b
unfolding packet_below packet_of frame_of
below_is x (leaf p) = refl
below_is x (inner s) = refl

-- so does that of a child
pub child_is : (g : Given) (t : ℕ) (d : Side) → packet_at (frame g) t d ≡ child_packet g.keys g.boxes t d
unfolding frame packet_at frame_of
child_is g t d = below_is (setting_of g) (child_of g.keys t d)

-- what a slot keeps and is unpacked is the child's packet
pub unpacked_child : (g : Given) → IsGiven g → (t : ℕ) (d : Side) (k : SlotPacket) (p : Packet) → t < (frame g).nodes →
    k ≡ packed d (packet_at (frame g) t d) → p ≡ unpacked t d k → p ≡ child_packet g.keys g.boxes t d
unpacked_child g ok t d k p lt kept is = is ∙ ap (unpacked t d) kept ∙ unpacked_packed g ok t d lt ∙ child_is g t d

-- what is taken out of a child's slot is what that keeps
pub taken_is : (g : Given) → IsGiven g → (items : List SlotPacket) (i at split : ℕ) (d : Side) (k : SlotPacket) →
    AreKept g items → i < length (splits_of (frame g)) → at ≡ slot i d →
    split ≡ slice_index (splits_of (frame g)) i → get_elem? items at ≡ some k →
    slotted (frame g) split d ≡ true → k ≡ packed d (packet_at (frame g) split d)
taken_is g ok items i at split d k kept lt at_is split_is got on =
    let seen : Shown (frame g) split = subst (Shown (frame g)) (sym split_is) (listed_shown (frame g) i lt) in
    let place : at ≡ slot ((numbers g).number split) d
    = at_is ∙ ap (λ (n : ℕ). slot n d) (sym (ap (numbers g).number split_is ∙ listed g ok i lt)) in
    some-injective k (packed d (packet_at (frame g) split d))
    (sym got ∙ ap (λ (n : ℕ). get_elem? items n) place ∙ kept split d seen on)

-- what is found at a place of a list of words stands there
got_word : (words : List ℕ) (k word : ℕ) → get_elem? words k ≡ some word → get_or words k 0 ≡ word
got_word [] k word e = absurd (some-ne-none word (sym e))
got_word (x ∷ xs) zero word e = some-injective x word e
got_word (x ∷ xs) (suc k) word e = got_word xs k word e

-- a listed split is a node's
pub listed_low : (g : Given) → IsGiven g → (i split : ℕ) → i < (numbers g).count →
    split ≡ slice_index (splits_of (frame g)) i → split < (frame g).nodes
listed_low g ok i split lt is =
    let k = counted g ok in
    subst (λ (n : ℕ). n < (frame g).nodes) (sym is) (listed_shown (frame g) i (omega (arith, lt, k))).0

-- a bit of its word tells whether a child of it has a slot
pub told_at : (g : Given) → IsGiven g → (words : List ℕ) (filled : List Bool) (count i split base word : ℕ) (d : Side) →
    AreFlags g words filled count → i < (numbers g).count → split ≡ slice_index (splits_of (frame g)) i →
    base ≡ (frame g).batches → get_elem? words (base + i) ≡ some word →
    bit_on word (7 + side_no d) ≡ slotted (frame g) split d
told_at g ok words filled count i split base word d flags lt is at got =
    let k = counted g ok in
    let low : i < length (splits_of (frame g)) = omega (arith, lt, k) in
    let seen : Shown (frame g) split = subst (Shown (frame g)) (sym is) (listed_shown (frame g) i low) in
    let number : i ≡ (numbers g).number split = sym (ap (numbers g).number is ∙ listed g ok i low) in
    let place : base + i ≡ (frame g).batches + (numbers g).number split = omega (arith, at, number) in
    let there : word ≡ node_word (frame g) (numbers g) words split
    = sym (got_word words (base + i) word got) ∙ ap (λ (n : ℕ). get_or words n 0) place in
    ap (λ (n : ℕ). bit_on n (7 + side_no d)) there ∙ flags.tells split d seen

-- one packet more
pub one_more : (keys : List Key) (boxes : List Box3) (splits : List ℕ) (d : Side) (t : ℕ) (packets more : List Packet)
    (p : Packet) →
    ArePacketsOf keys boxes splits d t packets → p ≡ child_packet keys boxes (slice_index splits t) d →
    more ≡ packets ++ p ∷ [] → ArePacketsOf keys boxes splits d (t + 1) more
one_more keys boxes splits d t packets more p h is e =
    subst (λ (l : List Packet). ArePacketsOf keys boxes splits d (t + 1) l) (sym e) (record {
      count_is = length-append packets (p ∷ []) ∙ ap (λ (n : ℕ). n + 1) h.count_is;
      each = λ s q lt. elim (cases_lt s t) [
        | inl less ↦ get_or-append packets (p ∷ []) q s (omega (arith, less, h.count_is)) ∙ h.each s q less
        | inr at ↦
            let same : t ≡ s = omega (arith, lt, at) in
            subst (λ (n : ℕ). get_or (packets ++ p ∷ []) n q ≡ child_packet keys boxes (slice_index splits n) d) same
            (ap (λ (n : ℕ). get_or (packets ++ p ∷ []) n q) (sym h.count_is) ∙ get_or-append_seam packets p [] q ∙ is)
      ];
    })

-- what is set to false is false
set_false : (l : List Bool) (i : ℕ) → get_or (set l i false) i false ≡ false
set_false [] i = refl
set_false (x ∷ xs) zero = refl
set_false (x ∷ xs) (suc i) = set_false xs i

-- one slot more is empty
module _ (filled : List Bool) (t : ℕ) where
  -- those behind are full as before
  pub still_full : (k : ℕ) → t + 1 ≤ k → get_or (set filled t false) k false ≡ get_or filled k false
  still_full k low = get_or-set_other filled t k false false (λ z. omega (arith, z, low))

  -- those before are empty
  pub now_empty : ((k : ℕ) → k < t → get_or filled k false ≡ false) → (k : ℕ) → k < t + 1 →
      get_or (set filled t false) k false ≡ false
  now_empty before k low = ⊎_elim
      (λ (e : k ≡ t). subst (λ (n : ℕ). get_or (set filled t false) n false ≡ false) (sym e) (set_false filled t))
      (λ (n : k ≢ t). get_or-set_other filled t k false false n ∙ before k (omega (arith, low, n))) (cases_eq k t)

-- a table of which one slot more is out
pub one_out : (g : Given) (items now : List SlotPacket) (filled emptied : List Bool) (count len t : ℕ) →
    IsTaking g items filled count t → now ≡ items → emptied ≡ set filled t false → len ≡ count →
    IsTaking g now emptied len (t + 1)
one_out g items now filled emptied count len t was same e n = record {
  kept = subst (AreKept g) (sym same) was.kept;
  places = n ∙ was.places;
  full = λ k low high. ap (λ (l : List Bool). get_or l k false) e ∙ still_full filled t k low
      ∙ was.full k (omega (arith, low)) (omega (arith, n, high));
  empty = λ k low. ap (λ (l : List Bool). get_or l k false) e ∙ now_empty filled t was.empty k low;
}

-- and the one that was taken is the one before the next node
pub has_before : (g : Given) (items now : List SlotPacket) (filled emptied : List Bool) (count len t : ℕ)
    (here : SlotPacket) → IsTaking g items filled count t → now ≡ items → emptied ≡ set filled t false → len ≡ count →
    get_elem? items t ≡ some here → HasBefore g now emptied len t here
has_before g items now filled emptied count len t here was same e n got = record {
  taking = one_out g items now filled emptied count len t was same e n;
  here_is = ap (λ (l : List SlotPacket). get_elem? l t) same ∙ got;
}
