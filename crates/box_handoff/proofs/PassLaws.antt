-- What a passage of a node makes of a worker, and of the slot that is out with it.
use Rattle.std.proofs.Common.{◌≡◌, ℕ, ◌+◌, Bool, true, false, List, [], ◌∷◌, sym, refl, ap, ◌∙◌, arith, Option, Some, None}
use Rattle.std.specs.Prelude.{not}
use Rattle.arrival_core.specs.declared.packets.Packet.{Packet}
use Rattle.arrival_core.specs.declared.packets.Tally.{Tally}
use Rattle.arrival_core.specs.declared.packets.Side.{Side}
use Rattle.arrival_core.specs.declared.packets.Load.{Load}
use Rattle.arrival_core.specs.declared.packets.Phase.{Phase}
use Rattle.arrival_core.specs.declared.packets.Phase.TheVariants.{Opened, Second, Collecting}
use Rattle.arrival_core.specs.declared.packets.Up.{Up}
use Rattle.arrival_core.specs.Frames.{Frame, other, packet_at}
use Rattle.arrival_core.specs.States.{Worker}
use Rattle.arrival_core.specs.Events.{resume, stepped, fitted, go_up, join}
use Rattle.box_handoff.specs.declared.slots.SlotPacket.{SlotPacket}
use Rattle.box_handoff.specs.declared.views.Given.{Given}
use Rattle.box_handoff.specs.declared.views.Entry.{Entry}
use Rattle.box_handoff.specs.Entries.{IsGiven, frame, worker_of}
use Rattle.box_handoff.specs.Plays.{Mine, mine, IsSmall, lent}
use Rattle.box_handoff.specs.Slots.{packed, unpacked}
use Rattle.box_handoff.specs.Climbs.{IsCarried, in_phase, came_first, finds_other, leaves_with, came_second, takes_up}
use Rattle.box_handoff.proofs.PackLaws.{unpacked_packed}

-- what is not so is not not so
pub arrived_so : (b : Bool) → not b ≡ false → b ≡ true
arrived_so true e = refl
arrived_so false e = sym e

-- what is small after a step was small before
pub was_small : (l : Load) (s0 s1 : Mine) → worker_of (mine s1) ≡ in_phase (mine s0) (Opened l) →
    IsSmall (mine s1).tally → IsSmall (mine s0).tally
was_small l s0 s1 w small =
    let f : (mine s1).tally.fits ≡ (mine s0).tally.fits = ap (λ (x : Worker). x.tally.fits) w in
    let t : (mine s1).tally.steps ≡ (mine s0).tally.steps + 1 = ap (λ (x : Worker). x.tally.steps) w in
    record {
      fits = omega (arith, f, small.fits);
      steps = omega (arith, t, small.steps);
    }

-- who came first has had two steps
pub turned_back : (f : Frame) (l : Load) (s0 s1 s2 s3 : Mine) → worker_of (mine s1) ≡ in_phase (mine s0) (Opened l) →
    mine s2 ≡ mine s1 → worker_of (mine s3) ≡ resume f (mine s2).next (mine s2).pending (stepped (mine s2).tally) →
    worker_of (mine s3) ≡ came_first f (mine s0)
turned_back f l s0 s1 s2 s3 a b c =
    c ∙ ap (λ (e : Entry). resume f e.next e.pending (stepped e.tally)) b
    ∙ ap (λ (w : Worker). resume f w.next w.pending (stepped w.tally)) a
    ∙ ap (λ (n : ℕ). let t : Tally = record { fits = (mine s0).tally.fits; steps = n } in
    resume f (mine s0).next (mine s0).pending t)
    (let h : (mine s0).tally.steps + 1 + 1 ≡ (mine s0).tally.steps + 2 = omega arith in h)

-- a worker in another phase, after one step more
abbrev in_phase_of : Worker → Phase → Worker
in_phase_of w p = record { next = w.next; pending = w.pending; phase = p; tally = stepped w.tally }

-- so has who came second
pub found_other : (l : Load) (s0 s1 s2 s3 : Mine) → worker_of (mine s1) ≡ in_phase (mine s0) (Opened l) →
    mine s2 ≡ mine s1 → worker_of (mine s3) ≡ in_phase (mine s2) (Second l) →
    worker_of (mine s3) ≡ finds_other l (mine s0)
found_other l s0 s1 s2 s3 a b c =
    c ∙ ap (λ (x : Entry). in_phase x (Second l)) b ∙ ap (λ (w : Worker). in_phase_of w (Second l)) a
    ∙ ap (λ (n : ℕ). let w : Worker = record {
      next = (mine s0).next;
      pending = (mine s0).pending;
      phase = Second l;
      tally = record { fits = (mine s0).tally.fits; steps = n };
    } in w) (let h : (mine s0).tally.steps + 1 + 1 ≡ (mine s0).tally.steps + 2 = omega arith in h)

-- a worker goes up with its tally
up_is : (f : Frame) (u : Option Up) (p : Packet) (w : Worker) →
    go_up f u p w ≡ takes_up f u p w.next w.pending (fitted w.tally)
up_is f None p w = refl
up_is f (Some u) p w = refl

-- it leaves after two steps more, and a fit
pub left_with : (f : Frame) (l : Load) (theirs found : Packet) (s0 s1 s2 s3 : Mine) →
    worker_of (mine s1) ≡ in_phase (mine s0) (Collecting l theirs) → mine s2 ≡ mine s1 →
    worker_of (mine s3) ≡ go_up f (f.above_node l.split) (join l.split l.side l.packet found) (worker_of (mine s2)) →
    worker_of (mine s3) ≡ leaves_with f l found (worker_of (mine s0))
left_with f l theirs found s0 s1 s2 s3 a b c =
    let u : Option Up = f.above_node l.split in
    let p : Packet = join l.split l.side l.packet found in
    c ∙ ap (go_up f u p) (ap worker_of b ∙ a) ∙ up_is f u p (in_phase (mine s0) (Collecting l theirs))
    ∙ ap (λ (n : ℕ). let t : Tally = record { fits = (mine s0).tally.fits + 1; steps = n } in
    takes_up f u p (mine s0).next (mine s0).pending t)
    (let h : (mine s0).tally.steps + 1 + 1 ≡ (mine s0).tally.steps + 2 = omega arith in h)

-- in all after four
pub passed : (f : Frame) (l : Load) (found packet : Packet) (s0 s1 s2 : Mine) →
    worker_of (mine s1) ≡ finds_other l (mine s0) →
    worker_of (mine s2) ≡ leaves_with f l found (worker_of (mine s1)) →
    packet ≡ join l.split l.side l.packet found → worker_of (mine s2) ≡ came_second f l.split packet (mine s0)
passed f l found packet s0 s1 s2 a b made =
    let u : Option Up = f.above_node l.split in
    b ∙ ap (leaves_with f l found) a
    ∙ ap (λ (p : Packet). let t : Tally =
    record { fits = (mine s0).tally.fits + 1; steps = (mine s0).tally.steps + 2 + 2 } in
    takes_up f u p (mine s0).next (mine s0).pending t) (sym made)
    ∙ ap (λ (n : ℕ). let t : Tally = record { fits = (mine s0).tally.fits + 1; steps = n } in
    takes_up f u packet (mine s0).next (mine s0).pending t)
    (let h : (mine s0).tally.steps + 2 + 2 ≡ (mine s0).tally.steps + 4 = omega arith in h)

-- the phase once what was found has been read
pub holds_both : (l : Load) (theirs found : Packet) (s0 s1 s2 : Mine) →
    worker_of (mine s1) ≡ in_phase (mine s0) (Collecting l theirs) → s2 ≡ s1 → found ≡ theirs →
    (mine s2).phase ≡ Collecting l found
holds_both l theirs found s0 s1 s2 a b e =
    ap (λ (m : Mine). (mine m).phase) b ∙ ap (λ (w : Worker). w.phase) a ∙ ap (Collecting l) (sym e)

-- one slot is out alone
pub out_alone : (xs ys : List (ℕ × SlotPacket)) (j k : ℕ) (q : SlotPacket) → xs ≡ (k, q) ∷ ys → ys ≡ [] → j ≡ k →
    xs ≡ (j, q) ∷ []
out_alone xs ys j k q a e i =
    a ∙ ap (λ (z : List (ℕ × SlotPacket)). (k, q) ∷ z) e ∙ ap (λ (z : ℕ). (z, q) ∷ []) (sym i)

-- it is still out once it has been read
pub still_out : (b : Bool) (d : Side) (theirs found : Packet) (k : ℕ) (s0 s1 s2 : Mine) →
    s1.1 ≡ lent b k (packed d theirs) s0.1 → s0.1 ≡ [] → s2 ≡ s1 → found ≡ theirs →
    s2.1 ≡ lent b k (packed d found) []
still_out b d theirs found k s0 s1 s2 out home same e =
    ap (λ (m : Mine). m.1) same ∙ out ∙ ap (lent b k (packed d theirs)) home
    ∙ ap (λ (p : Packet). lent b k (packed d p) []) (sym e)

-- what stands in the slot that is out
first_kept : SlotPacket → List (ℕ × SlotPacket) → SlotPacket
first_kept d [] = d
first_kept d ((k, p) ∷ xs) = p

-- two ways to say what stands in the slot that is out
found_is : (xs : List (ℕ × SlotPacket)) (j k : ℕ) (p q : SlotPacket) (r : List (ℕ × SlotPacket)) →
    xs ≡ (j, p) ∷ [] → xs ≡ (k, q) ∷ r → p ≡ q
unfolding first_kept
found_is xs j k p q r a b = ap (first_kept p) (sym a ∙ b)

-- what is unpacked is the other child's packet
pub unpacked_is : (g : Given) → IsGiven g → (l : Load) → IsCarried (frame g) l →
    (xs : List (ℕ × SlotPacket)) (j k : ℕ) (p : SlotPacket) (found : Packet) (r : List (ℕ × SlotPacket)) (d : Side) →
    xs ≡ (j, p) ∷ [] → xs ≡ (k, packed (other l.side) (packet_at (frame g) l.split (other l.side))) ∷ r →
    d ≡ other l.side → found ≡ unpacked l.split d p → found ≡ packet_at (frame g) l.split (other l.side)
unpacked_is g ok l carried xs j k p found r d a b e is =
    is ∙ ap (λ (x : Side). unpacked l.split x p) e
    ∙ ap (unpacked l.split (other l.side)) (found_is xs j k p _ r a b)
    ∙ unpacked_packed g ok l.split (other l.side) carried.node
