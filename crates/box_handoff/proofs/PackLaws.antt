-- What a slot keeps of a packet is all that its place does not tell.
use Rattle.std.proofs.Common.{◌≡◌, ap, ℕ, suc, ◌<◌, sym}
use Rattle.arrival_core.specs.declared.packets.Side.{Side}
use Rattle.arrival_core.specs.declared.packets.Side.TheVariants.{Left, Right}
use Rattle.arrival_core.specs.Frames.{packet_at}
use Rattle.arrival_core.specs.Settings.{Setting, frame_of}
use Rattle.arrival_core.specs.Tasks.{IsTask}
use Rattle.arrival_core.proofs.SplitRanges.{left_is, right_is, left_range, right_range, packet_of_range}
use Rattle.arrival_core.specs.declared.packets.Packet.{Packet}
use Rattle.box_handoff.specs.declared.views.Given.{Given}
use Rattle.box_handoff.specs.Entries.{IsGiven, setting_of, frame}
use Rattle.box_handoff.specs.Slots.{packed, unpacked}

-- a left child ends at its parent's split
left_ends : (x : Setting) (ok : IsTask x) (t : ℕ) → t < (frame_of x).nodes → (packet_at (frame_of x) t Left).last ≡ t
unfolding frame_of packet_at
left_ends x ok t lt = rw (left_is x ok t lt) (packet_of_range x ok _ t (left_range x ok t lt)).last

-- and a right one begins behind it
right_begins : (x : Setting) (ok : IsTask x) (t : ℕ) → t < (frame_of x).nodes →
    (packet_at (frame_of x) t Right).first ≡ suc t
unfolding frame_of packet_at
right_begins x ok t lt = rw (right_is x ok t lt) (packet_of_range x ok (suc t) _ (right_range x ok t lt)).first

-- the children of a node part at its split, so a slot keeps all that is not told by its place
pub unpacked_packed : (g : Given) → IsGiven g → (t : ℕ) (d : Side) → t < (frame g).nodes →
    unpacked t d (packed d (packet_at (frame g) t d)) ≡ packet_at (frame g) t d
unfolding frame
unpacked_packed g ok t Left lt = ap (λ (n : ℕ). let p : Packet = record
    (packet_at (frame_of (setting_of g)) t Left) { last = n } in p) (sym (left_ends (setting_of g) ok.task t lt))
unpacked_packed g ok t Right lt = ap (λ (n : ℕ). let p : Packet = record
    (packet_at (frame_of (setting_of g)) t Right) { first = n } in p) (sym (right_begins (setting_of g) ok.task t lt))
