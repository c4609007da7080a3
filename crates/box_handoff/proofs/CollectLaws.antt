-- To collect at a node is the machine's event on the state that is shown.
use Rattle.std.proofs.Common.{◌≡◌, ℕ, ◌+◌, ◌^◌, ◌≤◌, true, List, sym, refl, ap, ◌∙◌, subst, arith}
use Rattle.std.specs.Prelude.{bit_or}
use Rattle.std.proofs.Math.ListN.{length-set}
use mathlib.Core.Option.{Option as Maybe, none, some}
use lib.ListN.{get_elem?}
use Rattle.atomic_table.specs.Table as table
use Rattle.atomic_table.specs.Table.{step, Allows}
use Rattle.arrival_core.specs.declared.packets.Packet.{Packet}
use Rattle.arrival_core.specs.declared.packets.Load.{Load}
use Rattle.arrival_core.specs.declared.packets.Phase.{Phase}
use Rattle.arrival_core.specs.declared.packets.Phase.TheVariants.{Second, Collecting}
use Rattle.arrival_core.specs.declared.packets.Place.{Place}
use Rattle.arrival_core.specs.declared.packets.Place.TheVariants.{Holds, Out}
use Rattle.arrival_core.specs.Frames.{Frame, other, packet_at}
use Rattle.arrival_core.specs.States.{Worker, State}
use Rattle.arrival_core.specs.Events as core
use Rattle.arrival_core.specs.Events.{put, event, event_in, held}
use Rattle.box_handoff.specs.declared.slots.SlotPacket.{SlotPacket}
use Rattle.box_handoff.specs.declared.views.Event.TheVariants.{Collect}
use Rattle.box_handoff.specs.declared.views.Given.{Given}
use Rattle.box_handoff.specs.declared.views.View.{View}
use Rattle.box_handoff.specs.Slots.{packed}
use Rattle.box_handoff.specs.LiveNodes.{Shown, slotted}
use Rattle.box_handoff.specs.Entries.{Numbers, numbers, one, frame, grown, after, moved, worker_of}
use Rattle.box_handoff.specs.Rule.{Rule, Shows, out, side_no, slot, by_slot, by_word}
use Rattle.box_handoff.specs.Plays.{Mine, mine, next_view, load_of, lent, Collected}
use Rattle.box_handoff.proofs.FrameOf.{met}
use Rattle.box_handoff.proofs.Sites.{Site, site_of}
use Rattle.box_handoff.proofs.Standing.{held_worker, small, phase_is, stands, few_after, is_full}
use Rattle.box_handoff.proofs.WordLaws.{with_bit, side_set, side_kept, node_kept, batch_kept, place_set, side_le}
use Rattle.box_handoff.proofs.SlotLaws.{slots_apart}
use Rattle.box_handoff.proofs.Lending.{homes_set, length_homes, lends, lends_valid, lends_homes, lends_carried}

module _ (g : Given) (id : ℕ) (me : Mine) (is : me.0 ≡ one g (mine me)) (l : Load) (slots : ℕ)
    (seen : Shown (frame g) l.split) (phase : (mine me).phase ≡ Second l) where
  abbrev f : Frame
  f = frame g

  abbrev N : Numbers
  N = numbers g

  -- where it works, on the other side
  abbrev here : Site
  here = site_of g l.split (other l.side)

  -- the bit that is set
  abbrev bit : ℕ
  bit = 4 + side_no (other l.side)

  -- the packet of the other child
  abbrev theirs : Packet
  theirs = packet_at f l.split (other l.side)

  module _ (s : table.State SlotPacket View) (h : Rule g s) (at : get_elem? s.views id ≡ some me.0) where
    abbrev m : State
    m = h.machine

    -- the state after it
    abbrev done : State
    done = core.collect (mine me).number l m

    -- the event of the machine is this one
    event_is : event f (mine me).number m ≡ done
    unfolding event event_in
    event_is = ap (λ (p : Phase). event_in f (mine me).number p m) (phase_is g id me is s h at (Second l) phase)

    -- the other child's packet is in its place
    stood : m.place l.split (other l.side) ≡ Holds theirs
    stood = met g h.given m (mine me).number l (small g id me is s h at) h.lawful
        (phase_is g id me is s h at (Second l) phase)

    -- so it is in its slot
    there : here.has ≡ true → get_elem? s.homes here.spot ≡ some (some (packed (other l.side) theirs))
    there on = let was = h.shows.places l.split (other l.side) seen on in
        was.1 ∙ ap some (is_full (other l.side) was.0 (m.place l.split (other l.side)) theirs was.2 stood)

    -- it changes this worker alone
    worker_is : done.worker ≡ put m.worker (mine me).number (worker_of (grown f (mine me) Collect))
    unfolding core.collect after
    worker_is = ap (put m.worker (mine me).number)
        (ap (λ (w : Worker). record w {
          phase = Collecting l (held (m.place l.split (other l.side)) l.packet);
          tally = core.stepped w.tally;
        }) (held_worker g id me is s h at)
        ∙ ap (λ (p : Place). let w : Worker = record (worker_of (mine me)) {
          phase = Collecting l (held p l.packet);
          tally = core.stepped (mine me).tally;
        } in w) stood
        ∙ sym (ap (λ (p : Phase). moved f (worker_of (mine me)) Collect p) phase))

    -- the table shows the state after it
    shown : Shows f N (with_bit s.words here.word bit) (homes_set here.has s.homes here.spot none) done
    unfolding core.collect
    shown =
        let c = h.shows.word_count in
        let n = h.numbered in
        let le : side_no (other l.side) ≤ 1 = side_le (other l.side) in record {
          word_count = length-set s.words _ _ ∙ c;
          slot_count = length_homes here.has s.homes here.spot none ∙ h.shows.slot_count;
          claims = batch_kept f N n s.words l.split bit c seen m.claimed h.shows.claims;
          opened = side_kept f N n s.words l.split bit c seen 0 (by_word f m.opened)
              (λ d z. let ld : side_no d ≤ 1 = side_le d in omega arith) h.shows.opened;
          handed = side_kept f N n s.words l.split bit c seen 7 (by_slot f m.opened)
              (λ d z. omega arith) h.shows.handed;
          arrived = side_kept f N n s.words l.split bit c seen 2 m.arrived
              (λ d z. let ld : side_no d ≤ 1 = side_le d in omega arith) h.shows.arrived;
          collected = side_set f N n s.words l.split bit c seen 4 (other l.side) m.collected refl h.shows.collected;
          returned = node_kept f N n s.words l.split bit c seen 6 m.returned (λ z. omega arith) h.shows.returned;
          places = place_set f N n s.homes m.place l.split (other l.side) none (Out (mine me).number)
              h.shows.slot_count seen (λ t e lt on. slots_apart g h.given l.split (other l.side) t e seen lt on)
              (out (mine me).number) h.shows.places here.has refl;
        }

  -- the step on that word is allowed
  collecting_at : Allows (Rule g) slots id me here.word (λ n. bit_or n (2 ^ bit))
      (Collected (step slots here.word (2 ^ bit) 0 none) me)
  collecting_at s h sized at fits =
      let e = event_is s h at in
      let w = worker_is s h at in (
        one g (grown f (mine me) Collect),
        lends here.has here.spot (packed (other l.side) theirs),
        lends_valid here.has s.homes me.1 here.spot (packed (other l.side) theirs) (there s h at),
        stands g id me is s h at Collect (done s h at) e w _ _
            (subst (λ (x : List (Maybe SlotPacket)). Shows f N (with_bit s.words here.word bit) x (done s h at))
            (sym (lends_homes here.has s.homes me.1 here.spot (packed (other l.side) theirs))) (shown s h at)),
        (
          ap (λ (c : List (ℕ × SlotPacket)). (one g (grown f (mine me) Collect), c))
              (lends_carried here.has me.1 here.spot (packed (other l.side) theirs))
              ∙ ap (λ (x : Given). (
                one x (grown (frame x) (mine me) Collect),
                lent (slotted (frame x) l.split (other l.side)) (slot ((numbers x).number l.split) (other l.side))
                    (packed (other l.side) (packet_at (frame x) l.split (other l.side))) me.1,
              ))
              (sym (ap (λ (x : View). x.given) is))
              ∙ ap (λ (x : Load). (
                next_view me Collect,
                lent (slotted (frame me.0.given) x.split (other x.side))
                    (slot ((numbers me.0.given).number x.split) (other x.side))
                    (packed (other x.side) (packet_at (frame me.0.given) x.split (other x.side))) me.1,
              ))
              (sym (ap load_of phase)),
          few_after g id me is s h at Collect (done s h at) e w,
        ),
      )

  -- what the step on the node's word requires
  pub collecting : (word mask : ℕ) → word ≡ here.word → mask ≡ 2 ^ bit →
      Allows (Rule g) slots id me word (λ n. bit_or n mask) (Collected (step slots word mask 0 none) me)
  collecting word mask w k =
      subst (λ (x : ℕ). Allows (Rule g) slots id me x (λ n. bit_or n mask)
      (Collected (step slots x mask 0 none) me))
      (sym w)
      (subst (λ (x : ℕ). Allows (Rule g) slots id me here.word (λ n. bit_or n x)
      (Collected (step slots here.word x 0 none) me))
      (sym k) collecting_at)
