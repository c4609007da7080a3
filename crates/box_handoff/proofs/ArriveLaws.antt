-- To arrive at a node is the machine's event on the state that is shown.
use Rattle.std.proofs.Common.{◌≡◌, ℕ, ◌+◌, ◌^◌, ◌≤◌, Bool, true, List, [], sym, refl, ap, ◌∙◌, subst, arith}
use Rattle.std.specs.Prelude.{slice_index, bit_or, ◌&&◌, if◌then◌else◌}
use Rattle.std.proofs.Math.ListN.{length-set}
use mathlib.Core.Option.{Option as Maybe, none, some}
use lib.ListN.{get_elem?}
use Rattle.atomic_table.specs.Table as table
use Rattle.atomic_table.specs.Table.{step, Allows}
use Rattle.arrival_core.specs.declared.packets.Load.{Load}
use Rattle.arrival_core.specs.declared.packets.Phase.{Phase}
use Rattle.arrival_core.specs.declared.packets.Phase.TheVariants.{Opened, Second}
use Rattle.arrival_core.specs.declared.packets.Place.TheVariants.{Holds}
use Rattle.arrival_core.specs.Frames.{Frame, other}
use Rattle.arrival_core.specs.States.{Worker, State}
use Rattle.arrival_core.specs.Events as core
use Rattle.arrival_core.specs.Events.{put, resume, event, event_in}
use Rattle.box_handoff.specs.declared.slots.SlotPacket.{SlotPacket}
use Rattle.box_handoff.specs.declared.views.Event.TheVariants.{Arrive}
use Rattle.box_handoff.specs.declared.views.Given.{Given}
use Rattle.box_handoff.specs.declared.views.View.{View}
use Rattle.box_handoff.specs.Slots.{packed}
use Rattle.box_handoff.specs.LiveNodes.{Shown, slotted}
use Rattle.box_handoff.specs.Entries.{Numbers, numbers, one, frame, grown, after, moved, worker_of}
use Rattle.box_handoff.specs.Rule.{Rule, Shows, full, bit_on, side_no, slot, by_slot, by_word}
use Rattle.box_handoff.specs.Plays.{Mine, mine, next_view, load_of, lent, without, Arrived}
use Rattle.box_handoff.proofs.Sites.{Site, site_of}
use Rattle.box_handoff.proofs.Standing.{held_worker, phase_is, stands, few_after, arrived_opened}
use Rattle.box_handoff.proofs.WordLaws.{with_bit, side_set, side_kept, node_kept, batch_kept, place_set, side_le}
use Rattle.box_handoff.proofs.SlotLaws.{slots_apart}
use Rattle.box_handoff.proofs.Lending.{homes_set, length_homes, returns, returns_valid, returns_homes, returns_carried}

module _ (g : Given) (id : ℕ) (me : Mine) (is : me.0 ≡ one g (mine me)) (l : Load) (slots : ℕ)
    (seen : Shown (frame g) l.split) (phase : (mine me).phase ≡ Opened l)
    (holds : me.1 ≡ lent (slotted (frame g) l.split l.side) (slot ((numbers g).number l.split) l.side)
    (packed l.side l.packet) []) where
  abbrev f : Frame
  f = frame g

  abbrev N : Numbers
  N = numbers g

  -- where it works, on the side
  abbrev here : Site
  here = site_of g l.split l.side

  -- the bit that is set
  abbrev bit : ℕ
  bit = 2 + side_no l.side

  module _ (s : table.State SlotPacket View) (h : Rule g s) (at : get_elem? s.views id ≡ some me.0) where
    abbrev m : State
    m = h.machine

    -- the state after it
    abbrev done : State
    done = core.arrive f (mine me).number l m

    -- whether the other side had arrived
    abbrev found : Bool
    found = bit_on (slice_index s.words here.word) (2 + side_no (other l.side))

    -- the event of the machine is this one
    event_is : event f (mine me).number m ≡ done
    unfolding event event_in
    event_is = ap (λ (p : Phase). event_in f (mine me).number p m) (phase_is g id me is s h at (Opened l) phase)

    -- what an arrival makes of a worker, by whether the other side had arrived
    abbrev arrived : Worker → Bool → Worker
    arrived w b =
        if b
        then record w { phase = Second l; tally = core.stepped w.tally }
        else resume f w.next w.pending (core.stepped w.tally)

    -- it changes this worker alone
    worker_is : done.worker ≡ put m.worker (mine me).number (worker_of (grown f (mine me) (Arrive found)))
    unfolding core.arrive after
    worker_is = ap (put m.worker (mine me).number)
        (ap (λ (w : Worker). arrived w (m.arrived l.split (other l.side))) (held_worker g id me is s h at)
        ∙ ap (arrived (worker_of (mine me))) (h.shows.arrived l.split (other l.side) seen)
        ∙ sym (ap (λ (p : Phase). moved f (worker_of (mine me)) (Arrive found) p) phase))

    -- the table shows the state after it
    shown : Shows f N (with_bit s.words here.word bit)
        (homes_set here.has s.homes here.spot (some (packed l.side l.packet))) done
    unfolding core.arrive
    shown =
        let c = h.shows.word_count in
        let n = h.numbered in
        let le : side_no l.side ≤ 1 = side_le l.side in record {
          word_count = length-set s.words _ _ ∙ c;
          slot_count = length_homes here.has s.homes here.spot (some (packed l.side l.packet)) ∙ h.shows.slot_count;
          claims = batch_kept f N n s.words l.split bit c seen m.claimed h.shows.claims;
          opened = side_kept f N n s.words l.split bit c seen 0 (by_word f m.opened)
              (λ d z. let ld : side_no d ≤ 1 = side_le d in omega arith) h.shows.opened;
          handed = side_kept f N n s.words l.split bit c seen 7 (by_slot f m.opened)
              (λ d z. omega arith) h.shows.handed;
          arrived = side_set f N n s.words l.split bit c seen 2 l.side m.arrived refl h.shows.arrived;
          collected = side_kept f N n s.words l.split bit c seen 4 m.collected (λ d z. omega arith) h.shows.collected;
          returned = node_kept f N n s.words l.split bit c seen 6 m.returned (λ z. omega arith) h.shows.returned;
          places = place_set f N n s.homes m.place l.split l.side (some (packed l.side l.packet)) (Holds l.packet)
              h.shows.slot_count seen (λ t e lt on. slots_apart g h.given l.split l.side t e seen lt on)
              (full l.packet) h.shows.places here.has refl;
        }

    -- a side that has arrived is opened, so a bit tells whether its child has a slot
    across : found ≡ true → bit_on (slice_index s.words here.word) (7 + side_no (other l.side))
        ≡ slotted f l.split (other l.side)
    across came = sym (h.shows.handed l.split (other l.side) seen)
        ∙ ap (λ (b : Bool). b && slotted f l.split (other l.side))
        (arrived_opened f m l.split (other l.side) seen.0 h.lawful
        (h.shows.arrived l.split (other l.side) seen ∙ came))

  -- the step on that word is allowed
  arriving_at : Allows (Rule g) slots id me here.word (λ n. bit_or n (2 ^ bit))
      (Arrived (step slots here.word (2 ^ bit) 0 none) me)
  arriving_at s h sized at fits =
      let ev = Arrive (found s h at) in
      let e = event_is s h at in
      let w = worker_is s h at in (
        one g (grown f (mine me) ev),
        returns here.has,
        returns_valid here.has s.homes me.1,
        stands g id me is s h at ev (done s h at) e w _ _
            (subst (λ (x : List (Maybe SlotPacket)). Shows f N (with_bit s.words here.word bit) x (done s h at))
            (sym (returns_homes here.has s.homes me.1 here.spot (packed l.side l.packet) holds)) (shown s h at)),
        (
          ap (λ (c : List (ℕ × SlotPacket)). (one g (grown f (mine me) ev), c)) (returns_carried here.has me.1)
              ∙ ap (λ (x : Given). (
                one x (grown (frame x) (mine me) ev),
                without (slotted (frame x) l.split l.side) me.1,
              )) (sym (ap (λ (x : View). x.given) is))
              ∙ ap (λ (x : Load). (
                next_view me
                    (Arrive (bit_on (slice_index s.words here.word) (2 + side_no (other x.side)))),
                without (slotted (frame me.0.given) x.split x.side) me.1,
              ))
              (sym (ap load_of phase)),
          few_after g id me is s h at ev (done s h at) e w,
          subst (λ (x : Load). bit_on (slice_index s.words here.word) (2 + side_no (other x.side)) ≡ true →
              bit_on (slice_index s.words here.word) (7 + side_no (other x.side))
              ≡ slotted (frame me.0.given) x.split (other x.side)) (sym (ap load_of phase))
              (subst (λ (x : Given). found s h at ≡ true →
              bit_on (slice_index s.words here.word) (7 + side_no (other l.side))
              ≡ slotted (frame x) l.split (other l.side))
              (sym (ap (λ (x : View). x.given) is)) (across s h at)),
        ),
      )

  -- what the step on the node's word requires
  pub arriving : (word mask : ℕ) → word ≡ here.word → mask ≡ 2 ^ bit →
      Allows (Rule g) slots id me word (λ n. bit_or n mask) (Arrived (step slots word mask 0 none) me)
  arriving word mask w k =
      subst (λ (x : ℕ). Allows (Rule g) slots id me x (λ n. bit_or n mask) (Arrived (step slots x mask 0 none) me))
      (sym w)
      (subst (λ (x : ℕ). Allows (Rule g) slots id me here.word (λ n. bit_or n x)
      (Arrived (step slots here.word x 0 none) me))
      (sym k) arriving_at)
