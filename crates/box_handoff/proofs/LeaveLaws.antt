-- To leave a node is the machine's event on the state that is shown.
use Rattle.std.proofs.Common.{◌≡◌, ℕ, ◌≤◌, List, [], sym, refl, ap, ◌∙◌, subst, arith}
use Rattle.std.specs.Prelude.{bit_or}
use Rattle.std.proofs.Math.ListN.{length-set}
use mathlib.Core.Option.{Option as Maybe, none, some}
use lib.ListN.{get_elem?}
use Rattle.atomic_table.specs.Table as table
use Rattle.atomic_table.specs.Table.{step, Allows}
use Rattle.arrival_core.specs.declared.packets.Packet.{Packet}
use Rattle.arrival_core.specs.declared.packets.Load.{Load}
use Rattle.arrival_core.specs.declared.packets.Phase.{Phase}
use Rattle.arrival_core.specs.declared.packets.Phase.TheVariants.{Collecting}
use Rattle.arrival_core.specs.declared.packets.Place.TheVariants.{Holds}
use Rattle.arrival_core.specs.Frames.{Frame, other}
use Rattle.arrival_core.specs.States.{State}
use Rattle.arrival_core.specs.Events as core
use Rattle.arrival_core.specs.Events.{put, event, event_in, go_up, join}
use Rattle.box_handoff.specs.declared.slots.SlotPacket.{SlotPacket}
use Rattle.box_handoff.specs.declared.views.Event.TheVariants.{Leave}
use Rattle.box_handoff.specs.declared.views.Given.{Given}
use Rattle.box_handoff.specs.declared.views.View.{View}
use Rattle.box_handoff.specs.Slots.{packed}
use Rattle.box_handoff.specs.LiveNodes.{Shown, slotted}
use Rattle.box_handoff.specs.Entries.{Numbers, numbers, one, frame, grown, after, moved, worker_of}
use Rattle.box_handoff.specs.Rule.{Rule, Shows, full, side_no, slot, by_slot, by_word}
use Rattle.box_handoff.specs.Plays.{Mine, mine, next_view, load_of, lent, without, DidLeave}
use Rattle.box_handoff.proofs.Sites.{Site, site_of}
use Rattle.box_handoff.proofs.Standing.{held_worker, phase_is, stands, few_after}
use Rattle.box_handoff.proofs.WordLaws.{with_bit, side_kept, node_set, batch_kept, place_set, side_le}
use Rattle.box_handoff.proofs.SlotLaws.{slots_apart}
use Rattle.box_handoff.proofs.Lending.{homes_set, length_homes, returns, returns_valid, returns_homes, returns_carried}

module _ (g : Given) (id : ℕ) (me : Mine) (is : me.0 ≡ one g (mine me)) (l : Load) (slots : ℕ)
    (seen : Shown (frame g) l.split) (found : Packet) (phase : (mine me).phase ≡ Collecting l found)
    (holds : me.1 ≡ lent (slotted (frame g) l.split (other l.side)) (slot ((numbers g).number l.split) (other l.side))
    (packed (other l.side) found) []) where
  abbrev f : Frame
  f = frame g

  abbrev N : Numbers
  N = numbers g

  -- where it works, on the other side
  abbrev here : Site
  here = site_of g l.split (other l.side)

  module _ (s : table.State SlotPacket View) (h : Rule g s) (at : get_elem? s.views id ≡ some me.0) where
    abbrev m : State
    m = h.machine

    -- the state after it
    abbrev done : State
    done = core.leave f (mine me).number l found m

    -- the event of the machine is this one
    event_is : event f (mine me).number m ≡ done
    unfolding event event_in
    event_is = ap (λ (p : Phase). event_in f (mine me).number p m)
        (phase_is g id me is s h at (Collecting l found) phase)

    -- it changes this worker alone
    worker_is : done.worker ≡ put m.worker (mine me).number (worker_of (grown f (mine me) Leave))
    unfolding core.leave after
    worker_is = ap (put m.worker (mine me).number)
        (ap (go_up f (f.above_node l.split) (join l.split l.side l.packet found)) (held_worker g id me is s h at)
        ∙ sym (ap (λ (p : Phase). moved f (worker_of (mine me)) Leave p) phase))

    -- the table shows the state after it
    shown : Shows f N (with_bit s.words here.word 6)
        (homes_set here.has s.homes here.spot (some (packed (other l.side) found))) done
    unfolding core.leave
    shown =
        let c = h.shows.word_count in
        let n = h.numbered in record {
          word_count = length-set s.words _ _ ∙ c;
          slot_count = length_homes here.has s.homes here.spot (some (packed (other l.side) found))
              ∙ h.shows.slot_count;
          claims = batch_kept f N n s.words l.split 6 c seen m.claimed h.shows.claims;
          opened = side_kept f N n s.words l.split 6 c seen 0 (by_word f m.opened)
              (λ d z. let ld : side_no d ≤ 1 = side_le d in omega arith) h.shows.opened;
          handed = side_kept f N n s.words l.split 6 c seen 7 (by_slot f m.opened)
              (λ d z. omega arith) h.shows.handed;
          arrived = side_kept f N n s.words l.split 6 c seen 2 m.arrived
              (λ d z. let ld : side_no d ≤ 1 = side_le d in omega arith) h.shows.arrived;
          collected = side_kept f N n s.words l.split 6 c seen 4 m.collected
              (λ d z. let ld : side_no d ≤ 1 = side_le d in omega arith) h.shows.collected;
          returned = node_set f N n s.words l.split 6 c seen m.returned h.shows.returned;
          places = place_set f N n s.homes m.place l.split (other l.side) (some (packed (other l.side) found))
              (Holds found) h.shows.slot_count seen
              (λ t e lt on. slots_apart g h.given l.split (other l.side) t e seen lt on) (full found) h.shows.places
              here.has refl;
        }

  -- the step on that word is allowed
  leaving_at : Allows (Rule g) slots id me here.word (λ n. bit_or n 64) (DidLeave (step slots here.word 64 0 none) me)
  leaving_at s h sized at fits =
      let e = event_is s h at in
      let w = worker_is s h at in (
        one g (grown f (mine me) Leave),
        returns here.has,
        returns_valid here.has s.homes me.1,
        stands g id me is s h at Leave (done s h at) e w _ _
            (subst (λ (x : List (Maybe SlotPacket)). Shows f N (with_bit s.words here.word 6) x (done s h at))
            (sym (returns_homes here.has s.homes me.1 here.spot (packed (other l.side) found) holds)) (shown s h at)),
        (
          ap (λ (c : List (ℕ × SlotPacket)). (one g (grown f (mine me) Leave), c)) (returns_carried here.has me.1)
              ∙ ap (λ (x : Given). (
                one x (grown (frame x) (mine me) Leave),
                without (slotted (frame x) l.split (other l.side)) me.1,
              )) (sym (ap (λ (x : View). x.given) is))
              ∙ ap (λ (x : Load). (
                next_view me Leave,
                without (slotted (frame me.0.given) x.split (other x.side)) me.1,
              )) (sym (ap load_of phase)),
          few_after g id me is s h at Leave (done s h at) e w,
        ),
      )

  -- what the step on the node's word requires
  pub leaving : (word mask : ℕ) → word ≡ here.word → mask ≡ 64 →
      Allows (Rule g) slots id me word (λ n. bit_or n mask) (DidLeave (step slots word mask 0 none) me)
  leaving word mask w k =
      subst (λ (x : ℕ). Allows (Rule g) slots id me x (λ n. bit_or n mask) (DidLeave (step slots x mask 0 none) me))
      (sym w)
      (subst (λ (x : ℕ). Allows (Rule g) slots id me here.word (λ n. bit_or n x)
      (DidLeave (step slots here.word x 0 none) me))
      (sym k) leaving_at)
