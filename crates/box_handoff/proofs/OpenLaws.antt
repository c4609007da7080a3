-- To open a side of a node is the machine's event on the state that is shown.
use Rattle.std.proofs.Common.{◌≡◌, ◌≢◌, ℕ, ◌+◌, ◌^◌, ◌≤◌, Bool, true, false, List, sym, refl, ap, ◌∙◌, subst, arith}
use Rattle.std.specs.Prelude.{bit_or}
use Rattle.std.proofs.Math.ListN.{length-set}
use mathlib.Core.Option.{Option as Maybe, none, some}
use lib.ListN.{get_elem?}
use Rattle.atomic_table.specs.Table as table
use Rattle.atomic_table.specs.Table.{step, Allows}
use Rattle.arrival_core.specs.declared.packets.Side.{Side}
use Rattle.arrival_core.specs.declared.packets.Load.{Load}
use Rattle.arrival_core.specs.declared.packets.Phase.{Phase}
use Rattle.arrival_core.specs.declared.packets.Phase.TheVariants.{Carry, Opened}
use Rattle.arrival_core.specs.declared.packets.Place.TheVariants.{Out}
use Rattle.arrival_core.specs.Frames.{Frame}
use Rattle.arrival_core.specs.States.{Worker, State}
use Rattle.arrival_core.specs.Events as core
use Rattle.arrival_core.specs.Events.{put, put_side, event, event_in}
use Rattle.box_handoff.specs.declared.slots.SlotPacket.{SlotPacket}
use Rattle.box_handoff.specs.declared.views.Event.TheVariants.{Open}
use Rattle.box_handoff.specs.declared.views.Given.{Given}
use Rattle.box_handoff.specs.declared.views.View.{View}
use Rattle.box_handoff.specs.Slots.{blank}
use Rattle.box_handoff.specs.LiveNodes.{Shown, slotted}
use Rattle.box_handoff.specs.Entries.{Numbers, numbers, one, frame, grown, after, moved, worker_of}
use Rattle.box_handoff.specs.Rule.{Rule, Shows, ShowsSide, out, side_no, slot, opened_bit, by_slot, by_word}
use Rattle.box_handoff.specs.Plays.{Mine, mine, next_view, load_of, lent, DidOpen}
use Rattle.box_handoff.proofs.FrameOf.{carried}
use Rattle.box_handoff.proofs.Sites.{Site, site_of}
use Rattle.box_handoff.proofs.Standing.{held_worker, small, phase_is, stands, few_after, is_empty}
use Rattle.box_handoff.proofs.WordLaws.{with_bit, side_set, side_kept, node_kept, batch_kept, place_set, side_le, side_equal}
use Rattle.box_handoff.proofs.HandLaws.{opened_apart, slot_more, slot_same, word_more, word_same}
use Rattle.box_handoff.proofs.SlotLaws.{slots_apart}
use Rattle.box_handoff.proofs.Lending.{homes_set, length_homes, lends, lends_valid, lends_homes, lends_carried}

module _ (g : Given) (id : ℕ) (me : Mine) (is : me.0 ≡ one g (mine me)) (l : Load) (slots : ℕ)
    (seen : Shown (frame g) l.split) (phase : (mine me).phase ≡ Carry l) where
  abbrev f : Frame
  f = frame g

  abbrev N : Numbers
  N = numbers g

  -- where it works, on the side
  abbrev here : Site
  here = site_of g l.split l.side

  -- the bit that is set
  abbrev bit : ℕ
  bit = opened_bit here.has + side_no l.side

  module _ (s : table.State SlotPacket View) (h : Rule g s) (at : get_elem? s.views id ≡ some me.0) where
    abbrev m : State
    m = h.machine

    -- the state after it
    abbrev done : State
    done = core.open_side (mine me).number l m

    -- the event of the machine is this one
    event_is : event f (mine me).number m ≡ done
    unfolding event event_in
    event_is = ap (λ (p : Phase). event_in f (mine me).number p m) (phase_is g id me is s h at (Carry l) phase)

    -- it changes this worker alone
    worker_is : done.worker ≡ put m.worker (mine me).number (worker_of (grown f (mine me) Open))
    unfolding core.open_side after
    worker_is = ap (put m.worker (mine me).number)
        (ap (λ (w : Worker). record w { phase = Opened l; tally = core.stepped w.tally })
        (held_worker g id me is s h at)
        ∙ sym (ap (λ (p : Phase). moved f (worker_of (mine me)) Open p) phase))

    -- its slot is at home, and blank
    there : here.has ≡ true → get_elem? s.homes here.spot ≡ some (some blank)
    there on = let was = h.shows.places l.split l.side seen on in was.1 ∙ ap some
        (is_empty l.side was.0 (m.place l.split l.side) was.2
        (carried g h.given m (mine me).number l (small g id me is s h at) h.lawful
        (phase_is g id me is s h at (Carry l) phase)))

    abbrev words' : List ℕ
    words' = with_bit s.words here.word bit

    abbrev opened' : ℕ → Side → Bool
    opened' = put_side m.opened l.split l.side true

    -- the bits of the sides that are opened, by whether the child has a slot
    told : (b : Bool) → here.has ≡ b →
        ShowsSide f N (with_bit s.words here.word (opened_bit b + side_no l.side)) 0
        (by_word f opened')
    told true on = side_equal f N _ 0 (by_word f m.opened) (by_word f opened') (word_same f m.opened l.split l.side on)
        (side_kept f N h.numbered s.words l.split (7 + side_no l.side) h.shows.word_count seen 0 (by_word f m.opened)
        (λ d z. let ld = side_le d in omega (arith, z, ld)) h.shows.opened)
    told false off = side_equal f N _ 0 (put_side (by_word f m.opened) l.split l.side true) (by_word f opened')
        (word_more f m.opened l.split l.side off)
        (side_set f N h.numbered s.words l.split (0 + side_no l.side) h.shows.word_count seen 0 l.side
        (by_word f m.opened) refl h.shows.opened)

    -- the bits of the slots that are handed out, likewise
    handed : (b : Bool) → here.has ≡ b →
        ShowsSide f N (with_bit s.words here.word (opened_bit b + side_no l.side)) 7
        (by_slot f opened')
    handed true on = side_equal f N _ 7 (put_side (by_slot f m.opened) l.split l.side true) (by_slot f opened')
        (slot_more f m.opened l.split l.side on)
        (side_set f N h.numbered s.words l.split (7 + side_no l.side) h.shows.word_count seen 7 l.side
        (by_slot f m.opened) refl h.shows.handed)
    handed false off = side_equal f N _ 7 (by_slot f m.opened) (by_slot f opened')
        (slot_same f m.opened l.split l.side off)
        (side_kept f N h.numbered s.words l.split (0 + side_no l.side) h.shows.word_count seen 7 (by_slot f m.opened)
        (λ d z. let le = side_le l.side in omega (arith, z, le)) h.shows.handed)

    -- another bit is none of these
    apart : (k : ℕ) → 2 ≤ k → k ≤ 6 → k ≢ bit
    apart k low high = opened_apart here.has l.side k low high

    -- the table shows the state after it
    shown : Shows f N words' (homes_set here.has s.homes here.spot none) done
    unfolding core.open_side
    shown =
        let c = h.shows.word_count in
        let n = h.numbered in record {
          word_count = length-set s.words _ _ ∙ c;
          slot_count = length_homes here.has s.homes here.spot none ∙ h.shows.slot_count;
          claims = batch_kept f N n s.words l.split bit c seen m.claimed h.shows.claims;
          opened = told here.has refl;
          handed = handed here.has refl;
          arrived = side_kept f N n s.words l.split bit c seen 2 m.arrived
              (λ d. let ld = side_le d in apart (2 + side_no d) (omega arith) (omega (arith, ld))) h.shows.arrived;
          collected = side_kept f N n s.words l.split bit c seen 4 m.collected
              (λ d. let ld = side_le d in apart (4 + side_no d) (omega arith) (omega (arith, ld))) h.shows.collected;
          returned = node_kept f N n s.words l.split bit c seen 6 m.returned (apart 6 (omega arith) (omega arith))
              h.shows.returned;
          places = place_set f N n s.homes m.place l.split l.side none (Out (mine me).number) h.shows.slot_count seen
              (λ t e lt on. slots_apart g h.given l.split l.side t e seen lt on) (out (mine me).number) h.shows.places
              here.has refl;
        }

  -- the step on that word is allowed
  opening_at : Allows (Rule g) slots id me here.word (λ n. bit_or n (2 ^ bit))
      (DidOpen (step slots here.word (2 ^ bit) 0 none) me)
  opening_at s h sized at fits =
      let e = event_is s h at in
      let w = worker_is s h at in (
        one g (grown f (mine me) Open),
        lends here.has here.spot blank,
        lends_valid here.has s.homes me.1 here.spot blank (there s h at),
        stands g id me is s h at Open (done s h at) e w _ _
            (subst (λ (x : List (Maybe SlotPacket)). Shows f N (with_bit s.words here.word bit) x (done s h at))
            (sym (lends_homes here.has s.homes me.1 here.spot blank)) (shown s h at)),
        (
          ap (λ (c : List (ℕ × SlotPacket)). (one g (grown f (mine me) Open), c))
              (lends_carried here.has me.1 here.spot blank)
              ∙ ap (λ (x : Given). (
                one x (grown (frame x) (mine me) Open),
                lent (slotted (frame x) l.split l.side) (slot ((numbers x).number l.split) l.side) blank me.1,
              )) (sym (ap (λ (x : View). x.given) is))
              ∙ ap (λ (x : Load). (
                next_view me Open,
                lent (slotted (frame me.0.given) x.split x.side) (slot ((numbers me.0.given).number x.split) x.side)
                    blank me.1,
              )) (sym (ap load_of phase)),
          few_after g id me is s h at Open (done s h at) e w,
        ),
      )

  -- what the step on the node's word requires
  pub opening : (word mask : ℕ) → word ≡ here.word → mask ≡ 2 ^ bit →
      Allows (Rule g) slots id me word (λ n. bit_or n mask) (DidOpen (step slots word mask 0 none) me)
  opening word mask w k =
      subst (λ (x : ℕ). Allows (Rule g) slots id me x (λ n. bit_or n mask) (DidOpen (step slots x mask 0 none) me))
      (sym w)
      (subst (λ (x : ℕ). Allows (Rule g) slots id me here.word (λ n. bit_or n x)
      (DidOpen (step slots here.word x 0 none) me))
      (sym k) opening_at)
