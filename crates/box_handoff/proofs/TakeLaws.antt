-- To take a batch is the machine's event on the state that is shown.
use Rattle.std.proofs.Common.{◌≡◌, ℕ, ◌+◌, ◌<◌, Bool, true, [], set, sym, ap, ◌∙◌, subst}
use Rattle.std.specs.Prelude.{slice_index, bit_or, if◌then◌else◌}
use Rattle.std.proofs.Math.ListN.{length-set}
use mathlib.Core.Option.{none, some}
use lib.ListN.{get_elem?}
use Rattle.atomic_table.specs.Table as table
use Rattle.atomic_table.specs.Table.{step, keeps, Allows}
use Rattle.arrival_core.specs.declared.packets.Phase.{Phase}
use Rattle.arrival_core.specs.declared.packets.Phase.TheVariants.{Looking}
use Rattle.arrival_core.specs.Frames.{Frame}
use Rattle.arrival_core.specs.States.{Worker, State}
use Rattle.arrival_core.specs.Events as core
use Rattle.arrival_core.specs.Events.{put, resume, event, event_in}
use Rattle.box_handoff.specs.declared.slots.SlotPacket.{SlotPacket}
use Rattle.box_handoff.specs.declared.views.Event.TheVariants.{Take}
use Rattle.box_handoff.specs.declared.views.Given.{Given}
use Rattle.box_handoff.specs.declared.views.View.{View}
use Rattle.box_handoff.specs.Entries.{Numbers, numbers, one, frame, grown, after, moved, worker_of}
use Rattle.box_handoff.specs.Rule.{Rule, Shows, ShowsBatch, bit_on, by_slot, by_word}
use Rattle.box_handoff.specs.Plays.{Mine, mine, Took}
use Rattle.box_handoff.proofs.Standing.{held_worker, phase_is, stands, few_after}
use Rattle.box_handoff.proofs.WordLaws.{batch_set, side_same_words, node_same_words}

module _ (g : Given) (id : ℕ) (me : Mine) (is : me.0 ≡ one g (mine me)) (k : ℕ)
    (phase : (mine me).phase ≡ Looking) (next : (mine me).next ≡ k) (batch : k < (frame g).batches) where
  abbrev f : Frame
  f = frame g

  abbrev N : Numbers
  N = numbers g

  module _ (s : table.State SlotPacket View) (h : Rule g s) (at : get_elem? s.views id ≡ some me.0) where
    abbrev m : State
    m = h.machine

    -- the state after it
    abbrev done : State
    done = core.take f (mine me).number m

    -- what a take makes of a worker, by whether the batch was claimed
    abbrev taken : Worker → Bool → Worker
    taken w b = resume f (w.next + 1) (if b then [] else f.batch w.next) (core.stepped w.tally)

    abbrev found : Bool
    found = bit_on (slice_index s.words k) 0

    -- the event of the machine is this one
    event_is : event f (mine me).number m ≡ done
    unfolding event event_in
    event_is = ap (λ (p : Phase). event_in f (mine me).number p m) (phase_is g id me is s h at Looking phase)

    -- it changes this worker alone
    worker_is : done.worker ≡ put m.worker (mine me).number (worker_of (grown f (mine me) (Take found)))
    unfolding core.take after
    worker_is = ap (put m.worker (mine me).number)
        (ap (λ (w : Worker). taken w (m.claimed w.next)) (held_worker g id me is s h at)
        ∙ ap (taken (worker_of (mine me))) (ap m.claimed next ∙ h.shows.claims k batch)
        ∙ sym (ap (λ (p : Phase). moved f (worker_of (mine me)) (Take found) p) phase))

    -- it claims this batch
    claimed : done.claimed ≡ put m.claimed k true
    unfolding core.take
    claimed = ap (λ (n : ℕ). put m.claimed n true)
        (ap (λ (w : Worker). w.next) (held_worker g id me is s h at) ∙ next)

    -- the table shows the state after it
    shown : Shows f N (set s.words k (bit_or (slice_index s.words k) 1)) s.homes done
    unfolding core.take
    shown = let c = h.shows.word_count in record {
      word_count = length-set s.words k _ ∙ c;
      slot_count = h.shows.slot_count;
      claims = subst (λ (x : ℕ → Bool). ShowsBatch f (set s.words k (bit_or (slice_index s.words k) 1)) x) (sym claimed)
          (batch_set f N s.words k c batch m.claimed h.shows.claims);
      opened = side_same_words f N s.words k c batch 0 (by_word f m.opened) h.shows.opened;
      handed = side_same_words f N s.words k c batch 7 (by_slot f m.opened) h.shows.handed;
      arrived = side_same_words f N s.words k c batch 2 m.arrived h.shows.arrived;
      collected = side_same_words f N s.words k c batch 4 m.collected h.shows.collected;
      returned = node_same_words f N s.words k c batch 6 m.returned h.shows.returned;
      places = h.shows.places;
    }

  -- the step on that word is allowed
  taking_at : (slots : ℕ) → Allows (Rule g) slots id me k (λ n. bit_or n 1) (Took (step slots k 1 0 none) me)
  taking_at slots s h sized at fits =
      let ev = Take (found s h at) in
      let e = event_is s h at in
      let w = worker_is s h at in (
        one g (grown f (mine me) ev),
        keeps,
        tt,
        stands g id me is s h at ev (done s h at) e w _ _ (shown s h at),
        (
          ap (λ (x : Given). (one x (grown (frame x) (mine me) ev), me.1)) (sym (ap (λ (x : View). x.given) is)),
          few_after g id me is s h at ev (done s h at) e w,
        ),
      )

  -- what the step on the batch's word requires
  pub taking : (slots mask : ℕ) → mask ≡ 1 → Allows (Rule g) slots id me k (λ n. bit_or n mask)
      (Took (step slots k mask 0 none) me)
  taking slots mask e =
      subst (λ (x : ℕ). Allows (Rule g) slots id me k (λ n. bit_or n x) (Took (step slots k x 0 none) me)) (sym e)
      (taking_at slots)
