-- After an event of one worker the rule holds again, and the worker's tally is small.
use Rattle.std.proofs.Common.{◌≡◌, ℕ, ◌<◌, ◌≤◌, ◌^◌, inl, inr, Bool, true, false, List, set, sym, refl, ap, ◌∙◌, subst, arith}
use Rattle.std.proofs.lemmas.Bool.{cases_Bool}
use mathlib.Core.Option.{Option as Maybe, some}
use lib.ListN.{get_elem?}
use Rattle.atomic_table.specs.Table as table
use Rattle.arrival_core.specs.declared.packets.Packet.{Packet}
use Rattle.arrival_core.specs.declared.packets.Side.{Side}
use Rattle.arrival_core.specs.declared.packets.Side.TheVariants.{Left, Right}
use Rattle.arrival_core.specs.declared.packets.Phase.{Phase}
use Rattle.arrival_core.specs.declared.packets.Place.{Place}
use Rattle.arrival_core.specs.declared.packets.Place.TheVariants.{Nothing, Holds}
use Rattle.arrival_core.specs.States.{Worker, State}
use Rattle.arrival_core.specs.Settings.{frame_of}
use Rattle.arrival_core.specs.Events.{put, event}
use Rattle.arrival_core.specs.Sums.{bit}
use Rattle.arrival_core.specs.Counts.{is_nothing}
use Rattle.arrival_core.specs.Frames.{Frame, live_at}
use Rattle.arrival_core.specs.Lawful.{IsLawful, IsLawfulSide}
use Rattle.arrival_core.proofs.PutLaws.{put-here}
use Rattle.box_handoff.specs.declared.slots.SlotPacket.{SlotPacket}
use Rattle.box_handoff.specs.declared.views.Event.{Event}
use Rattle.box_handoff.specs.declared.views.Given.{Given}
use Rattle.box_handoff.specs.declared.views.View.{View}
use Rattle.box_handoff.specs.Slots.{packed, blank}
use Rattle.box_handoff.specs.Entries.{one, frame, numbers, grown, worker_of}
use Rattle.box_handoff.specs.Rule.{Rule, Rostered, Shows, ShowsPlace, out, empty, full}
use Rattle.box_handoff.specs.Plays.{Mine, mine, IsSmall}
use Rattle.box_handoff.proofs.FrameOf.{keeps, few, few_steps}
use Rattle.box_handoff.proofs.Rosters.{moves, stays_honest}

-- the machine has as many workers as the handoff has seats
pub workers_are : (g : Given) → (frame g).workers ≡ g.seats
unfolding frame frame_of
workers_are g = refl

-- a place that holds nothing is shown by a blank slot
pub is_empty : (d : Side) (h : Maybe SlotPacket) (p : Place) → ShowsPlace d h p → p ≡ Nothing → h ≡ some blank
is_empty d h p (out k) e = cc
is_empty d h p empty e = refl
is_empty d h p (full q) e = cc

-- and one that holds a packet by what a slot keeps of it
pub is_full : (d : Side) (h : Maybe SlotPacket) (p : Place) (q : Packet) →
    ShowsPlace d h p → p ≡ Holds q → h ≡ some (packed d q)
is_full d h p q (out k) e = cc
is_full d h p q empty e = cc
is_full d h p q (full r) e = let same : r ≡ q = cc in ap (λ (x : Packet). some (packed d x)) same

-- a bit that counts is set
bit_one : (b : Bool) → 1 ≤ bit b → b ≡ true
bit_one true h = refl
bit_one false h = absurd (omega arith)

-- a lawful side that has arrived is opened
side_opened : (f : Frame) (m : State) (t : ℕ) (d : Side) → IsLawfulSide f m t d → m.arrived t d ≡ true →
    m.opened t d ≡ true
side_opened f m t d s came = elim (cases_Bool (live_at f t d)) [
  | inl on ↦
      let z = s.opened on in
      let a : bit (m.arrived t d) ≡ bit true = ap bit came in
      bit_one (m.opened t d) (omega (arith, z, a))
  | inr off ↦ s.rests_opened off
]

-- so is a side of a lawful state
pub arrived_opened : (f : Frame) (m : State) (t : ℕ) (d : Side) → t < f.nodes → IsLawful f m →
    m.arrived t d ≡ true → m.opened t d ≡ true
arrived_opened f m t Left lt ok came = side_opened f m t Left (ok.nodes t lt).left came
arrived_opened f m t Right lt ok came = side_opened f m t Right (ok.nodes t lt).right came

-- nothing is not what holds a packet
holds_something : (p : Packet) → is_nothing (Holds p) ≡ 0
unfolding is_nothing
holds_something p = refl

-- a lawful side whose place holds a packet is opened
side_holds : (f : Frame) (m : State) (t : ℕ) (d : Side) (p : Packet) → IsLawfulSide f m t d → m.place t d ≡ Holds p →
    m.opened t d ≡ true
side_holds f m t d p s holds =
    let z = s.place.nothing in
    let a : is_nothing (m.place t d) ≡ 0 = ap is_nothing holds ∙ holds_something p in
    bit_one (m.opened t d) (omega (arith, z, a))

-- so is a side of a lawful state
pub holds_opened : (f : Frame) (m : State) (t : ℕ) (d : Side) (p : Packet) → t < f.nodes → IsLawful f m →
    m.place t d ≡ Holds p → m.opened t d ≡ true
holds_opened f m t Left p lt ok holds = side_holds f m t Left p (ok.nodes t lt).left holds
holds_opened f m t Right p lt ok holds = side_holds f m t Right p (ok.nodes t lt).right holds

-- a seat of one entry, in a table that keeps the rule
module _ (g : Given) (id : ℕ) (me : Mine) (is : me.0 ≡ one g (mine me))
    (s : table.State SlotPacket View) (h : Rule g s) (at : get_elem? s.views id ≡ some me.0) where
  -- its view is there
  here : get_elem? s.views id ≡ some (one g (mine me))
  here = at ∙ ap some is

  -- the machine's worker of that number is the entry's
  pub held_worker : h.machine.worker (mine me).number ≡ worker_of (mine me)
  held_worker = h.rostered.worker id (one g (mine me)) here (mine me) (0, refl)

  -- its number is a worker's
  pub small : (mine me).number < (frame g).workers
  small = subst (λ (n : ℕ). (mine me).number < n) (sym (workers_are g))
      (h.rostered.known id (one g (mine me)) here (mine me) (0, refl))

  -- and so is its phase
  pub phase_is : (p : Phase) → (mine me).phase ≡ p → (h.machine.worker (mine me).number).phase ≡ p
  phase_is p eq = ap (λ (w : Worker). w.phase) held_worker ∙ eq

  -- an event of that worker, to a state that these words and homes show
  module _ (ev : Event) (after : State) (event_is : event (frame g) (mine me).number h.machine ≡ after)
      (worker_is : after.worker ≡ put h.machine.worker (mine me).number (worker_of (grown (frame g) (mine me) ev)))
    where
      -- it is lawful
      lawful : IsLawful (frame g) after
      lawful = subst (λ (x : State). IsLawful (frame g) x) event_is
          (keeps g h.given h.machine (mine me).number small h.lawful)

      -- the rule after it
      pub stands : (words : List ℕ) (homes : List (Maybe SlotPacket)) → Shows (frame g) (numbers g) words homes after →
          Rule g (record {
            words = words;
            homes = homes;
            views = set s.views id (one g (grown (frame g) (mine me) ev));
          })
      stands words homes shows = record {
        given = h.given;
        numbered = h.numbered;
        machine = after;
        shows = shows;
        lawful = lawful;
        rostered = subst
            (λ (x : ℕ → Worker). Rostered g (set s.views id (one g (grown (frame g) (mine me) ev))) x) (sym worker_is)
            (moves g s.views h.machine.worker h.rostered id (mine me) (grown (frame g) (mine me) ev) here refl
            (stays_honest (frame g) (mine me) ev (h.rostered.honest id (one g (mine me)) here (mine me) (0, refl))));
      }

      -- and the worker's tally
      pub few_after : IsSmall (grown (frame g) (mine me) ev).tally
      few_after =
          let w : after.worker (mine me).number ≡ worker_of (grown (frame g) (mine me) ev)
          = ap (λ (x : ℕ → Worker). x (mine me).number) worker_is
          ∙ put-here h.machine.worker (mine me).number (worker_of (grown (frame g) (mine me) ev)) in
          record {
            fits = subst (λ (x : Worker). x.tally.fits < 2 ^ 32) w
                (few g h.given after (mine me).number small lawful);
            steps = subst (λ (x : Worker). x.tally.steps < 2 ^ 32) w
                (few_steps g h.given after (mine me).number small lawful);
          }
