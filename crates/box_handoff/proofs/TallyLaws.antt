-- The tallies of seats, and those of all workers at the end.
use Rattle.std.proofs.Common.{◌≡◌, ℕ, zero, suc, ◌+◌, ◌<◌, List, [], ◌∷◌, ◌++◌, sym, refl, ap, ◌∙◌, subst, arith}
use Rattle.atomic_table.specs.Seated.{TableId}
use Rattle.atomic_table.specs.Table.{Final, Seen}
use Rattle.arrival_core.specs.declared.packets.Tally.{Tally}
use Rattle.arrival_core.specs.declared.packets.Phase.TheVariants.{Ended}
use Rattle.arrival_core.specs.Sums.{sum_below}
use Rattle.arrival_core.specs.States.{Worker}
use Rattle.arrival_core.specs.Counts.{over}
use Rattle.arrival_core.specs.Settings.{frame_of}
use Rattle.box_handoff.specs.declared.slots.SlotPacket.{SlotPacket}
use Rattle.box_handoff.specs.declared.views.Given.{Given}
use Rattle.box_handoff.specs.declared.views.Entry.{Entry}
use Rattle.box_handoff.specs.declared.views.View.{View}
use Rattle.box_handoff.specs.declared.seats.HandSeat.{HandSeat}
use Rattle.box_handoff.specs.Entries.{setting_of, frame, total, times, In}
use Rattle.box_handoff.specs.Cuts.{both_views}
use Rattle.box_handoff.specs.Rule.{Rule}
use Rattle.box_handoff.specs.Counts.{IsLiveCounted}
use Rattle.box_handoff.specs.Seats.{IsSeat, entry_of, seat_fits, seat_steps}
use Rattle.box_handoff.specs.Gathering.{Covers, fits_of, steps_of}
use Rattle.box_handoff.proofs.FrameOf.{completes}
use Rattle.box_handoff.proofs.Roster.{total_append, total_one, times_in}
use Rattle.box_handoff.proofs.CountLaws.{counted_once}
use Rattle.box_handoff.proofs.Standing.{workers_are}

-- the tallies of two views made one
pub fits_both : (v w : View) → fits_of (both_views v w) ≡ fits_of v + fits_of w
fits_both v w = total_append (λ (e : Entry). e.tally.fits) v.entries w.entries

-- the steps of two views together are the sum of theirs
pub steps_both : (v w : View) → steps_of (both_views v w) ≡ steps_of v + steps_of w
steps_both v w = total_append (λ (e : Entry). e.tally.steps) v.entries w.entries

-- what a seat adds
pub seat_adds_fits : (g : Given) (z : TableId) (s : HandSeat) → IsSeat g z s → s.tally.fits ≡ fits_of s.seat.me.0
seat_adds_fits g z s h =
    let a : fits_of s.seat.me.0 ≡ (entry_of s).tally.fits + 0 = ap fits_of h.view in
    let b : s.tally.fits ≡ (entry_of s).tally.fits = ap (λ (t : Tally). t.fits) h.tally in omega (arith, a, b)

-- the steps of a seat's tally are those of its view
pub seat_adds_steps : (g : Given) (z : TableId) (s : HandSeat) → IsSeat g z s → s.tally.steps ≡ steps_of s.seat.me.0
seat_adds_steps g z s h =
    let a : steps_of s.seat.me.0 ≡ (entry_of s).tally.steps + 0 = ap steps_of h.view in
    let b : s.tally.steps ≡ (entry_of s).tally.steps = ap (λ (t : Tally). t.steps) h.tally in omega (arith, a, b)

-- what the last seat adds to those before it
pub last_adds_fits : (old new : List HandSeat) (x : HandSeat) → old ≡ new ++ x ∷ [] →
    seat_fits old ≡ seat_fits new + x.tally.fits
last_adds_fits old new x e =
    let a : seat_fits old ≡ seat_fits (new ++ x ∷ []) = ap seat_fits e in
    let b : seat_fits (new ++ x ∷ []) ≡ seat_fits new + (x.tally.fits + 0)
    = total_append (λ (s : HandSeat). s.tally.fits) new (x ∷ []) in omega (arith, a, b)

-- the steps of a list of seats are those of all but the last and the last's
pub last_adds_steps : (old new : List HandSeat) (x : HandSeat) → old ≡ new ++ x ∷ [] →
    seat_steps old ≡ seat_steps new + x.tally.steps
last_adds_steps old new x e =
    let a : seat_steps old ≡ seat_steps (new ++ x ∷ []) = ap seat_steps e in
    let b : seat_steps (new ++ x ∷ []) ≡ seat_steps new + (x.tally.steps + 0)
    = total_append (λ (s : HandSeat). s.tally.steps) new (x ∷ []) in omega (arith, a, b)

-- two counts that agree on each entry
total_same : (f h : Entry → ℕ) (es : List Entry) → ((e : Entry) → In e es → f e ≡ h e) → total f es ≡ total h es
total_same f h [] same = refl
total_same f h (e ∷ es) same = let a = same e (zero, refl) in
    let b : total f es ≡ total h es = total_same f h es (λ x is. same x (suc is.0, is.1)) in omega (arith, a, b)

-- a view that has every number counts what all workers count
module _ (g : Given) (id : ℕ) (v : View) (words : List ℕ) (slots : List SlotPacket)
    (fin : Final (Seen (Rule g) id v) words slots) (all : (k : ℕ) → k < g.seats → Covers k v) where
  -- what is seen at the end keeps the rule
  rule : Rule g fin.0
  rule = fin.1.0

  -- every worker has ended
  ended : (k : ℕ) → k < (frame g).workers → (rule.machine.worker k).phase ≡ Ended
  ended k small = let c = all k (subst (λ (n : ℕ). k < n) (workers_are g) small) in
      ap (λ (n : ℕ). (rule.machine.worker n).phase) (sym c.2)
      ∙ ap (λ (w : Worker). w.phase) (rule.rostered.worker id v fin.1.1 c.0 c.1) ∙ c.3

  -- every seat has one entry
  once : (k : ℕ) → k < g.seats → times k v.entries ≡ 1
  once k small = let c = all k small in
      let low = times_in k v.entries c.0 c.1 c.2 in
      let high = total_one (λ (x : View). times k x.entries) fin.0.views id v fin.1.1 in
      let one = rule.rostered.once k small in omega (arith, low, high, one)

  -- so any count, summed over the entries, is that over all workers
  whole_count : (count : Tally → ℕ) → total (λ (e : Entry). count e.tally) v.entries ≡ over (frame g) rule.machine
      (λ w. count w.tally)
  unfolding over
  whole_count count =
      total_same (λ (e : Entry). count e.tally) (λ (e : Entry). count (rule.machine.worker e.number).tally) v.entries
      (λ e is. sym (ap (λ (w : Worker). count w.tally) (rule.rostered.worker id v fin.1.1 e is)))
      ∙ (counted_once g.seats (λ k. count (rule.machine.worker k).tally) v.entries
      (λ e is. rule.rostered.known id v fin.1.1 e is) once
      ∙ ap (λ (n : ℕ). sum_below n (λ k. count (rule.machine.worker k).tally)) (sym (workers_are g)))

  -- so the sums are the counts of a run
  pub counts_are : (t : Tally) → t.fits ≡ fits_of v → t.steps ≡ steps_of v → IsLiveCounted (setting_of g) t
  unfolding frame frame_of
  counts_are t f s =
      let c = completes g rule.given rule.machine rule.lawful ended in record {
        fits = f ∙ (whole_count (λ x. x.fits) ∙ c.fits);
        steps = s ∙ (whole_count (λ x. x.steps) ∙ c.steps);
      }
