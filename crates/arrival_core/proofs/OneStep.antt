-- One step of one worker: what the five kinds of event share.
use Rattle.std.proofs.Common.{◌≡◌, ℕ, ◌+◌, ◌*◌, ◌<◌, refl, ap, arith, List}
use Rattle.std.specs.Prelude.{◌==◌}
use Rattle.arrival_core.specs.declared.packets.Side.{Side}
use Rattle.arrival_core.specs.declared.packets.Tally.{Tally}
use Rattle.arrival_core.specs.Sums.{bit, sum_below}
use Rattle.arrival_core.specs.Frames.{Frame}
use Rattle.arrival_core.specs.States.{Worker, State}
use Rattle.arrival_core.specs.Events.{put, resume}
use Rattle.arrival_core.specs.Lawful.{IsLawful, IsLawfulNode, IsLawfulWorker}
use Rattle.arrival_core.specs.Counts.{over, has, times, opened_at, second_at, collecting_at, count_opened, count_met, count_collecting, steps_at}
use Rattle.arrival_core.proofs.CountLaws.{over_put}
use Rattle.arrival_core.proofs.PhaseLaws.{Counts, has_is, has_resumed, resumed_counts, sum_more}
use Rattle.arrival_core.proofs.KeepLaws.{tally_put, opened_put, met_put, collecting_put}

-- what a worker has of the child on a side, and what it counts for there
pub record Amounts (f : Frame) (w : Worker) (t : ℕ) (e : Side) (h o m c : ℕ) : Type 0 where
  pub had_is : has f t e w ≡ h
  pub opened_is : opened_at w.phase t e ≡ o
  pub second_is : second_at w.phase t ≡ m
  pub collecting_is : collecting_at w.phase t ≡ c

-- the same, by what is pending and what the phase counts for
pub amounts : (f : Frame) (w : Worker) (ps : List ℕ) (t : ℕ) (e : Side) (a b c d : ℕ) → w.pending ≡ ps →
    Counts w.phase t e a b c d → Amounts f w t e (times f ps t e + a + b) b c d
amounts f w ps t e a b c d pending x =
    let p : times f w.pending t e ≡ times f ps t e = ap (λ ps. times f ps t e) pending in
    record {
      had_is = omega (arith, has_is f w t e a b c d x, p);
      opened_is = x.opened_is;
      second_is = x.second_is;
      collecting_is = x.collecting_is;
    }

-- a worker that carries nothing has what is pending, and counts for nothing
pub resumed_amounts : (f : Frame) (next : ℕ) (ps : List ℕ) (tally : Tally) (t : ℕ) (e : Side) →
    Amounts f (resume f next ps tally) t e (times f ps t e) 0 0 0
resumed_amounts f next ps tally t e =
    let c = resumed_counts f next ps tally t e in
    record { had_is = has_resumed f next ps tally t e; opened_is = c.0; second_is = c.1; collecting_is = c.2 }

-- state n is s after a step of worker k, which is w now: it has the bits and places of m
pub record Steps (f : Frame) (s n m : State) (k : ℕ) (w : Worker) : Type 0 where
  pub ok : IsLawful f s
  pub lt : k < f.workers
  pub claimed : n.claimed ≡ m.claimed
  pub opened : n.opened ≡ m.opened
  pub arrived : n.arrived ≡ m.arrived
  pub collected : n.collected ≡ m.collected
  pub returned : n.returned ≡ m.returned
  pub place : n.place ≡ m.place
  pub worker : n.worker ≡ put s.worker k w
  pub steps_is : w.tally.steps ≡ (s.worker k).tally.steps + 1

-- a state is its own after such a step
pub steps_here : (f : Frame) (s n : State) (k : ℕ) (w : Worker) → IsLawful f s → k < f.workers →
    n.worker ≡ put s.worker k w → w.tally.steps ≡ (s.worker k).tally.steps + 1 → Steps f s n n k w
steps_here f s n k w ok lt worker steps_is = record {
  ok = ok;
  lt = lt;
  claimed = refl;
  opened = refl;
  arrived = refl;
  collected = refl;
  returned = refl;
  place = refl;
  worker = worker;
  steps_is = steps_is;
}

-- what a step changes in what all have of a child and count for at its side, by the amounts of its worker
pub record Change (f : Frame) (s n : State) (t : ℕ) (e : Side) (h o m c h' o' m' c' : ℕ) : Type 0 where
  pub had : over f n (has f t e) + h ≡ over f s (has f t e) + h'
  pub opened : count_opened f n t e + o ≡ count_opened f s t e + o'
  pub met : count_met f n t + (m + c) ≡ count_met f s t + (m' + c')
  pub collecting : count_collecting f n t + c ≡ count_collecting f s t + c'

module _ {f : Frame} {s n m : State} {k : ℕ} {w : Worker} (x : Steps f s n m k w) where
  open x use {ok, lt, worker, steps_is}

  -- all that a step changes there
  pub change : {t : ℕ} {e : Side} {h o u c h' o' u' c' : ℕ} → Amounts f (s.worker k) t e h o u c →
      Amounts f w t e h' o' u' c' → Change f s n t e h o u c h' o' u' c'
  change {t = t} {e = e} a b =
      let all_have = over_put f s n k w (has f t e) lt worker in
      let all_opened = opened_put f s n k w t e lt worker in
      let all_met = met_put f s n k w t lt worker in
      let all_collect = collecting_put f s n k w t lt worker in
      record {
        had = omega (arith, all_have, a.had_is, b.had_is);
        opened = omega (arith, all_opened, a.opened_is, b.opened_is);
        met = omega (arith, all_met, a.second_is, b.second_is, a.collecting_is, b.collecting_is);
        collecting = omega (arith, all_collect, a.collecting_is, b.collecting_is);
      }

  -- a step that returns no node fits none
  pub fits-same : n.returned ≡ s.returned → w.tally.fits ≡ (s.worker k).tally.fits →
      w.tally.fits + sum_below f.nodes (λ t. bit (f.live_node t) * bit (s.returned t))
      ≡ (s.worker k).tally.fits + sum_below f.nodes (λ t. bit (f.live_node t) * bit (n.returned t))
  fits-same returned fits_is =
      let kept = ap (λ g. sum_below f.nodes (λ t. bit (f.live_node t) * bit (g t))) returned in
      omega (arith, fits_is, kept)

  -- a step at a node is seen there
  pub step_at : (i : ℕ) → i < f.nodes → ((t : ℕ) → t < f.nodes → steps_at f n t ≡ steps_at f s t + bit (i == t)) →
      w.next ≡ (s.worker k).next →
      w.next + sum_below f.nodes (steps_at f n) ≡ (s.worker k).next + sum_below f.nodes (steps_at f s) + 1
  step_at i lt_i more next_is = omega (arith, next_is, sum_more f.nodes i (steps_at f n) (steps_at f s) lt_i more)

  -- the state is lawful where its nodes and workers are, and the step's fit and event are seen at the nodes
  pub step_lawful : ((t : ℕ) → t < f.nodes → IsLawfulNode f n t) →
      ((j : ℕ) → j < f.workers → IsLawfulWorker f n (n.worker j)) →
      w.tally.fits + sum_below f.nodes (λ t. bit (f.live_node t) * bit (s.returned t))
      ≡ (s.worker k).tally.fits + sum_below f.nodes (λ t. bit (f.live_node t) * bit (n.returned t)) →
      w.next + sum_below f.nodes (steps_at f n) ≡ (s.worker k).next + sum_below f.nodes (steps_at f s) + 1 → IsLawful f n
  step_lawful nodes workers fits_seen step_seen =
      let fits = over_put f s n k w (λ v. v.tally.fits) lt worker in
      let steps = tally_put f s n k w lt worker steps_is in
      let nexts = over_put f s n k w (λ v. v.next) lt worker in
      record {
        nodes = nodes;
        workers = workers;
        fits = omega (arith, fits, fits_seen, ok.fits);
        steps = omega (arith, steps, nexts, step_seen, ok.steps);
      }
