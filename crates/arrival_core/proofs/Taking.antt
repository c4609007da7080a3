-- Taking keeps a state lawful.
use Rattle.std.proofs.Common.{◌≡◌, ℕ, ◌+◌, ◌*◌, ◌<◌, true, false, refl, sym, ap, ◌∙◌, arith, subst, inl, inr, List, []}
use Rattle.std.specs.Prelude.{not, if◌then◌else◌}
use Rattle.std.proofs.lemmas.Bool.{cases_eq, cases_Bool}
use Rattle.arrival_core.specs.declared.packets.Side.{Side}
use Rattle.arrival_core.specs.declared.packets.Side.TheVariants.{Left, Right}
use Rattle.arrival_core.specs.declared.packets.Phase.TheVariants.{Looking}
use Rattle.arrival_core.specs.Sums.{bit, sum_below}
use Rattle.arrival_core.specs.Frames.{Frame, Below, live_at, live_below}
use Rattle.arrival_core.specs.Frames.Below.{leaf, inner}
use Rattle.arrival_core.specs.FrameLaws.{IsFrame}
use Rattle.arrival_core.specs.States.{Worker, State}
use Rattle.arrival_core.specs.Events.{put}
use Rattle.arrival_core.specs.Lawful.{IsLawful, IsLawfulNode, IsLawfulSide, IsLawfulWorker, Fits}
use Rattle.arrival_core.specs.Counts.{times, turn, unclaimed, steps_at, steps_of_side, steps_of_node}
use Rattle.arrival_core.proofs.SumLaws.{sum_same, sum_change, term_le_sum}
use Rattle.arrival_core.proofs.PutLaws.{bit-false, put-here, put-other, put-true}
use Rattle.arrival_core.proofs.CountLaws.{side_of}
use Rattle.arrival_core.proofs.PhaseLaws.{when_looking, each_worker}
use Rattle.arrival_core.proofs.KeepLaws.{ready-same, carries-same, node-same, place-same}
use Rattle.arrival_core.proofs.OneStep.{Amounts, Steps, Change, amounts, change, fits-same, step_lawful}

-- state n is s after worker k, now w, has taken a batch, with the positions ps that were not claimed
pub record Takes (f : Frame) (s n : State) (k : ℕ) (ps : List ℕ) (w : Worker) : Type 0 where
  pub step : Steps f s n (record s { claimed = put s.claimed (s.worker k).next true; worker = put s.worker k w }) k w
  pub fr : IsFrame f
  pub phase : (s.worker k).phase ≡ Looking
  pub ps_is : ps ≡ (if s.claimed (s.worker k).next then [] else f.batch (s.worker k).next)
  pub next_is : w.next ≡ (s.worker k).next + 1
  pub after : (t : ℕ) (e : Side) → Amounts f w t e (times f ps t e) 0 0 0
  pub worker_w : IsLawfulWorker f n w
  pub fits_is : w.tally.fits ≡ (s.worker k).tally.fits

module _ {f : Frame} {s n : State} {k : ℕ} {ps : List ℕ} {w : Worker} (x : Takes f s n k ps w) where
  open x use {step, step.{ok, lt, claimed, opened, arrived, collected, returned, place, worker}}
  open x use {fr, phase, ps_is, next_is, after, worker_w, fits_is}

  -- the worker has nothing pending and a batch before it
  looking : ((s.worker k).pending ≡ []) × ((s.worker k).next < f.batches)
  unfolding Fits
  looking = subst (Fits f (s.worker k)) phase (ok.workers k lt).phase

  -- it has nothing, and counts for nothing
  before : (t : ℕ) (e : Side) → Amounts f (s.worker k) t e 0 0 0 0
  unfolding times
  before t e =
      let none = amounts f (s.worker k) [] t e _ _ _ _ looking.0 (when_looking (s.worker k).phase t e phase) in
      record none { had_is = none.had_is ∙ omega arith }

  -- what it took was in a batch that nobody had claimed
  unclaimed_now : (t : ℕ) (e : Side) → unclaimed f n t e + times f ps t e ≡ unclaimed f s t e
  unfolding unclaimed times
  unclaimed_now t e = rw claimed (elim (cases_Bool (s.claimed (s.worker k).next)) [
    | inl h ↦
        let same_sum : sum_below f.batches
        (λ i. bit (not (put s.claimed (s.worker k).next true i)) * times f (f.batch i) t e)
        ≡ sum_below f.batches (λ i. bit (not (s.claimed i)) * times f (f.batch i) t e)
        = sum_same f.batches _ _ (λ i li. ap (λ b. bit (not b) * times f (f.batch i) t e) (put_on i h)) in
        let empty : times f ps t e ≡ 0 = rw ps_is (rw h refl) in
        omega (arith, same_sum, empty)
    | inr h ↦
        let change = sum_change f.batches (s.worker k).next
        (λ i. bit (not (put s.claimed (s.worker k).next true i)) * times f (f.batch i) t e)
        (λ i. bit (not (s.claimed i)) * times f (f.batch i) t e) looking.1
        (λ i li ne. ap (λ b. bit (not b) * times f (f.batch i) t e)
        (put-other s.claimed (s.worker k).next true i (λ z. ne (sym z)))) in
        let on = put-here s.claimed (s.worker k).next true in
        let gone : bit (not (put s.claimed (s.worker k).next true (s.worker k).next))
        * times f (f.batch (s.worker k).next) t e ≡ 0 = rw on (omega arith) in
        let was : bit (not (s.claimed (s.worker k).next)) * times f (f.batch (s.worker k).next) t e
        ≡ times f (f.batch (s.worker k).next) t e = rw h (omega arith) in
        let took : times f ps t e ≡ times f (f.batch (s.worker k).next) t e = rw ps_is (rw h refl) in
        omega (arith, change, gone, was, took)
  ])
    where
      put_on : (i : ℕ) → s.claimed (s.worker k).next ≡ true →
          put s.claimed (s.worker k).next true i ≡ s.claimed i
      put_on i h = elim (cases_eq (s.worker k).next i) [
        | inl z ↦ subst (λ i. put s.claimed (s.worker k).next true i ≡ s.claimed i) z
            (put-here s.claimed (s.worker k).next true ∙ sym h)
        | inr z ↦ put-other s.claimed (s.worker k).next true i z
      ]

  -- what it took is live
  took_live : (t : ℕ) (e : Side) → t < f.nodes → live_at f t e ≡ false → times f ps t e ≡ 0
  unfolding live_at live_below times
  took_live t e lt_t dead =
      let all : sum_below f.batches (λ i. times f (f.batch i) t e) ≡ 0 = by_child (f.child t e) refl in
      let part = term_le_sum f.batches (s.worker k).next (λ i. times f (f.batch i) t e) looking.1 in
      elim (cases_Bool (s.claimed (s.worker k).next)) [
        | inl h ↦ rw ps_is (rw h refl)
        | inr h ↦ rw ps_is (rw h (omega (arith, all, part)))
      ]
    where
      by_child : (b : Below) → f.child t e ≡ b → sum_below f.batches (λ i. times f (f.batch i) t e) ≡ 0
      by_child (leaf p) h =
          let off : f.live_leaf p ≡ false = rw h at dead in
          fr.batched_leaf t e p lt_t h ∙ bit-false off
      by_child (inner i) h = fr.batched_inner t e i lt_t h

  -- what changes at a side
  now : (t : ℕ) (e : Side) → Change f s n t e 0 0 0 0 (times f ps t e) 0 0 0
  now t e = change step (before t e) (after t e)

  -- every side is lawful
  side_after : (t : ℕ) (e : Side) → t < f.nodes → IsLawfulSide f n t e
  unfolding turn
  side_after t e lt_t =
      let old = side_of f s ok t e lt_t in
      let c = now t e in
      let u = unclaimed_now t e in
      let r : bit (n.arrived t e) ≡ bit (s.arrived t e) = ap (λ g. bit (g t e)) arrived in
      let y = ready-same f s n t e returned in
      let o : bit (n.opened t e) ≡ bit (s.opened t e) = ap (λ g. bit (g t e)) opened in
      let b = before t e in
      let a = after t e in
      record {
        once = λ li. omega (arith, c.had, u, r, y, old.once li);
        opened = λ li. omega (arith, o, c.opened, r, old.opened li);
        rests_opened = λ de. ap (λ g. g t e) opened ∙ old.rests_opened de;
        rests_arrived = λ de. ap (λ g. g t e) arrived ∙ old.rests_arrived de;
        rests_alone = λ de. omega (arith, c.had, took_live t e lt_t de, old.rests_alone de);
        place = place-same f s n k w t e old.place worker lt (ap (λ g. g t e) place) (ap (λ g. g t e) collected)
            (ap (λ g. g t e) opened)
            (rw a.opened_is (rw b.opened_is (rw a.collecting_is (rw b.collecting_is refl))));
      }

  -- every node is
  node_after : (t : ℕ) → t < f.nodes → IsLawfulNode f n t
  node_after t lt_t =
      let c = now t Left in
      node-same f s n t arrived collected returned (omega (arith, c.met)) (omega (arith, c.collecting))
      (side_after t Left lt_t) (side_after t Right lt_t) (ok.nodes t lt_t)

  -- every worker is
  worker_after : (i : ℕ) → i < f.workers → IsLawfulWorker f n (n.worker i)
  worker_after = each_worker f s n k w (λ i v. IsLawfulWorker f n v) worker worker_w
      (λ i li ne. let old = ok.workers i li in record {
        next = old.next;
        claimed = λ b less. ap (λ g. g b) claimed ∙ put-true s.claimed (s.worker k).next b (old.claimed b less);
        positions = old.positions;
        phase = old.phase;
        carries = carries-same f s n (s.worker i).phase collected old.carries;
      })

  -- no event is seen at a node
  steps_same : sum_below f.nodes (steps_at f n) ≡ sum_below f.nodes (steps_at f s)
  unfolding steps_at steps_of_side steps_of_node
  steps_same = rw opened (rw arrived (rw collected (rw returned refl)))

  -- a take leads to a lawful state
  pub taking_lawful : IsLawful f n
  taking_lawful = step_lawful step node_after worker_after (fits-same step returned fits_is)
      (omega (arith, next_is, steps_same))
