-- What a leave changes: what each worker has and what each side and node counts.
use Rattle.std.proofs.Common.{◌≡◌, ℕ, ◌+◌, ◌<◌, true, false, refl, sym, ap, ◌∙◌, arith, subst, inl, inr}
use Rattle.std.specs.Prelude.{◌==◌, Option, Some, None}
use Rattle.std.proofs.lemmas.Bool.{cases_eq, cases_Bool}
use Rattle.arrival_core.specs.declared.packets.Packet.{Packet}
use Rattle.arrival_core.specs.declared.packets.Side.{Side}
use Rattle.arrival_core.specs.declared.packets.Load.{Load}
use Rattle.arrival_core.specs.declared.packets.Phase.TheVariants.{Collecting}
use Rattle.arrival_core.specs.declared.packets.Place.TheVariants.{Holds}
use Rattle.arrival_core.specs.Sums.{bit}
use Rattle.arrival_core.specs.declared.packets.Up.{Up}
use Rattle.arrival_core.specs.Frames.{Frame, Below, other}
use Rattle.arrival_core.specs.Frames.Below.{leaf, inner}
use Rattle.arrival_core.specs.FrameLaws.{IsFrame}
use Rattle.arrival_core.specs.States.{Worker, State}
use Rattle.arrival_core.specs.Events.{same, put, put_side}
use Rattle.arrival_core.specs.Lawful.{IsLawfulWorker, IsLoad, IsFound, Carries}
use Rattle.arrival_core.specs.Counts.{at, over, has, times, ready, ready_below, count_opened, count_met, count_collecting}
use Rattle.arrival_core.proofs.PutLaws.{bit-zero, bit-true, bit-false, bit-same, eq-true, eq-false, at-here, at-apart, put_bit}
use Rattle.arrival_core.proofs.CountLaws.{IsMetAlone, met_by}
use Rattle.arrival_core.proofs.PhaseLaws.{when_collecting, at_side}
use Rattle.arrival_core.proofs.OneStep.{Amounts, Steps, amounts, change}

-- the side above a node, as a number
unfoldable pub up_at : Option Up → ℕ → Side → ℕ
up_at None t e = 0
up_at (Some u) t e = at u.split u.side t e

-- state n is s after worker k, now w, has left a node: w carries to the side above it, or goes on with what is pending
pub record Leaves (f : Frame) (s n : State) (k : ℕ) (l : Load) (found : Packet) (w : Worker) : Type 0 where
  pub step : Steps f s n (record s {
    returned = put s.returned l.split true;
    place = put_side s.place l.split (other l.side) (Holds found);
    worker = put s.worker k w;
  }) k w
  pub fr : IsFrame f
  pub phase : (s.worker k).phase ≡ Collecting l found
  pub next_is : w.next ≡ (s.worker k).next
  pub after : (t : ℕ) (e : Side) →
      Amounts f w t e (times f (s.worker k).pending t e + up_at (f.above_node l.split) t e) 0 0 0
  pub worker_w : IsLawfulWorker f n w
  pub fits_is : w.tally.fits ≡ (s.worker k).tally.fits + 1

module _ {f : Frame} {s n : State} {k : ℕ} {l : Load} {found : Packet} {w : Worker} (x : Leaves f s n k l found w) where
  open x use {step, step.{ok, lt, returned}, fr, phase, after}

  -- what the worker has is right
  pub right : IsFound f s l found
  unfolding Carries
  right = subst (Carries f s) phase (ok.workers k lt).carries

  -- what it carries is its child's packet
  pub load : IsLoad f l
  load = right.own

  -- it collects at its node, and does nothing else
  pub before : (t : ℕ) (e : Side) →
      Amounts f (s.worker k) t e (times f (s.worker k).pending t e + 0 + 0) 0 0 (bit (l.split == t))
  before t e = amounts f (s.worker k) (s.worker k).pending t e _ _ _ _ refl
      (when_collecting (s.worker k).phase l found t e phase)

  -- it alone is behind the second arrival
  pub alone : IsMetAlone f s l.split
  alone = met_by f s ok l.split l.side load.node k lt
      (let b = before l.split l.side in omega (arith, b.second_is, b.collecting_is, bit-same l.split))

  -- the node is not returned
  unreturned : s.returned l.split ≡ false
  unreturned = bit-zero (s.returned l.split) alone.unreturned

  -- the node is returned from now on
  pub returned_now : (t : ℕ) → bit (n.returned t) ≡ bit (s.returned t) + bit (l.split == t)
  returned_now t = ap (λ g. bit (g t)) returned ∙ put_bit s.returned l.split t unreturned

  -- the side above is that of the node alone
  pub up_none : (t : ℕ) (e : Side) → (f.child t e ≡ inner l.split → ⊥) → up_at (f.above_node l.split) t e ≡ 0
  unfolding up_at
  up_none t e ne = by_above (f.above_node l.split) refl
    where
      by_above : (a : Option Up) → f.above_node l.split ≡ a → up_at a t e ≡ 0
      by_above None h = refl
      by_above (Some u) h = elim (cases_Bool (same u.split u.side t e)) [
        | inl z ↦ absurd (ne (at_side (λ t e. f.child t e ≡ inner l.split) u.split u.side t e z
            (fr.up_child l.split u load.node h)))
        | inr z ↦ at-apart u.split u.side t e z
      ]

  -- it is ready for its parent from now on
  pub ready_now : (t : ℕ) (e : Side) → t < f.nodes → ready f n t e ≡ ready f s t e + up_at (f.above_node l.split) t e
  unfolding ready ready_below up_at
  ready_now t e lt_t = by_child (f.child t e) refl
    where
      by_child : (b : Below) → f.child t e ≡ b →
          ready_below n b ≡ ready_below s b + up_at (f.above_node l.split) t e
      by_child (leaf p) h = omega (arith, up_none t e (λ z. let no : leaf p ≡ inner l.split = sym h ∙ z in cc))
      by_child (inner i) h = elim (cases_eq l.split i) [
        | inl z ↦
            let above : f.above_node l.split ≡ Some (record { split = t; side = e }) = fr.child_up t e l.split lt_t
            (h ∙ ap inner (sym z)) in
            let r = returned_now i in
            let it = bit-true (eq-true l.split i z) in
            let here = at-here t e in
            rw above (omega (arith, r, it, here))
        | inr z ↦
            let r = returned_now i in
            let it = bit-false (eq-false l.split i z) in
            let none = up_none t e (λ q. let y : inner i ≡ inner l.split = sym h ∙ q in
            let x : i ≡ l.split = cc in z (sym x)) in
            omega (arith, r, it, none)
      ]

  module _ (t : ℕ) (e : Side) where
    -- the node's own child is had from now on
    pub had : over f n (has f t e) ≡ over f s (has f t e) + up_at (f.above_node l.split) t e
    had = omega (arith, (change step (before t e) (after t e)).had)

    -- as many are behind an opening as before
    pub count_now : count_opened f n t e ≡ count_opened f s t e
    count_now = omega (arith, (change step (before t e) (after t e)).opened)

    -- one less is behind a second arrival
    pub met_now : count_met f n t + bit (l.split == t) ≡ count_met f s t
    met_now = omega (arith, (change step (before t e) (after t e)).met)

    -- and one less collects
    pub collecting_now : count_collecting f n t + bit (l.split == t) ≡ count_collecting f s t
    collecting_now = omega (arith, (change step (before t e) (after t e)).collecting)
