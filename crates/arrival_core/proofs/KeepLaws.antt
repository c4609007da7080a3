-- What an event that touches only some of a state leaves as it was.
use Rattle.std.proofs.Common.{◌≡◌, ℕ, ◌+◌, ◌*◌, ◌<◌, true, false, refl, sym, ap, ◌∙◌, arith, subst, inl, inr}
use Rattle.std.specs.Prelude.{◌==◌}
use Rattle.std.proofs.lemmas.Bool.{cases_Bool}
use Rattle.arrival_core.specs.declared.packets.Side.{Side}
use Rattle.arrival_core.specs.declared.packets.Side.TheVariants.{Left, Right}
use Rattle.arrival_core.specs.declared.packets.Phase.{Phase}
use Rattle.arrival_core.specs.declared.packets.Phase.TheVariants.{Looking, Carry, Opened, Second, Collecting, Ended}
use Rattle.arrival_core.specs.Sums.{bit}
use Rattle.arrival_core.specs.Frames.{Frame, Below, live_at, other}
use Rattle.arrival_core.specs.Frames.Below.{leaf, inner}
use Rattle.arrival_core.specs.States.{Worker, State}
use Rattle.arrival_core.specs.Events.{same, put}
use Rattle.arrival_core.specs.Lawful.{IsLawfulNode, IsLawfulSide, IsLawfulPlace, IsLawfulWorker, Fits, Carries}
use Rattle.arrival_core.specs.Counts.{at, over, opened_at, second_at, collecting_at, turn, ready, ready_below, count_opened, count_met, count_collecting, is_out_with, steps_at, steps_of_side, steps_of_node}
use Rattle.arrival_core.proofs.PutLaws.{bit-true, eq-true, at-apart}
use Rattle.arrival_core.proofs.CountLaws.{over_put}
use Rattle.arrival_core.proofs.PhaseLaws.{at_sides, at_side, each_worker}

-- who is ready stays so where no node is returned
pub ready_below-same : (s n : State) (b : Below) → n.returned ≡ s.returned → ready_below n b ≡ ready_below s b
unfolding ready_below
ready_below-same s n (leaf p) h = refl
ready_below-same s n (inner i) h = ap (λ g. bit (g i)) h

-- the same of a child
pub ready-same : (f : Frame) (s n : State) (t : ℕ) (e : Side) → n.returned ≡ s.returned → ready f n t e ≡ ready f s t e
unfolding ready
ready-same f s n t e h = ready_below-same s n (f.child t e) h

-- what a worker in a phase carries is right, where the collected bits are as they were
pub carries-same : (f : Frame) (s n : State) (p : Phase) → n.collected ≡ s.collected → Carries f s p → Carries f n p
unfolding Carries
carries-same f s n Looking h x = x
carries-same f s n (Carry l) h x = x
carries-same f s n (Opened l) h x = x
carries-same f s n (Second l) h x = x
carries-same f s n (Collecting l found) h x = record {
  own = x.own;
  theirs = x.theirs;
  own_side = subst (λ g. g l.split l.side ≡ false) (sym h) x.own_side;
  other_side = subst (λ g. g l.split (other l.side) ≡ true) (sym h) x.other_side;
}
carries-same f s n Ended h x = x

-- what a worker in a phase carries is right, where the collected bits of its own node are as they were
pub carries-apart : (f : Frame) (s n : State) (p : Phase) →
    ((t : ℕ) (e : Side) → collecting_at p t ≡ 1 → n.collected t e ≡ s.collected t e) → Carries f s p → Carries f n p
unfolding Carries collecting_at
carries-apart f s n Looking h x = x
carries-apart f s n (Carry l) h x = x
carries-apart f s n (Opened l) h x = x
carries-apart f s n (Second l) h x = x
carries-apart f s n (Collecting l found) h x =
    let one = bit-true (eq-true l.split l.split refl) in
    record {
      own = x.own;
      theirs = x.theirs;
      own_side = h l.split l.side one ∙ x.own_side;
      other_side = h l.split (other l.side) one ∙ x.other_side;
    }
carries-apart f s n Ended h x = x

-- a worker is lawful, where no claim falls and the collected bits are as they were
pub worker-same : (f : Frame) (s n : State) (w : Worker) → n.collected ≡ s.collected → n.claimed ≡ s.claimed →
    IsLawfulWorker f s w → IsLawfulWorker f n w
worker-same f s n w h c x = record {
  next = x.next;
  claimed = λ j lt. subst (λ g. g j ≡ true) (sym c) (x.claimed j lt);
  positions = x.positions;
  phase = x.phase;
  carries = carries-same f s n w.phase h x.carries;
}

-- a worker that goes on in another phase, with the batch and the positions that it had
pub worker-moved : (f : Frame) (s n : State) (v w : Worker) → w.next ≡ v.next → w.pending ≡ v.pending →
    n.claimed ≡ s.claimed → Fits f w w.phase → Carries f n w.phase → IsLawfulWorker f s v → IsLawfulWorker f n w
worker-moved f s n v w next_is pending_is claimed fits carries old = record {
  next = rw next_is old.next;
  claimed = λ j less. ap (λ g. g j) claimed ∙ old.claimed j (omega (arith, next_is));
  positions = rw pending_is old.positions;
  phase = fits;
  carries = carries;
}

-- a node with lawful sides is lawful as it was, where none of its bits changes and as many came second and collect at it
pub node-same : (f : Frame) (s n : State) (t : ℕ) → n.arrived ≡ s.arrived → n.collected ≡ s.collected →
    n.returned ≡ s.returned → count_met f n t ≡ count_met f s t → count_collecting f n t ≡ count_collecting f s t →
    IsLawfulSide f n t Left → IsLawfulSide f n t Right → IsLawfulNode f s t → IsLawfulNode f n t
node-same f s n t arrived collected returned met collecting left right old =
    let r : n.returned t ≡ s.returned t = ap (λ g. g t) returned in
    let al : n.arrived t Left ≡ s.arrived t Left = ap (λ g. g t Left) arrived in
    let ar : n.arrived t Right ≡ s.arrived t Right = ap (λ g. g t Right) arrived in
    let cl : n.collected t Left ≡ s.collected t Left = ap (λ g. g t Left) collected in
    let cr : n.collected t Right ≡ s.collected t Right = ap (λ g. g t Right) collected in
    record {
      left = left;
      right = right;
      met = rw al (rw ar (rw r (omega (arith, met, old.met))));
      collected = λ li. rw cl (rw cr (rw r (omega (arith, collecting, old.collected li))));
      rests_returned = λ de. r ∙ old.rests_returned de;
      rests_uncollected = λ de. rw cl (rw cr (old.rests_uncollected de));
    }

-- a place that nobody touched is lawful as it was, where no turn at it changed
pub place-same : (f : Frame) (s n : State) (k : ℕ) (w : Worker) (t : ℕ) (e : Side) → IsLawfulPlace f s t e →
    n.worker ≡ put s.worker k w → k < f.workers → n.place t e ≡ s.place t e → n.collected t e ≡ s.collected t e →
    n.opened t e ≡ s.opened t e →
    turn w.phase (s.collected t e) t e ≡ turn (s.worker k).phase (s.collected t e) t e → IsLawfulPlace f n t e
place-same f s n k w t e ok worker lk place collected opened mine = record {
  nothing = rw place (rw opened ok.nothing);
  out = rw place (rw collected (each_worker f s n k w
      (λ j v. is_out_with j (s.place t e) ≡ turn v.phase (s.collected t e) t e) worker
      (ok.out k lk ∙ sym mine) (λ j lj ne. ok.out j lj)));
  nobody = rw place ok.nobody;
  packet = rw place ok.packet;
}

-- steps and fits
pub tally_put : (f : Frame) (s n : State) (k : ℕ) (w : Worker) → k < f.workers → n.worker ≡ put s.worker k w →
    w.tally.steps ≡ (s.worker k).tally.steps + 1 → over f n (λ w. w.tally.steps) ≡ over f s (λ w. w.tally.steps) + 1
tally_put f s n k w lt worker one =
    let change = over_put f s n k w (λ w. w.tally.steps) lt worker in
    omega (arith, change, one)

-- counts of phases
pub opened_put : (f : Frame) (s n : State) (k : ℕ) (w : Worker) (t : ℕ) (e : Side) → k < f.workers →
    n.worker ≡ put s.worker k w →
    count_opened f n t e + opened_at (s.worker k).phase t e ≡ count_opened f s t e + opened_at w.phase t e
unfolding count_opened
opened_put f s n k w t e lt worker = over_put f s n k w (λ w. opened_at w.phase t e) lt worker

-- those behind a second arrival, where one worker changes
pub met_put : (f : Frame) (s n : State) (k : ℕ) (w : Worker) (t : ℕ) → k < f.workers → n.worker ≡ put s.worker k w →
    count_met f n t + (second_at (s.worker k).phase t + collecting_at (s.worker k).phase t)
    ≡ count_met f s t + (second_at w.phase t + collecting_at w.phase t)
unfolding count_met
met_put f s n k w t lt worker =
    over_put f s n k w (λ w. second_at w.phase t + collecting_at w.phase t) lt worker

-- those that collect, where one worker changes
pub collecting_put : (f : Frame) (s n : State) (k : ℕ) (w : Worker) (t : ℕ) → k < f.workers →
    n.worker ≡ put s.worker k w →
    count_collecting f n t + collecting_at (s.worker k).phase t ≡ count_collecting f s t + collecting_at w.phase t
unfolding count_collecting
collecting_put f s n k w t lt worker = over_put f s n k w (λ w. collecting_at w.phase t) lt worker

-- a side that is set where it is live counts once among the live ones
pub live_part : (f : Frame) (s : ℕ) (d : Side) (t : ℕ) (e : Side) → live_at f s d ≡ true →
    bit (live_at f t e) * at s d t e ≡ at s d t e
live_part f s d t e live = elim (cases_Bool (same s d t e)) [
  | inl h ↦ at_side (λ t e. bit (live_at f t e) * at s d t e ≡ at s d t e) s d t e h (rw (bit-true live) (omega arith))
  | inr h ↦ rw (at-apart s d t e h) (omega arith)
]

-- one event more at a live side is seen at its node
pub side_seen : (f : Frame) (s n : State) (i : ℕ) (d : Side) → live_at f i d ≡ true → n.collected ≡ s.collected →
    n.returned ≡ s.returned →
    ((t : ℕ) (e : Side) →
    bit (n.opened t e) + bit (n.arrived t e) ≡ bit (s.opened t e) + bit (s.arrived t e) + at i d t e) → (t : ℕ) →
    steps_at f n t ≡ steps_at f s t + bit (i == t)
unfolding steps_at steps_of_side steps_of_node
side_seen f s n i d live collected returned more t =
    let left = ap (λ z. bit (live_at f t Left) * z) (more t Left) in
    let right = ap (λ z. bit (live_at f t Right) * z) (more t Right) in
    let live_left = live_part f i d t Left live in
    let live_right = live_part f i d t Right live in
    let both = at_sides i d t in
    rw collected (rw returned (omega (arith, left, right, live_left, live_right, both)))
