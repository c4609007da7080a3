-- A schedule leads through lawful states, and collects at each node once at most.
use Rattle.std.proofs.Common.{◌≡◌, ℕ, suc, ◌+◌, ◌<◌, ◌≤◌, refl, arith, List, [], ◌∷◌, take}
use Rattle.std.specs.Prelude.{All}
use Rattle.std.proofs.lemmas.List.Elements.{All-take}
use Rattle.arrival_core.specs.declared.packets.Side.TheVariants.{Left, Right}
use Rattle.arrival_core.specs.declared.packets.Phase.{Phase}
use Rattle.arrival_core.specs.declared.packets.Phase.TheVariants.{Looking, Carry, Opened, Second, Collecting, Ended}
use Rattle.arrival_core.specs.Sums.{bit}
use Rattle.arrival_core.specs.Frames.{Frame, other}
use Rattle.arrival_core.specs.States.{State}
use Rattle.arrival_core.specs.FrameLaws.{IsFrame}
use Rattle.arrival_core.specs.Events.{take as take_event, open_side, arrive, collect, leave, event_in, event}
use Rattle.arrival_core.specs.Counts.{second_at}
use Rattle.arrival_core.specs.Lawful.{IsLawful}
use Rattle.arrival_core.specs.Replays.{state_after, collect_count}
use Rattle.arrival_core.proofs.PutLaws.{put_side_bit}
use Rattle.arrival_core.proofs.PhaseLaws.{at_sides}
use Rattle.arrival_core.proofs.EventLaws.{event_lawful}
use Rattle.arrival_core.proofs.Excluding.{collected_most, second_met}

-- how many sides of a node are collected
abbrev collected_at : State → ℕ → ℕ
collected_at s t = bit (s.collected t Left) + bit (s.collected t Right)

-- what holds of all numbers of a schedule holds of the first and of the rest
first_of_all : (P : ℕ → Type 0) (k : ℕ) (ks : List ℕ) → All P (k ∷ ks) → P k
first_of_all P k ks all = all 0 0 (omega arith)

-- and of the rest
rest_of_all : (P : ℕ → Type 0) (k : ℕ) (ks : List ℕ) → All P (k ∷ ks) → All P ks
rest_of_all P k ks all = λ j d less. all (suc j) d (omega arith)

module _ (f : Frame) (fr : IsFrame f) where
  -- a schedule leads to a lawful state
  pub schedule_lawful : (ks : List ℕ) (s : State) → All (λ k. k < f.workers) ks → IsLawful f s →
      IsLawful f (state_after f ks s)
  unfolding state_after
  schedule_lawful [] s all ok = ok
  schedule_lawful (k ∷ ks) s all ok = schedule_lawful ks (event f k s) (rest_of_all (λ k. k < f.workers) k ks all)
      (event_lawful f fr s ok k (first_of_all (λ k. k < f.workers) k ks all))

  -- and so does each of its beginnings
  pub passes_lawful : (ks : List ℕ) (s : State) → All (λ k. k < f.workers) ks → IsLawful f s → (n : ℕ) →
      IsLawful f (state_after f (take n ks) s)
  passes_lawful ks s all ok n = schedule_lawful (take n ks) s (All-take (λ k. k < f.workers) n ks all) ok

  -- an event collects a side where its worker came second at the node, and else none
  collected_in : (s : State) → IsLawful f s → (k : ℕ) → k < f.workers → (p : Phase) → (s.worker k).phase ≡ p →
      (t : ℕ) → collected_at (event_in f k p s) t ≡ collected_at s t + second_at p t
  unfolding event_in take_event open_side arrive collect leave second_at
  collected_in s ok k lk Looking h t = omega arith
  collected_in s ok k lk (Carry l) h t = omega arith
  collected_in s ok k lk (Opened l) h t = omega arith
  collected_in s ok k lk (Second l) h t =
      let off = (second_met f s ok k lk l h).uncollected (other l.side) in
      omega (
        arith,
        put_side_bit s.collected l.split (other l.side) t Left off,
        put_side_bit s.collected l.split (other l.side) t Right off,
        at_sides l.split (other l.side) t,
      )
  collected_in s ok k lk (Collecting l found) h t = omega arith
  collected_in s ok k lk Ended h t = omega arith

  -- a schedule collects as many sides as it counts
  collects_all : (ks : List ℕ) (s : State) → All (λ k. k < f.workers) ks → IsLawful f s → (t : ℕ) →
      collect_count f ks t s + collected_at s t ≡ collected_at (state_after f ks s) t
  unfolding collect_count state_after event
  collects_all [] s all ok t = omega arith
  collects_all (k ∷ ks) s all ok t =
      let lk = first_of_all (λ k. k < f.workers) k ks all in
      let here = collected_in s ok k lk (s.worker k).phase refl t in
      let rest = collects_all ks (event f k s) (rest_of_all (λ k. k < f.workers) k ks all)
      (event_lawful f fr s ok k lk) t in
      omega (arith, here, rest)

  -- a node is collected once at most
  pub collects_once : (ks : List ℕ) (s : State) → All (λ k. k < f.workers) ks → IsLawful f s → (t : ℕ) →
      t < f.nodes → collect_count f ks t s ≤ 1
  collects_once ks s all ok t lt =
      let all_of_it = collects_all ks s all ok t in
      let most = collected_most f (state_after f ks s) (schedule_lawful ks s all ok) t lt in
      omega (arith, all_of_it, most)
