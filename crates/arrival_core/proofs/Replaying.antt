-- A replay, step by step, and the count of nodes that are not returned.
use Rattle.std.proofs.Common.{◌≡◌, ℕ, suc, ◌+◌, ◌<◌, ◌≤◌, sym, ap, subst, ◌∙◌, arith, List, length, drop, get_or}
use Rattle.std.specs.Prelude.{not, All}
use Rattle.std.proofs.lemmas.List.{at_drop_more, at_drop_all}
use Rattle.arrival_core.specs.declared.forks.Fork.{Fork}
use Rattle.arrival_core.specs.Sums.{bit, sum_below}
use Rattle.arrival_core.specs.Frames.{Frame}
use Rattle.arrival_core.specs.Events.{event, has_event}
use Rattle.arrival_core.specs.Settings.{frame_of}
use Rattle.arrival_core.specs.Forks.{fork_at, climber_at}
use Rattle.arrival_core.specs.Cores.{Core, IsCore, setting_of, frame_of_core, state_of}
use Rattle.arrival_core.specs.Replays.{state_after, event_count}
use Rattle.arrival_core.specs.FrameLaws.{IsFrame}
use Rattle.arrival_core.specs.Lawful.{IsLawful}
use Rattle.arrival_core.specs.Complete.{HaveEnded, IsComplete}
use Rattle.arrival_core.proofs.Ending.{ended_complete}
use Rattle.arrival_core.proofs.Schedules.{schedule_lawful}
use Rattle.arrival_core.proofs.CoreLaws.{core_frame, workers_are}
use Rattle.arrival_core.proofs.ForkLaws.{fork_is}

-- what is left of the schedule leads from here where the whole leads from the start
pub record Replays (start now : Core) (whole left : List ℕ) (count index : ℕ) : Type 0 where
  pub setting : setting_of now ≡ setting_of start
  pub state : state_after (frame_of_core start) left (state_of now)
      ≡ state_after (frame_of_core start) whole (state_of start)
  pub counted_is :
      count + event_count (frame_of_core start) left (state_of now)
      ≡ event_count (frame_of_core start) whole (state_of start)
  pub most : count ≤ index

-- one number more of the schedule
pub replay_more : (start now next : Core) (whole : List ℕ) (i k count count' : ℕ) → i < length whole →
    k ≡ get_or whole i k → Replays start now whole (drop i whole) count i → setting_of next ≡ setting_of now →
    state_of next ≡ event (frame_of_core now) k (state_of now) →
    count' ≡ count + bit (has_event (climber_at now.climbers k).phase) → count' ≤ i + 1 →
    Replays start next whole (drop (i + 1) whole) count' (i + 1)
unfolding state_after event_count
replay_more start now next whole i k count count' lt read old setting state more most =
    let f : Frame = frame_of_core start in
    let same : frame_of_core now ≡ frame_of_core start = ap frame_of old.setting in
    let there : state_of next ≡ event (frame_of_core start) k (state_of now) =
    state ∙ ap (λ g. event g k (state_of now)) same in
    let p : state_after (frame_of_core start) (drop i whole) (state_of now)
    ≡ state_after (frame_of_core start) (drop (i + 1) whole) (event (frame_of_core start) k (state_of now))
    = at_drop_more (λ xs. state_after (frame_of_core start) xs (state_of now)) whole i k lt
    ∙ ap (λ j. state_after (frame_of_core start) (drop (i + 1) whole) (event (frame_of_core start) j (state_of now)))
    (sym read) in
    let q : event_count (frame_of_core start) (drop i whole) (state_of now)
    ≡ bit (has_event (climber_at now.climbers k).phase)
    + event_count (frame_of_core start) (drop (i + 1) whole) (event (frame_of_core start) k (state_of now))
    = at_drop_more (λ xs. event_count (frame_of_core start) xs (state_of now)) whole i k lt
    ∙ ap (λ j. bit (has_event (climber_at now.climbers j).phase)
    + event_count (frame_of_core start) (drop (i + 1) whole) (event (frame_of_core start) j (state_of now)))
    (sym read) in
    let r = ap (event_count (frame_of_core start) (drop (i + 1) whole)) there in
    record {
      setting = setting ∙ old.setting;
      state = ap (state_after (frame_of_core start) (drop (i + 1) whole)) there ∙ (sym p ∙ old.state);
      counted_is = omega (arith, old.counted_is, q, r, more);
      most = most;
    }

-- at its end
pub replay_done : (start now : Core) (whole : List ℕ) (count i : ℕ) → length whole ≤ i →
    Replays start now whole (drop i whole) count i →
    (state_of now ≡ state_after (frame_of_core start) whole (state_of start))
    × (count ≡ event_count (frame_of_core start) whole (state_of start))
unfolding state_after event_count
replay_done start now whole count i le old =
    let p = at_drop_all (λ xs. state_after (frame_of_core start) xs (state_of now)) whole i le in
    let q = at_drop_all (λ xs. event_count (frame_of_core start) xs (state_of now)) whole i le in
    (sym p ∙ old.state, omega (arith, q, old.counted_is))

-- where all workers have ended behind a schedule, all is fitted
pub replay_complete : (start now : Core) → IsCore start → (ks : List ℕ) → All (λ k. k < length start.climbers) ks →
    setting_of now ≡ setting_of start → state_of now ≡ state_after (frame_of_core start) ks (state_of start) →
    HaveEnded (frame_of_core now) (state_of now) → IsComplete (frame_of_core now) (state_of now)
replay_complete start now ok ks all setting state done =
    let fr : IsFrame (frame_of_core now) = subst (λ x. IsFrame (frame_of x)) (sym setting) (core_frame start ok) in
    let there : IsLawful (frame_of_core start) (state_of now) = subst (IsLawful (frame_of_core start)) (sym state)
    (schedule_lawful (frame_of_core start) (core_frame start ok) ks (state_of start)
    (λ k d lt. workers_are start _ (all k d lt)) ok.lawful) in
    let lawful : IsLawful (frame_of_core now) (state_of now) =
    subst (λ x. IsLawful (frame_of x) (state_of now)) (sym setting) there in
    ended_complete (frame_of_core now) fr (state_of now) lawful (workers_are now 0
    (subst (λ x. 0 < x.workers) (sym setting) ok.task.one_worker)) done

-- one more node
pub unreturned_more : (forks : List Fork) (i count count' : ℕ) (x : Fork) → i < length forks →
    x ≡ get_or forks i x → count ≡ sum_below i (λ t. bit (not (fork_at forks t).returned)) →
    count' ≡ count + bit (not x.returned) →
    count' ≡ sum_below (i + 1) (λ t. bit (not (fork_at forks t).returned))
unfolding sum_below
unreturned_more forks i count count' x lt read old more =
    let next : i + 1 ≡ suc i = omega arith in
    let e = ap (λ y. bit (not y.returned)) (fork_is forks i x lt read) in
    let s : sum_below (i + 1) (λ t. bit (not (fork_at forks t).returned))
    ≡ sum_below i (λ t. bit (not (fork_at forks t).returned)) + bit (not (fork_at forks i).returned)
    = ap (λ n. sum_below n (λ t. bit (not (fork_at forks t).returned))) next in
    omega (arith, s, e, old, more)
