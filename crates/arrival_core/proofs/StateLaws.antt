-- What each event's writes make of the state that is shown.
use Rattle.std.proofs.Common.{◌≡◌, ℕ, ◌<◌, refl, ap, ◌∙◌, ◌+◌, List, length, set, Bool, true, []}
use Rattle.std.specs.Prelude.{if◌then◌else◌}
use Rattle.std.proofs.Math.Path.{fun_ext}
use Rattle.arrival_core.specs.declared.packets.Side.{Side}
use Rattle.arrival_core.specs.declared.packets.Packet.{Packet}
use Rattle.arrival_core.specs.Frames.{Frame, other}
use Rattle.arrival_core.specs.declared.packets.Load.{Load}
use Rattle.arrival_core.specs.declared.packets.Phase.TheVariants.{Opened, Second, Collecting}
use Rattle.arrival_core.specs.declared.packets.Place.TheVariants.{Holds, Out}
use Rattle.arrival_core.specs.declared.forks.Branch.{Branch}
use Rattle.arrival_core.specs.declared.forks.Fork.{Fork}
use Rattle.arrival_core.specs.declared.forks.Climber.{Climber}
use Rattle.arrival_core.specs.Events.{stepped, open_side, arrive, collect, leave, take, resume, go_up, join, held, put}
use Rattle.arrival_core.specs.Forks.{fork_at, branch_of, with_branch, climber_at, worker_of, claimed_at, shown}
use Rattle.arrival_core.proofs.ClimberLaws.{claimed_set, workers_set}
use Rattle.arrival_core.proofs.ForkLaws.{returned_set, returned_set_side, put_field, keep_field, keep_returned, state_same}

-- lists after an open
pub open_shown : (live : List ℕ) (claimed : List Bool) (forks : List Fork) (climbers : List Climber) (k : ℕ) (l : Load)
    (x : Branch) → l.split < length forks → k < length climbers →
    x.opened ≡ true → x.arrived ≡ (branch_of (fork_at forks l.split) l.side).arrived →
    x.collected ≡ (branch_of (fork_at forks l.split) l.side).collected → x.place ≡ Out k →
    shown live claimed (set forks l.split (with_branch (fork_at forks l.split) l.side x))
    (set climbers k (record (climber_at climbers k)
    { phase = Opened l; tally = stepped (climber_at climbers k).tally }))
    ≡ open_side k l (shown live claimed forks climbers)
unfolding open_side
open_shown live claimed forks climbers k l x lt lk o a c p = state_same _ _ refl
    (put_field forks l.split l.side x lt (λ z. z.opened) true o)
    (keep_field forks l.split l.side x lt (λ z. z.arrived) a)
    (keep_field forks l.split l.side x lt (λ z. z.collected) c)
    (keep_returned forks l.split l.side x lt)
    (put_field forks l.split l.side x lt (λ z. z.place) (Out k) p)
    (workers_set live climbers k
    (record (climber_at climbers k) { phase = Opened l; tally = stepped (climber_at climbers k).tally }) lk)

module _ (f : Frame) (live : List ℕ) (claimed : List Bool) (forks : List Fork) (climbers : List Climber) (k : ℕ)
    (w : Climber) (lk : k < length climbers) where
  -- after an arrival
  pub arrive_shown : (l : Load) (x : Branch) → l.split < length forks →
      x.opened ≡ (branch_of (fork_at forks l.split) l.side).opened → x.arrived ≡ true →
      x.collected ≡ (branch_of (fork_at forks l.split) l.side).collected → x.place ≡ Holds l.packet →
      worker_of live w ≡ (if (branch_of (fork_at forks l.split) (other l.side)).arrived
      then record (worker_of live (climber_at climbers k))
      { phase = Second l; tally = stepped (climber_at climbers k).tally }
      else resume f (climber_at climbers k).next (worker_of live (climber_at climbers k)).pending
      (stepped (climber_at climbers k).tally)) →
      shown live claimed (set forks l.split (with_branch (fork_at forks l.split) l.side x)) (set climbers k w)
      ≡ arrive f k l (shown live claimed forks climbers)
  unfolding arrive
  arrive_shown l x lt o a c p e = state_same _ _ refl
      (keep_field forks l.split l.side x lt (λ z. z.opened) o)
      (put_field forks l.split l.side x lt (λ z. z.arrived) true a)
      (keep_field forks l.split l.side x lt (λ z. z.collected) c)
      (keep_returned forks l.split l.side x lt)
      (put_field forks l.split l.side x lt (λ z. z.place) (Holds l.packet) p)
      (workers_set live climbers k w lk ∙ ap (put (λ i. worker_of live (climber_at climbers i)) k) e)

  -- after a collect
  pub collect_shown : (l : Load) (x : Branch) → l.split < length forks →
      x.opened ≡ (branch_of (fork_at forks l.split) (other l.side)).opened →
      x.arrived ≡ (branch_of (fork_at forks l.split) (other l.side)).arrived → x.collected ≡ true → x.place ≡ Out k →
      w ≡ record (climber_at climbers k) {
        phase = Collecting l (held (branch_of (fork_at forks l.split) (other l.side)).place l.packet);
        tally = stepped (climber_at climbers k).tally;
      } →
      shown live claimed (set forks l.split (with_branch (fork_at forks l.split) (other l.side) x)) (set climbers k w)
      ≡ collect k l (shown live claimed forks climbers)
  unfolding collect
  collect_shown l x lt o a c p e = state_same _ _ refl
      (keep_field forks l.split (other l.side) x lt (λ z. z.opened) o)
      (keep_field forks l.split (other l.side) x lt (λ z. z.arrived) a)
      (put_field forks l.split (other l.side) x lt (λ z. z.collected) true c)
      (keep_returned forks l.split (other l.side) x lt)
      (put_field forks l.split (other l.side) x lt (λ z. z.place) (Out k) p)
      (workers_set live climbers k w lk
      ∙ ap (λ y. put (λ i. worker_of live (climber_at climbers i)) k (worker_of live y)) e)

  -- leaving writes a place, and then the returned bit
  pub leave_shown : (l : Load) (found : Packet) (x : Branch) (next : List Fork) → l.split < length forks →
      next ≡ set forks l.split (with_branch (fork_at forks l.split) (other l.side) x) → l.split < length next →
      x.opened ≡ (branch_of (fork_at forks l.split) (other l.side)).opened →
      x.arrived ≡ (branch_of (fork_at forks l.split) (other l.side)).arrived →
      x.collected ≡ (branch_of (fork_at forks l.split) (other l.side)).collected → x.place ≡ Holds found →
      worker_of live w ≡ go_up f (f.above_node l.split) (join l.split l.side l.packet found)
      (worker_of live (climber_at climbers k)) →
      shown live claimed (set next l.split (record (fork_at next l.split) { returned = true })) (set climbers k w)
      ≡ leave f k l found (shown live claimed forks climbers)
  unfolding leave
  leave_shown l found x next lt made ln o a c p e = state_same _ _ refl
      (same_side (λ z. z.opened)
      ∙ (ap (λ cs. λ t d. (branch_of (fork_at cs t) d).opened) made
      ∙ keep_field forks l.split (other l.side) x lt (λ z. z.opened) o))
      (same_side (λ z. z.arrived)
      ∙ (ap (λ cs. λ t d. (branch_of (fork_at cs t) d).arrived) made
      ∙ keep_field forks l.split (other l.side) x lt (λ z. z.arrived) a))
      (same_side (λ z. z.collected)
      ∙ (ap (λ cs. λ t d. (branch_of (fork_at cs t) d).collected) made
      ∙ keep_field forks l.split (other l.side) x lt (λ z. z.collected) c))
      (fun_ext (λ t. returned_set next l.split t ln)
      ∙ ap (λ g. put g l.split true) (ap (λ cs. λ t. (fork_at cs t).returned) made
      ∙ keep_returned forks l.split (other l.side) x lt))
      (same_side (λ z. z.place)
      ∙ (ap (λ cs. λ t d. (branch_of (fork_at cs t) d).place) made
      ∙ put_field forks l.split (other l.side) x lt (λ z. z.place) (Holds found) p))
      (workers_set live climbers k w lk ∙ ap (put (λ i. worker_of live (climber_at climbers i)) k) e)
    where
      same_side : {X : Type 0} (field : Branch → X) → ◌≡◌ {A = ℕ → Side → X}
          (λ t d. field (branch_of (fork_at (set next l.split (record (fork_at next l.split) { returned = true })) t)
          d))
          (λ t d. field (branch_of (fork_at next t) d))
      same_side field = fun_ext (λ t. fun_ext (λ d. ap field (returned_set_side next l.split t d ln)))

  -- after a take
  pub take_shown : (climber_at climbers k).next < length claimed →
      worker_of live w ≡ resume f ((climber_at climbers k).next + 1)
      (if claimed_at claimed (climber_at climbers k).next then [] else f.batch (climber_at climbers k).next)
      (stepped (climber_at climbers k).tally) →
      shown live (set claimed (climber_at climbers k).next true) forks (set climbers k w)
      ≡ take f k (shown live claimed forks climbers)
  unfolding take
  take_shown lt e = state_same _ _
      (fun_ext (λ j. claimed_set claimed (climber_at climbers k).next true j lt)) refl refl refl refl refl
      (workers_set live climbers k w lk ∙ ap (put (λ i. worker_of live (climber_at climbers i)) k) e)
