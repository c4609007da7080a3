-- Lists that are filled with one value, as a start has them.
use Rattle.std.proofs.Common.{◌≡◌, ℕ, suc, zero, ◌<◌, ◌≤◌, refl, sym, ap, ◌∙◌, arith, subst, List, Bool, length, replicate, false}
use Rattle.arrival_core.specs.declared.packets.TheConstants.{MOST_WORKERS}
use Rattle.arrival_core.specs.declared.packets.Phase.TheVariants.{Looking}
use Rattle.arrival_core.specs.declared.forks.Fork.{Fork}
use Rattle.arrival_core.specs.declared.forks.Climber.{Climber}
use Rattle.arrival_core.specs.declared.terrains.Terrain.{Terrain}
use Rattle.arrival_core.specs.Forks.{HasPart, fork_at, climber_at, claimed_at}
use Rattle.arrival_core.specs.Cores.{core_over}
use Rattle.arrival_core.specs.Terrains.{IsTerrain, IsStartFork, frame_at}
use Rattle.arrival_core.proofs.StartLaws.{task_for}
use Rattle.arrival_core.proofs.StartCore.{AreStartLists}

-- a climber that has not begun
abbrev pub new_climber : Climber
new_climber = record { next = 0; from = 0; to = 0; phase = Looking; tally = record { fits = 0; steps = 0 } }

-- the length of a list of one value
length_filled : {X : Type 0} (n : ℕ) (x : X) → length (replicate n x) ≡ n
length_filled zero x = refl
length_filled (suc n) x = ap suc (length_filled n x)

-- no claim bit is set
claimed_blank : (n j : ℕ) → claimed_at (replicate n false) j ≡ false
unfolding claimed_at
claimed_blank zero j = refl
claimed_blank (suc n) zero = refl
claimed_blank (suc n) (suc j) = claimed_blank n j

-- no climber has begun
climber_blank : (n k : ℕ) → k < n → climber_at (replicate n new_climber) k ≡ new_climber
unfolding climber_at
climber_blank zero k lt = absurd (omega arith)
climber_blank (suc n) zero lt = refl
climber_blank (suc n) (suc k) lt = climber_blank n k (omega arith)

-- none has a position
part_blank : (live n k : ℕ) → HasPart live (climber_at (replicate n new_climber) k)
unfolding climber_at
part_blank live zero k = record { order = omega arith; within = omega arith }
part_blank live (suc n) zero = record { order = omega arith; within = omega arith }
part_blank live (suc n) (suc k) = part_blank live n k

-- lists that are filled so, and forks as they start, are the lists of a start
pub start_lists : (g : Terrain) (workers : ℕ) → 0 < workers → workers ≤ MOST_WORKERS → IsTerrain g →
    (forks : List Fork) →
    length forks ≡ length g.tree.now.nodes →
    ((t : ℕ) → t < length forks → IsStartFork (frame_at g workers) t (fork_at forks t)) →
    AreStartLists (core_over g (replicate g.batches false) forks (replicate workers new_climber))
start_lists g workers one few ok forks count start =
    let w : length (replicate workers new_climber) ≡ workers = length_filled workers new_climber in
    record {
      table = ok.table;
      task = task_for g (length (replicate workers new_climber)) (omega (arith, w)) ok;
      few = omega (arith, w, few);
      claims = length_filled g.batches false ∙ ok.batches_is;
      nodes = count ∙ ok.table.count;
      unclaimed = claimed_blank g.batches;
      forks = subst (λ n. (t : ℕ) → t < length forks → IsStartFork (frame_at g n) t (fork_at forks t)) (sym w) start;
      parts = part_blank (length g.live.now) workers;
      begun = λ k lt. climber_blank workers k (omega (arith, w, lt));
    }

-- the same, of lists that were made apart
pub start_lists_of : (g : Terrain) (workers : ℕ) → 0 < workers → workers ≤ MOST_WORKERS → IsTerrain g →
    (forks : List Fork) →
    length forks ≡ length g.tree.now.nodes →
    ((t : ℕ) → t < length forks → IsStartFork (frame_at g workers) t (fork_at forks t)) →
    (claimed : List Bool) (filled : List Fork) (climbers : List Climber) → claimed ≡ replicate g.batches false →
    filled ≡ forks → climbers ≡ replicate workers new_climber → AreStartLists (core_over g claimed filled climbers)
start_lists_of g workers one few ok forks count start claimed filled climbers m s w =
    rw m (rw s (rw w (start_lists g workers one few ok forks count start)))
