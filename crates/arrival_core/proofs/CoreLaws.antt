-- The lists after an event hold a lawful state again.
use Rattle.std.proofs.Common.{◌≡◌, ℕ, ◌<◌, refl, sym, ap, ◌∙◌, arith, subst, List, length, Bool}
use Rattle.std.specs.Prelude.{IfSome}
use Rattle.fixed_box.specs.declared.shapes.Box3.{Box3}
use Rattle.arrival_core.specs.declared.packets.Packet.{Packet}
use Rattle.arrival_core.specs.declared.packets.Place.{Place}
use Rattle.arrival_core.specs.declared.packets.Place.TheVariants.{Nothing, Holds, Out}
use Rattle.arrival_core.specs.States.{resting_packet}
use Rattle.arrival_core.specs.declared.forks.Fork.{Fork}
use Rattle.arrival_core.specs.declared.forks.Climber.{Climber}
use Rattle.arrival_core.specs.FrameLaws.{IsFrame}
use Rattle.arrival_core.specs.Lawful.{IsLawful}
use Rattle.arrival_core.specs.Events.{event}
use Rattle.arrival_core.specs.Settings.{frame_of, frame_over}
use Rattle.arrival_core.specs.Forks.{HasPart, climber_at, shown}
use Rattle.arrival_core.specs.Cores.{Core, IsCore, setting_of, state_of, frame_of_core}
use Rattle.arrival_core.proofs.EventLaws.{event_lawful}
use Rattle.arrival_core.proofs.Framing.{frame_lawful}

-- there is a climber for each worker
pub workers_are : (c : Core) (k : ℕ) → k < length c.climbers → k < (frame_of_core c).workers
unfolding frame_of
workers_are c k lt = lt

-- there is a fork for each inner node
pub nodes_are : (c : Core) → IsCore c → length c.forks ≡ (frame_of_core c).nodes
unfolding frame_of
nodes_are c ok = ok.nodes

-- what a machine is set to is a tree with batches of its live leaves
pub core_frame : (c : Core) → IsCore c → IsFrame (frame_of_core c)
core_frame c ok = frame_lawful (setting_of c) ok.task

-- a packet that rests is the one that a place may hold
pub resting_right : (p : Place) (right : Packet) → ((q : Packet) → p ≡ Holds q → q ≡ right) →
    IfSome (resting_packet p) (λ q. q ≡ right)
unfolding resting_packet
resting_right Nothing right it = tt
resting_right (Holds q) right it = it q refl
resting_right (Out k) right it = tt

-- every event of a worker leads to a lawful state
pub event_keeps : (c : Core) → IsCore c → (k : ℕ) → k < length c.climbers →
    IsLawful (frame_of_core c) (event (frame_of_core c) k (state_of c))
event_keeps c ok k lt =
    event_lawful (frame_of_core c) (core_frame c ok) (state_of c) ok.lawful k (workers_are c k lt)

-- lists that show the state after an event hold a lawful state
pub core_after : (c : Core) (claimed : List Bool) (forks : List Fork) (climbers : List Climber) → IsCore c →
    length claimed ≡ length c.claimed → length forks ≡ length c.forks → length climbers ≡ length c.climbers →
    ((j : ℕ) → HasPart (length c.live) (climber_at climbers j)) → (k : ℕ) → k < length c.climbers →
    shown c.live claimed forks climbers ≡ event (frame_of_core c) k (state_of c) →
    IsCore (record c { claimed = claimed; forks = forks; climbers = climbers })
core_after c claimed forks climbers ok a b e parts k lt state = record {
  table = ok.table;
  task = record {
    lawful = ok.task.lawful;
    two = ok.task.two;
    boxes_count = ok.task.boxes_count;
    within = ok.task.within;
    rising = ok.task.rising;
    some = ok.task.some;
    one_worker = omega (arith, ok.task.one_worker, e);
  };
  few = omega (arith, ok.few, e);
  claims = a ∙ ok.claims;
  nodes = b ∙ ok.nodes;
  parts = parts;
  lawful = subst (λ n. IsLawful (frame_over c.tree.keys c.boxes c.live n) (shown c.live claimed forks climbers)) (sym e)
      (subst (IsLawful (frame_of_core c)) (sym state) (event_keeps c ok k lt));
}

-- the same, of lists that were lent to the event
pub core_after_call : (c : Core) (boxes : List Box3) (live : List ℕ) (claimed claimed' : List Bool)
    (forks forks' : List Fork) (climbers climbers' : List Climber) → IsCore c → boxes ≡ c.boxes → live ≡ c.live →
    claimed ≡ c.claimed → forks ≡ c.forks → climbers ≡ c.climbers →
    length claimed' ≡ length claimed → length forks' ≡ length forks → length climbers' ≡ length climbers →
    ((j : ℕ) → HasPart (length live) (climber_at climbers' j)) → (k : ℕ) → k < length c.climbers →
    ((workers : ℕ) → shown live claimed' forks' climbers'
    ≡ event (frame_over c.tree.keys boxes live workers) k (shown live claimed forks climbers)) →
    IsCore (record c { claimed = claimed'; forks = forks'; climbers = climbers' })
core_after_call c boxes live claimed claimed' forks forks' climbers climbers' ok eb el ec es ew a b e parts k lt state =
    core_after c claimed' forks' climbers' ok (a ∙ ap length ec) (b ∙ ap length es) (e ∙ ap length ew)
    (subst (λ xs. (j : ℕ) → HasPart (length xs) (climber_at climbers' j)) el parts) k lt
    (subst (λ bs. shown c.live claimed' forks' climbers'
    ≡ event (frame_over c.tree.keys bs c.live (length c.climbers)) k (state_of c)) eb
    (subst (λ xs. shown xs claimed' forks' climbers'
    ≡ event (frame_over c.tree.keys boxes xs (length c.climbers)) k (shown xs c.claimed c.forks c.climbers)) el
    (subst (λ cs. shown live claimed' forks' climbers'
    ≡ event (frame_over c.tree.keys boxes live (length c.climbers)) k (shown live cs c.forks c.climbers)) ec
    (subst (λ cs. shown live claimed' forks' climbers'
    ≡ event (frame_over c.tree.keys boxes live (length c.climbers)) k (shown live claimed cs c.climbers)) es
    (subst (λ cs. shown live claimed' forks' climbers'
    ≡ event (frame_over c.tree.keys boxes live (length c.climbers)) k (shown live claimed forks cs)) ew
    (state (length c.climbers)))))))
