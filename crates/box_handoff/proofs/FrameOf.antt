-- What the core's crate says of the frame of a handoff.
use Rattle.std.proofs.Common.{◌≡◌, ℕ, suc, ◌+◌, ◌-◌, ◌/◌, ◌<◌, ◌≤◌, ◌^◌, length, sym, subst, refl, arith, true}
use Rattle.std.specs.Prelude.{slice_index, Some, nat_le, ◌&&◌}
use Rattle.std.proofs.lemmas.Bool.{le-leb}
use Rattle.std.proofs.lemmas.List.Folds.{list_any_at}
use Rattle.arrival_core.proofs.TerrainLaws.{rising_short}
use Rattle.morton_key.specs.Keys.{IsLawful as AreKeys}
use Rattle.arrival_core.specs.declared.packets.Load.{Load}
use Rattle.arrival_core.specs.declared.packets.Side.{Side}
use Rattle.arrival_core.specs.declared.packets.Side.TheVariants.{Left, Right}
use Rattle.arrival_core.specs.declared.packets.Up.{Up}
use Rattle.arrival_core.specs.declared.packets.Phase.TheVariants.{Carry, Second, Ended}
use Rattle.arrival_core.specs.declared.packets.Place.TheVariants.{Nothing, Holds}
use Rattle.arrival_core.specs.Frames.{other, packet_at}
use Rattle.arrival_core.specs.FrameLaws.{IsFrame}
use Rattle.arrival_core.specs.States.{State}
use Rattle.arrival_core.specs.Events.{event}
use Rattle.arrival_core.specs.Start.{IsStart}
use Rattle.arrival_core.specs.Lawful.{IsLawful}
use Rattle.arrival_core.specs.Complete.{IsComplete}
use Rattle.arrival_core.specs.Settings.{above, frame_of, live_in}
use Rattle.arrival_core.specs.Tasks.{IsTask}
use Rattle.arrival_core.proofs.EventLaws.{event_lawful}
use Rattle.arrival_core.proofs.LawfulStart.{start_lawful}
use Rattle.arrival_core.proofs.Ending.{ended_complete}
use Rattle.arrival_core.proofs.PlaceLaws.{carried_nothing, met_holds}
use Rattle.arrival_core.proofs.RoomLaws.{steps_low, fits_low}
use Rattle.arrival_core.proofs.Framing.{frame_lawful}
use Rattle.arrival_core.proofs.SplitRanges.{node_of}
use Rattle.arrival_core.proofs.SplitRanges.{first_is, last_is}
use Rattle.arrival_core.proofs.SplitNames.{leaf_range}
use Rattle.radix_tree.specs.Ranges.{IsRange}
use Rattle.radix_tree.proofs.NumberLaws.{range_of_node}
use Rattle.arrival_core.specs.declared.packets.Packet.{Packet}
use Rattle.arrival_core.specs.Settings.{row_of}
use Rattle.arrival_core.proofs.WholeLaws as core
use Rattle.box_handoff.specs.declared.views.Given.{Given}
use Rattle.box_handoff.specs.Entries.{IsGiven, setting_of, frame}

-- what a climb rests on
pub record FrameLaws (g : Given) : Type 0 where
  pub frame_laws : IsFrame (frame g)
  -- a leaf has a parent, where there are two keys
  pub leaf_up : (p : ℕ) → p < suc (frame g).nodes → (u : Up) × (above g.keys p p ≡ Some u)
      × ((frame g).above_leaf p ≡ u)
  pub few : length g.live < 2 ^ 32
  pub live_in : (i : ℕ) → i < length g.live → slice_index g.live i < suc (frame g).nodes
  pub live_leaf : (i : ℕ) → i < length g.live → (frame g).live_leaf (slice_index g.live i) ≡ true
  pub lawful : AreKeys g.keys
  pub boxes : length g.boxes ≡ length g.keys
  -- the ranges of a node's children
  pub ends : (t : ℕ) → t < (frame g).nodes → (packet_at (frame g) t Left).last < (packet_at (frame g) t Right).last
  pub begins : (t : ℕ) → t < (frame g).nodes → (packet_at (frame g) t Left).first < (packet_at (frame g) t Right).first
  pub inside : (t : ℕ) (d : Side) → t < (frame g).nodes → (packet_at (frame g) t d).last ≤ (frame g).nodes

-- a listed position is live
listed_live : (g : Given) (i : ℕ) → i < length g.live → (frame g).live_leaf (slice_index g.live i) ≡ true
unfolding frame frame_of live_in
listed_live g i lt = list_any_at (λ q. nat_le (slice_index g.live i) q && nat_le q (slice_index g.live i)) g.live i 0 lt
    (rw (le-leb (slice_index g.live i) (slice_index g.live i) (omega arith)) refl)

module _ (g : Given) (ok : IsGiven g) where
  -- the task that was given is one
  task : IsTask (setting_of g)
  task = ok.task

  -- no more leaves are live than there are keys
  pub live_few : length g.live ≤ length g.keys
  live_few = rising_short g.live (length g.keys) task.rising task.within

  -- the frame of a handoff is lawful
  pub frame_is : IsFrame (frame g)
  unfolding frame
  frame_is = frame_lawful (setting_of g) task

  -- how many inner nodes
  pub nodes_is : (frame g).nodes ≡ length g.keys - 1
  unfolding frame frame_of
  nodes_is = refl

  -- how many batches
  pub batches_is : (frame g).batches ≡ (length g.live + 63) / 64
  unfolding frame frame_of
  batches_is = refl

  -- how many workers
  pub workers_is : (frame g).workers ≡ g.seats
  unfolding frame frame_of
  workers_is = refl

  -- all counts are small
  pub nodes_low : (frame g).nodes ≤ 2 ^ 20
  nodes_low = omega (arith, nodes_is, task.lawful.few)

  -- that of batches
  pub batches_low : (frame g).batches ≤ 2 ^ 20
  batches_low = omega (arith, batches_is, live_few, task.lawful.few)

  -- that of workers
  workers_low : (frame g).workers ≤ 64
  workers_low = omega (arith, workers_is, ok.few)

  -- one worker climbs at least
  some_worker : 0 < (frame g).workers
  some_worker = omega (arith, workers_is, task.one_worker)

  -- an event keeps a state lawful
  pub keeps : (m : State) (k : ℕ) → k < (frame g).workers → IsLawful (frame g) m →
      IsLawful (frame g) (event (frame g) k m)
  keeps m k lt l = event_lawful (frame g) frame_is m l k lt

  -- the start is lawful
  pub begins : (m : State) → IsStart (frame g) m → IsLawful (frame g) m
  begins m st = start_lawful (frame g) frame_is m st

  -- when all have ended the state is complete
  pub completes : (m : State) → IsLawful (frame g) m → ((k : ℕ) → k < (frame g).workers →
      (m.worker k).phase ≡ Ended) → IsComplete (frame g) m
  completes m l ended = ended_complete (frame g) frame_is m l some_worker (record { each = ended })

  -- no worker has fitted many nodes
  pub few : (m : State) (k : ℕ) → k < (frame g).workers → IsLawful (frame g) m → (m.worker k).tally.fits < 2 ^ 32
  few m k lt l = let z = fits_low (frame g) m l k lt nodes_low in omega (arith, z)

  -- or taken many steps
  pub few_steps : (m : State) (k : ℕ) → k < (frame g).workers → IsLawful (frame g) m → (m.worker k).tally.steps < 2 ^ 32
  few_steps m k lt l = let z = steps_low (frame g) m l k lt workers_low batches_low nodes_low in omega (arith, z)

  -- the place of what a worker carries holds nothing
  pub carried : (m : State) (k : ℕ) (l : Load) → k < (frame g).workers → IsLawful (frame g) m →
      (m.worker k).phase ≡ Carry l → m.place l.split l.side ≡ Nothing
  carried m k l lt ok phase = carried_nothing (frame g) m ok k lt l phase

  -- a worker that came second finds the packet of the other child
  pub met : (m : State) (k : ℕ) (l : Load) → k < (frame g).workers → IsLawful (frame g) m →
      (m.worker k).phase ≡ Second l → m.place l.split (other l.side) ≡ Holds
      (packet_at (frame g) l.split (other l.side))
  met m k l lt ok phase = met_holds (frame g) m ok k lt l phase

  -- all of it
  pub frame_laws_of : FrameLaws g
  unfolding frame
  frame_laws_of = record {
    frame_laws = frame_is;
    leaf_up = λ p lt. core.leaf_above (setting_of g) task p lt;
    few = omega (arith, live_few, task.lawful.few);
    live_in = λ i lt. let w = task.within i 0 lt in omega (arith, nodes_is, w, task.two);
    live_leaf = λ i lt. listed_live g i lt;
    lawful = task.lawful;
    boxes = task.boxes_count;
    ends = λ t lt. core.children_end (setting_of g) task t lt;
    begins = λ t lt. core.children_begin (setting_of g) task t lt;
    inside = λ t d lt. core.children_within (setting_of g) task t d lt;
  }

  -- a leaf's range and an inner node's are in the tree
  pub leaf_in : (p : ℕ) → p < suc (frame g).nodes → IsRange g.keys p p
  leaf_in p lt = leaf_range g.keys task.lawful p (omega (arith, nodes_is, task.two, lt))

  -- and so is that of an inner node
  pub node_in : (t : ℕ) → t < (frame g).nodes → IsRange g.keys ((frame g).node_packet t).first
      ((frame g).node_packet t).last
  unfolding frame frame_of
  node_in t lt =
      let a : (row_of g.keys t).first ≡ (node_of (setting_of g) task t lt).first = first_is (setting_of g) task t lt in
      let b : (row_of g.keys t).last ≡ (node_of (setting_of g) task t lt).last = last_is (setting_of g) task t lt in
      subst (λ (z : ℕ). IsRange g.keys z (row_of g.keys t).last) (sym a)
      (subst (λ (z : ℕ). IsRange g.keys (node_of (setting_of g) task t lt).first z) (sym b)
      (range_of_node g.keys task.lawful (node_of (setting_of g) task t lt).node))

  -- so is that of a joined packet
  pub joined_in : (l : Load) (packet : Packet) → l.split < (frame g).nodes →
      packet ≡ (frame g).node_packet l.split → IsRange g.keys packet.first packet.last
  joined_in l packet lt is = subst (λ (x : Packet). IsRange g.keys x.first x.last) (sym is) (node_in l.split lt)
