-- What a table for live nodes alone is laid down from, and what is laid down. No public clause cites this module.
use Rattle.std.specs.Prelude.{ℕ, ◌≡◌, ◌≤◌, List, [], ◌∷◌, ◌++◌, Option, Some}
use Rattle.radix_tree.specs.Table.{IsTable}
use Rattle.arrival_core.specs.declared.packets.TheConstants.{MOST_WORKERS}
use Rattle.arrival_core.specs.declared.packets.Side.TheVariants.{Left, Right}
use Rattle.arrival_core.specs.declared.terrains.Terrain.{Terrain}
use Rattle.arrival_core.specs.Frames.{Frame, live_at}
use Rattle.arrival_core.specs.Settings.{Setting, setting, frame_of, batch_count}
use Rattle.arrival_core.specs.Tasks.{IsTask, FitsButFor}
use Rattle.box_handoff.specs.declared.views.Given.{Given}
use Rattle.box_handoff.specs.declared.laying.Moves.{Moves}
use Rattle.box_handoff.specs.declared.laying.Laid.{Laid}
use Rattle.box_handoff.specs.Starting.{start_word}

-- the machine's setting, its frame, and the core's name for what it is made from
abbrev pub setting_over : Moves → Setting
setting_over m = setting m.tree.now.keys m.boxes.now m.live.now m.seats

abbrev pub over : Moves → Frame
over m = frame_of (setting_over m)

abbrev pub terrain_of : Moves → Terrain
terrain_of m = record { tree = m.tree; boxes = m.boxes; live = m.live; batches = batch_count m.live.now }

-- what a handoff is given that is made of it, with a list of splits
abbrev pub given_over : Moves → Option (List ℕ) → Given
given_over m spots = record {
  keys = m.tree.now.keys;
  boxes = m.boxes.now;
  live = m.live.now;
  seats = m.seats;
  spots = spots;
  tree = Some m.tree.now;
}

-- what the machine may be set to, with seats for its workers, over a tree that is fitted where nothing is live
pub record AreMoves (m : Moves) : Type 0 where
  pub table : IsTable m.tree.now
  pub task : IsTask (setting_over m)
  pub few : m.seats ≤ MOST_WORKERS
  pub rest : FitsButFor m.tree.now m.boxes.now m.live.now

-- the words of nodes with these splits
unfoldable pub words_of : Frame → List ℕ → List ℕ
words_of f [] = []
words_of f (t ∷ ts) = start_word (live_at f t Left) (live_at f t Right) ∷ words_of f ts

-- nodes with these splits were laid down
pub record Added (f : Frame) (old new : Laid) (splits : List ℕ) : Type 0 where
  pub spots : new.spots.items ≡ old.spots.items ++ splits
  pub words : new.words.items ≡ old.words.items ++ words_of f splits
