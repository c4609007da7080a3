-- What the words and slots of a table are before the first event. No public clause cites this module.
use Rattle.std.specs.Prelude.{ℕ, ◌≡◌, ◌+◌, ◌<◌, Bool, true, false, List, length, replicate, slice_index}
use Rattle.arrival_core.specs.declared.packets.Side.TheVariants.{Left, Right}
use Rattle.arrival_core.specs.Frames.{Frame, live_at}
use Rattle.box_handoff.specs.declared.slots.SlotPacket.{SlotPacket}
use Rattle.box_handoff.specs.Slots.{blank}
use Rattle.box_handoff.specs.LiveNodes.{Shown}
use Rattle.box_handoff.specs.Entries.{Numbers}
use Rattle.box_handoff.specs.Rule.{node_word}

-- the word of a live node, by whether its children are live: one that is not is opened and has arrived
abbrev pub start_word : Bool → Bool → ℕ
start_word true true = 0
start_word true false = 10
start_word false true = 5
start_word false false = 15

-- no batch is claimed, the live nodes are as they start, and no packet stands in a slot
pub record Starts (f : Frame) (num : Numbers) (words : List ℕ) (slots : List SlotPacket) : Type 0 where
  pub word_count : length words ≡ f.batches + num.count
  pub claims : (j : ℕ) → j < f.batches → slice_index words j ≡ 0
  pub word : (t : ℕ) → Shown f t → node_word f num words t ≡ start_word (live_at f t Left) (live_at f t Right)
  pub blanks : slots ≡ replicate (num.count + 1) blank
