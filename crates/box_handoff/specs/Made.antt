-- What a handoff's table has to do with what it was made of.
use Rattle.std.specs.Prelude.{ℕ, ◌≡◌, ◌<◌, ◌+◌, ◌^◌, List, length, slice_index_or}
use Rattle.atomic_table.specs.Seated.{TableId}
use Rattle.arrival_core.specs.Frames.{Frame}
use Rattle.std.specs.declared.snapshot.Snapshot.{Snapshot}
use Rattle.box_handoff.specs.declared.views.Given.{Given}
use Rattle.box_handoff.specs.declared.views.About.{About}
use Rattle.box_handoff.specs.Entries.{Numbers, IsGiven, frame, given_of, numbers}

-- the table's key is what it was made of, and it has a word for each batch and each live node, and a slot before,
-- between and behind the live nodes
pub record IsMade (key about : About) (z : TableId) : Type 0 where
  pub key_is : key ≡ about
  pub words : z.words ≡ (frame (given_of about)).batches + (numbers (given_of about)).count
  pub slots : z.slots ≡ (numbers (given_of about)).count + 1
  pub room : z.words < 2 ^ 60
  pub given : IsGiven (given_of about)

-- the positions below a count, in order
pub record ArePositions (count : ℕ) (live : List ℕ) : Type 0 where
  pub count_is : length live ≡ count
  pub each : (p : ℕ) → p < length live → slice_index_or live p 0 ≡ p

-- what a table's key says it is over, with the machine's frame and the numbers of its nodes
abbrev pub given_in : Snapshot About → Given
given_in k = given_of k.value

abbrev pub frame_in : Snapshot About → Frame
frame_in k = frame (given_of k.value)

abbrev pub numbers_in : Snapshot About → Numbers
numbers_in k = numbers (given_of k.value)
