-- What a contract sees of the devices in memory.
use Rattle.std.specs.Prelude.{ℕ, ◌+◌, ◌-◌, ◌^◌, ◌≤◌, ◌⊎◌, List, length, min, Contains}
use Rattle.std.specs.FinMap.{insert, empty}
use Rattle.outside.specs.Files.{Files}

-- a source: the bytes to come, the most that one call gives, the numbers of the calls that fail, and two counts
pub record FakeSource : Type 0 where
  pub left : List ℕ
  pub piece : ℕ
  pub fail : List ℕ
  pub calls : ℕ
  pub faults : ℕ

-- a sink: the bytes taken, how many it can take in all, and as above
pub record FakeSink : Type 0 where
  pub written : List ℕ
  pub room : ℕ
  pub piece : ℕ
  pub fail : List ℕ
  pub calls : ℕ
  pub faults : ℕ

-- a shelf: the one file that it holds with its name, and as above
pub record FakeShelf : Type 0 where
  pub name : List ℕ
  pub bytes : List ℕ
  pub piece : ℕ
  pub fail : List ℕ
  pub calls : ℕ
  pub faults : ℕ

-- one more, where the count has not reached its end
abbrev pub count_on : ℕ → ℕ
count_on count = min (count + 1) (2 ^ 64 - 1)

-- the call that comes after so many is one that fails
abbrev pub IsToFail : List ℕ → ℕ → Type 0
IsToFail fail calls = Contains fail (count_on calls)

-- the sink has no room left, or the call is one that fails
abbrev pub Refuses : FakeSink → Type 0
Refuses sink = (sink.room ≤ length sink.written) ⊎ IsToFail sink.fail sink.calls

-- the files that the shelf holds: its one file by its name
abbrev pub files_of : FakeShelf → Files
files_of shelf = insert empty shelf.name shelf.bytes
