-- How near two positions of a list of keys are.
use Rattle.std.specs.Prelude.{ℕ, ◌+◌, ◌==◌, if◌then◌else◌, List}
use Rattle.morton_key.specs.declared.keys.Key.{Key}
use Rattle.morton_key.specs.declared.keys.TheConstants.{WIDTH, POSITION_WIDTH}
use Rattle.morton_key.specs.Bits.{prefix}
use Rattle.morton_key.specs.Keys.{code_at}

-- the length of the common prefix of the codes, or where they are equal WIDTH and that of the positions
unfoldable pub measure : List Key → ℕ → ℕ → ℕ
measure keys i j =
    if code_at keys i == code_at keys j
    then WIDTH + prefix POSITION_WIDTH i j
    else prefix WIDTH (code_at keys i) (code_at keys j)
