-- A code and its position as one number, in which the two cases of a measure are one.
use Rattle.std.proofs.Common.{ℕ, ◌+◌, ◌*◌, ◌^◌, List}
use Rattle.morton_key.specs.declared.keys.Key.{Key}
use Rattle.morton_key.specs.declared.keys.TheConstants.{WIDTH, POSITION_WIDTH}
use Rattle.morton_key.specs.Bits.{differing}
use Rattle.morton_key.specs.Keys.{code_at}

-- the bits of a tag, and so the greatest measure
abbrev pub TAG_WIDTH : ℕ
TAG_WIDTH = WIDTH + POSITION_WIDTH

-- the code's bits, then the position's
unfoldable pub tag : List Key → ℕ → ℕ
tag keys i = code_at keys i * 2 ^ POSITION_WIDTH + i

-- how many low bits the tags of two positions differ in: the measure, counted from the other end
abbrev pub gap : List Key → ℕ → ℕ → ℕ
gap keys i j = differing TAG_WIDTH (tag keys i) (tag keys j)
