-- The Morton code of a box: the bits of the three coordinates of its middle, taken in turn.
use Rattle.std.specs.Prelude.{ℕ, suc, zero, ℤ, ◌+◌, ◌*◌, ◌/◌, ◌^◌, ◌+ℤ◌}
use Rattle.std.specs.Int.{bit_at}
use Rattle.std.specs.Int.RustNames.{unsigned_abs}
use Rattle.fixed_box.specs.declared.shapes.Point.{Point}
use Rattle.fixed_box.specs.declared.shapes.Box3.{Box3}
use Rattle.fixed_box.specs.declared.shapes.TheConstants.{HALF}
use Rattle.morton_key.specs.declared.keys.TheConstants.{LEVELS}

-- the sum, over the levels, of each level k: the bit of x at 3 k + 2, that of y at 3 k + 1, that of z at 3 k
unfoldable pub interleaved : ℕ → ℕ → ℕ → ℕ → ℕ
interleaved zero x y z = 0
interleaved (suc k) x y z =
    interleaved k x y z + (2 ^ (3 * k + 2) * bit_at x k + 2 ^ (3 * k + 1) * bit_at y k + 2 ^ (3 * k) * bit_at z k)

-- a coordinate of the world, counted from its lower end
unfoldable pub raised : ℤ → ℕ
raised x = unsigned_abs (x +ℤ HALF)

-- the code of a point of the world
unfoldable pub code_of_point : Point → ℕ
code_of_point p = interleaved LEVELS (raised p.x) (raised p.y) (raised p.z)

-- the middle of two coordinates, rounded down, counted from the world's lower end
unfoldable pub middle : ℤ → ℤ → ℕ
middle lo hi = (raised lo + raised hi) / 2

-- the code of the middle of a box
unfoldable pub code_of : Box3 → ℕ
code_of b = interleaved LEVELS (middle b.lo.x b.hi.x) (middle b.lo.y b.hi.y) (middle b.lo.z b.hi.z)
