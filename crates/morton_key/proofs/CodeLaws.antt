use Rattle.std.proofs.Common.{◌≡◌, ℕ, ◌^◌, ◌<◌, refl, sym, ◌∙◌, arith}
use Rattle.std.proofs.lemmas.Int.{ints}
use Rattle.std.specs.Prelude.{ℤ}
use Rattle.fixed_box.specs.declared.shapes.Point.{Point}
use Rattle.fixed_box.specs.declared.shapes.Box3.{Box3}
use Rattle.fixed_box.specs.World.{IsCoordinate, BoxInWorld}
use Rattle.fixed_box.specs.Centre.{IsMiddle, IsCentre}
use Rattle.fixed_box.proofs.InTheWorld.{holds_centre, holds_in_world}
use Rattle.morton_key.specs.declared.keys.TheConstants.{LEVELS, WIDTH}
use Rattle.morton_key.specs.Codes.{interleaved, raised, code_of_point, middle, code_of}
use Rattle.morton_key.proofs.Weaving.{interleaved_small}

-- a coordinate of the world has LEVELS bits, counted from the lower end
pub raised_small : (x : ℤ) → IsCoordinate x → raised x < 2 ^ LEVELS
unfolding raised
raised_small x h = omega (arith, ints)

-- the middle of two coordinates is the middle of their places
pub raised_middle : (lo c hi : ℤ) → IsCoordinate lo → IsCoordinate c → IsCoordinate hi → IsMiddle lo c hi →
    raised c ≡ middle lo hi
unfolding raised middle
raised_middle lo c hi p q r m = omega (arith, ints)

-- the code of a box is that of its centre
pub code_of_centre : (b : Box3) (p : Point) → BoxInWorld b → IsCentre b p → code_of b ≡ code_of_point p
unfolding code_of code_of_point
code_of_centre b p w m =
    let q = holds_in_world b p w (holds_centre b p m) in
    let x = raised_middle b.lo.x p.x b.hi.x w.lo.x q.x w.hi.x m.x in
    let y = raised_middle b.lo.y p.y b.hi.y w.lo.y q.y w.hi.y m.y in
    let z = raised_middle b.lo.z p.z b.hi.z w.lo.z q.z w.hi.z m.z in
    rw (x, y, z) refl

-- every code has its bits and no more
pub code_small : (b : Box3) → code_of b < 2 ^ WIDTH
unfolding code_of
code_small b = interleaved_small (middle b.lo.x b.hi.x) (middle b.lo.y b.hi.y) (middle b.lo.z b.hi.z) LEVELS

-- a code made of the raised coordinates of the centre
pub code_made : (b : Box3) (p : Point) (x y z r : ℕ) → BoxInWorld b → IsCentre b p → x ≡ raised p.x → y ≡ raised p.y →
    z ≡ raised p.z → r ≡ interleaved LEVELS x y z → r ≡ code_of b
unfolding code_of_point
code_made b p x y z r w m ex ey ez e = e ∙ (rw (ex, ey, ez) refl ∙ sym (code_of_centre b p w m))
