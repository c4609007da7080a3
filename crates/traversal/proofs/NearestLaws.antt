-- The nearest hit is one: what two answers to one segment have in common.
use Rattle.std.proofs.Common.{◌≡◌, ℕ, sym, arith, subst, List}
use Rattle.fixed_box.specs.declared.shapes.Point.{Point}
use Rattle.fixed_box.specs.declared.shapes.Tri.{Tri}
use Rattle.segment_hit.specs.declared.fraction.Frac.{Frac}
use Rattle.segment_hit.proofs.FractionLaws.{at_most_antisym}
use Rattle.traversal.specs.Nearest.{IsMet, IsNearest}

-- nearest hits are at one fraction
pub one_fraction : (tris : List Tri) (p q : Point) (n m : ℕ) (f g : Frac) → IsNearest tris p q n f →
    IsNearest tris p q m g → f ≡ g
one_fraction tris p q n m f g x y = at_most_antisym f g (x.least m g y.met) (y.least n f x.met)

-- and of one number
pub one_number : (tris : List Tri) (p q : Point) (n m : ℕ) (f g : Frac) → IsNearest tris p q n f →
    IsNearest tris p q m g → n ≡ m
one_number tris p q n m f g x y =
    let e = one_fraction tris p q n m f g x y in
    let up = x.lowest m (subst (λ z. IsMet tris p q m z) (sym e) y.met) in
    let down = y.lowest n (subst (λ z. IsMet tris p q n z) e x.met) in
    omega arith
