use Rattle.std.proofs.Common.{◌≡◌, ◌∙◌, sym, true, refl}
use Rattle.std.specs.Prelude.{◌&&◌}
use Rattle.std.specs.Ordering.{int_eq}
use Rattle.std.proofs.lemmas.Bool.{and_parts}
use Rattle.std.proofs.lemmas.Bool.Decides.{Decides-int_eq}
use Rattle.fixed_box.specs.declared.shapes.Point.{Point}
use Rattle.fixed_box.proofs.LeastBoxes.{same_box}
use Rattle.refit.proofs.handing_up.tests.is_same.Goals as goal

-- points that compare equal are equal
same_point : (p q : Point) → (int_eq p.x q.x && (int_eq p.y q.y && int_eq p.z q.z)) ≡ true → p ≡ q
same_point p q e =
    let a = and_parts (int_eq p.x q.x) (int_eq p.y q.y && int_eq p.z q.z) e in
    let b = and_parts (int_eq p.y q.y) (int_eq p.z q.z) a.1 in
    let x : p.x ≡ q.x = (Decides-int_eq p.x q.x).0 a.0 in
    let y : p.y ≡ q.y = (Decides-int_eq p.y q.y).0 b.0 in
    let z : p.z ≡ q.z = (Decides-int_eq p.z q.z).0 b.1 in
    rw (← x) (rw (← y) (rw (← z) refl))

pub returns : goal.returns
returns c = λ e off.
    let h = and_parts _ _ (sym c.eq.ensures ∙ e) in
    sym c.box_at.ensures ∙ (same_box _ _ (same_point _ _ h.0) (same_point _ _ h.1) ∙ c.box_at-2.ensures)
