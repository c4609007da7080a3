-- Where a segment enters a box: at the beginning of what the stretches of all three axes share, and at any equal
-- fraction.
use Rattle.std.proofs.Common.{◌≡◌, ◌∙◌, ℤ, pos, ◌-ℤ◌, ◌*ℤ◌, ◌≤ℤ◌, ◌<ℤ◌, arith, sym, ap, Some}
use Rattle.std.proofs.lemmas.Int.{ints}
use Rattle.fixed_box.specs.declared.shapes.Point.{Point}
use Rattle.fixed_box.specs.declared.shapes.Box3.{Box3}
use Rattle.segment_hit.proofs.Integers.{moved, times_comm}
use Rattle.segment_hit.proofs.Signs.{orderly, not_negative, at_most, grows, shrinks}
use Rattle.segment_hit.proofs.Chains.{chain, upwards, apart}
use Rattle.segment_hit.proofs.Axes.{low_side, high_side}
use Rattle.segment_hit.specs.Entering.{IsBetweenAt, IsIn, IsEntry}
use Rattle.segment_hit.specs.Stretches.{IsPart, Covers, IsStretchOf, IsSharedBy}
use Rattle.segment_hit.specs.declared.stretch.Stretch.{Stretch}

-- a segment in the box is there at a part of its way
pub part_of : (p q : Point) (b : Box3) (T D : ℤ) → IsIn p q b T D → IsPart T D
part_of p q b T D h = record { positive = h.positive; begun = h.begun; ended = h.ended }

-- the segment is in the box just where the stretch covers its way
pub record IsInside (p q : Point) (b : Box3) (s : Stretch) : Type 0 where
  pub covered : (T D : ℤ) → IsIn p q b T D → Covers s T D
  pub inside : (T D : ℤ) → IsPart T D → Covers s T D → IsIn p q b T D

-- what the stretches of the three axes share is that stretch
pub all_shared : (p q : Point) (b : Box3) (x y z xy s : Stretch)
    → IsStretchOf (λ T D. IsBetweenAt p.x q.x b.lo.x b.hi.x T D) (Some x)
    → IsStretchOf (λ T D. IsBetweenAt p.y q.y b.lo.y b.hi.y T D) (Some y)
    → IsStretchOf (λ T D. IsBetweenAt p.z q.z b.lo.z b.hi.z T D) (Some z)
    → IsSharedBy x y xy → IsSharedBy xy z s → IsInside p q b s
all_shared p q b x y z xy s on_x on_y on_z two three = record {
  covered = λ T D h.
      let k = part_of p q b T D h in
      (three T D k).1 ((two T D k).1 ((on_x T D k).1 h.on_x, (on_y T D k).1 h.on_y), (on_z T D k).1 h.on_z);
  inside = λ T D k c.
      let u = (three T D k).0 c in
      let v = (two T D k).0 u.0 in
      record {
        positive = k.positive;
        begun = k.begun;
        ended = k.ended;
        on_x = (on_x T D k).0 v.0;
        on_y = (on_y T D k).0 v.1;
        on_z = (on_z T D k).0 u.1;
      };
}

-- where it does not end before it begins, the segment enters the box at its beginning
pub entry_found : (p q : Point) (b : Box3) (s : Stretch) → IsInside p q b s
    → (s.enter.num *ℤ s.leave.den) ≤ℤ (s.leave.num *ℤ s.enter.den) → IsEntry p q b s.enter.num s.enter.den
entry_found p q b s h rises = record {
  inside = h.inside s.enter.num s.enter.den
      (record { positive = s.enter.above; begun = s.enter.begun; ended = s.enter.ended })
      (record { entered = at_most_itself (s.enter.num *ℤ s.enter.den); left = rises });
  least = λ T D k. (h.covered T D k).entered;
}
  where
    at_most_itself : (z : ℤ) → z ≤ℤ z
    at_most_itself z = omega (arith, ints)

-- where it does, the segment misses the box
pub none_shared : (p q : Point) (b : Box3) (s : Stretch) (T D : ℤ) → IsInside p q b s
    → (s.leave.num *ℤ s.enter.den) <ℤ (s.enter.num *ℤ s.leave.den) → IsIn p q b T D → ⊥
none_shared p q b s T D h falls k =
    let c = h.covered T D k in
    apart (s.leave.num *ℤ s.enter.den) (s.enter.num *ℤ s.leave.den) falls
    (chain s.enter.num s.enter.den T D s.leave.num s.leave.den
    (upwards s.enter.den s.enter.above) (upwards s.leave.den s.leave.above) k.positive c.entered c.left)

-- N/M and n/g are equal, so what is at most N/M of a way is at most n/g of it
no_more : (l way N M n g : ℤ) → pos 0 <ℤ M → pos 0 ≤ℤ g → n *ℤ M ≡ N *ℤ g
    → (l *ℤ M) ≤ℤ (N *ℤ way) → (l *ℤ g) ≤ℤ (n *ℤ way)
no_more l way N M n g m p e h =
    let x = grows (l *ℤ M) (N *ℤ way) g p h in
    let y : (N *ℤ way) *ℤ g ≡ (n *ℤ way) *ℤ M =
    moved N way g ∙ ap (λ (z : ℤ). z *ℤ way) (sym e) ∙ moved n M way in
    let z : ((l *ℤ g) *ℤ M) ≤ℤ ((n *ℤ way) *ℤ M) = omega (arith, orderly, x, y, moved l M g) in
    shrinks _ _ M m z

-- and what is at least N/M of it is at least n/g of it
no_less : (l way N M n g : ℤ) → pos 0 <ℤ M → pos 0 ≤ℤ g → n *ℤ M ≡ N *ℤ g
    → (N *ℤ way) ≤ℤ (l *ℤ M) → (n *ℤ way) ≤ℤ (l *ℤ g)
no_less l way N M n g m p e h =
    let x = grows (N *ℤ way) (l *ℤ M) g p h in
    let y : (N *ℤ way) *ℤ g ≡ (n *ℤ way) *ℤ M =
    moved N way g ∙ ap (λ (z : ℤ). z *ℤ way) (sym e) ∙ moved n M way in
    let z : ((n *ℤ way) *ℤ M) ≤ℤ ((l *ℤ g) *ℤ M) = omega (arith, orderly, x, y, moved l M g) in
    shrinks _ _ M m z

-- on one axis: at equal fractions the segment is between the same sides
same_between : (from to lo hi N M n g : ℤ) → pos 0 <ℤ M → pos 0 <ℤ g → n *ℤ M ≡ N *ℤ g
    → IsBetweenAt from to lo hi N M → IsBetweenAt from to lo hi n g
same_between from to lo hi N M n g m p e h = record {
  low = (low_side from to lo n g).1
      (no_more (lo -ℤ from) (to -ℤ from) N M n g m (upwards g p) e ((low_side from to lo N M).0 h.low));
  high = (high_side from to hi n g).1
      (no_less (hi -ℤ from) (to -ℤ from) N M n g m (upwards g p) e ((high_side from to hi N M).0 h.high));
}

-- at equal fractions the segment is in the same boxes
pub same_inside : (p q : Point) (b : Box3) (N M n g : ℤ) → pos 0 <ℤ g → n *ℤ M ≡ N *ℤ g → IsIn p q b N M → IsIn p q b n g
same_inside p q b N M n g above e h =
    let m = h.positive in
    let turned : N *ℤ g ≡ M *ℤ n = sym e ∙ times_comm n M in
    record {
      positive = above;
      begun = not_negative M g N n m above h.begun turned;
      ended = at_most M g N n m above h.ended turned;
      on_x = same_between p.x q.x b.lo.x b.hi.x N M n g m above e h.on_x;
      on_y = same_between p.y q.y b.lo.y b.hi.y N M n g m above e h.on_y;
      on_z = same_between p.z q.z b.lo.z b.hi.z N M n g m above e h.on_z;
    }

-- an entry is one at each equal fraction
pub same_entry : (p q : Point) (b : Box3) (N M n g : ℤ) → pos 0 <ℤ g → n *ℤ M ≡ N *ℤ g
    → IsEntry p q b N M → IsEntry p q b n g
same_entry p q b N M n g above e h = record {
  inside = same_inside p q b N M n g above e h.inside;
  least = λ T D k. no_less T D N M n g h.inside.positive (upwards g above) e (h.least T D k);
}

-- a segment enters a box at one fraction
pub one_entry : (p q : Point) (b : Box3) (N M n g : ℤ) → IsEntry p q b N M → IsEntry p q b n g → N *ℤ g ≡ n *ℤ M
one_entry p q b N M n g h k = both (N *ℤ g) (n *ℤ M) (h.least n g k.inside) (k.least N M h.inside)
  where
    both : (x y : ℤ) → x ≤ℤ y → y ≤ℤ x → x ≡ y
    both x y h k = omega (arith, ints)
