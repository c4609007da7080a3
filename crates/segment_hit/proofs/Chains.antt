-- Fractions in order, as cross products say it: a row of them, the greater and the lesser of two, and what is below 0 or
-- above 1.
use Rattle.std.proofs.Common.{◌≡◌, ◌↔◌, Bool, false, IsTrue, ℤ, pos, ◌+ℤ◌, ◌*ℤ◌, ◌≤ℤ◌, ◌<ℤ◌, arith}
use Rattle.std.proofs.lemmas.Int.{ints, by_lt_z}
use Rattle.segment_hit.proofs.Integers.{moved, times_comm, times-zero, add-times}
use Rattle.segment_hit.proofs.Signs.{orderly, grows, shrinks}
use Rattle.segment_hit.specs.Stretches.{IsFrom, IsUpTo, IsPart}
use Rattle.segment_hit.specs.declared.stretch.Entry.{Entry}

-- N/M is at most C/E and C/E is at most T/D, so N/M is at most T/D
pub chain : (N M C E T D : ℤ) → pos 0 ≤ℤ M → pos 0 ≤ℤ D → pos 0 <ℤ E →
    (N *ℤ E) ≤ℤ (C *ℤ M) → (C *ℤ D) ≤ℤ (T *ℤ E) → (N *ℤ D) ≤ℤ (T *ℤ M)
chain N M C E T D m d e h k =
    let x = grows (N *ℤ E) (C *ℤ M) D d h in
    let y = grows (C *ℤ D) (T *ℤ E) M m k in
    let z : ((N *ℤ D) *ℤ E) ≤ℤ ((T *ℤ M) *ℤ E) =
    omega (arith, orderly, x, y, moved N E D, moved C M D, moved C D M, moved T E M) in
    shrinks _ _ E e z

-- what is above 0 is not below it
pub upwards : (z : ℤ) → pos 0 <ℤ z → pos 0 ≤ℤ z
upwards z h = omega (arith, ints)

-- what is below a number is at most it
pub weakly : (x y : ℤ) → x <ℤ y → x ≤ℤ y
weakly x y h = omega (arith, ints)

-- and not at least it
pub apart : (x y : ℤ) → x <ℤ y → y ≤ℤ x → ⊥
apart x y h k = omega (arith, ints)

-- x < y gives x c < y c, where c is above 0
pub grows_strictly : (x y c : ℤ) → pos 0 <ℤ c → x <ℤ y → (x *ℤ c) <ℤ (y *ℤ c)
grows_strictly x y c p h =
    let one : (x +ℤ pos 1) ≤ℤ y = omega (arith, ints) in
    let g = grows (x +ℤ pos 1) y c (upwards c p) one in
    omega (arith, orderly, g, p, add-times x (pos 1) c, one-times c)
  where
    one-times : (z : ℤ) → pos 1 *ℤ z ≡ z
    one-times z = omega (arith, ints)

-- a test for `<` that fails says `≤` the other way
pub fails : (x y : ℤ) (r : Bool) → r ≡ false → (IsTrue r ↔ x <ℤ y) → y ≤ℤ x
fails x y r e h = by_lt_z x y (λ l. let t = h.1 l in absurd (let k : ⊥ = cc in k)) (λ l. l)

-- what is not above 0 is at most every part of the way
below_all : (N M T D : ℤ) → pos 0 <ℤ M → N ≤ℤ pos 0 → IsPart T D → IsFrom N M T D
below_all N M T D m h k =
    let x = grows N (pos 0) D (upwards D k.positive) h in
    let y = grows (pos 0) T M (upwards M m) k.begun in
    omega (arith, orderly, x, y, times_comm (pos 0) D, times-zero D, times_comm (pos 0) M, times-zero M)

-- what is not below 1 is at least every part of the way
above_all : (N M T D : ℤ) → pos 0 <ℤ M → M ≤ℤ N → IsPart T D → IsUpTo N M T D
above_all N M T D m h k =
    let x = grows T D M (upwards M m) k.ended in
    let y = grows M N D (upwards D k.positive) h in
    omega (arith, orderly, x, y, times_comm D M)

-- so a fraction below 0 may be replaced by 0
pub zero_does : (N M T D : ℤ) → pos 0 <ℤ M → N <ℤ pos 0 → IsPart T D → IsFrom (pos 0) M T D ↔ IsFrom N M T D
zero_does N M T D m h k = (
  λ _. below_all N M T D m (weakly N (pos 0) h) k,
  λ _. below_all (pos 0) M T D m (omega (arith, ints)) k,
)

-- and one above 1 by 1
pub one_does : (N M T D : ℤ) → pos 0 <ℤ M → M <ℤ N → IsPart T D → IsUpTo M M T D ↔ IsUpTo N M T D
one_does N M T D m h k = (
  λ _. above_all N M T D m (weakly M N h) k,
  λ _. above_all M M T D m (omega (arith, ints)) k,
)

-- nothing is at most a fraction below 0
pub none_below : (N M T D : ℤ) → pos 0 <ℤ M → N <ℤ pos 0 → IsPart T D → IsUpTo N M T D → ⊥
none_below N M T D m h k f =
    let x = grows_strictly N (pos 0) D k.positive h in
    let y = grows (pos 0) T M (upwards M m) k.begun in
    omega (arith, orderly, x, y, f, times_comm (pos 0) D, times-zero D, times_comm (pos 0) M, times-zero M)

-- or at least one above 1
pub none_above : (N M T D : ℤ) → pos 0 <ℤ M → M <ℤ N → IsPart T D → IsFrom N M T D → ⊥
none_above N M T D m h k f =
    let x = grows T D M (upwards M m) k.ended in
    let y = grows_strictly M N D k.positive h in
    omega (arith, orderly, x, y, f, times_comm D M)

-- from the greater of two fractions on is from both on
pub from_both : (a b : Entry) (T D : ℤ) → IsPart T D → (a.num *ℤ b.den) ≤ℤ (b.num *ℤ a.den) →
    IsFrom b.num b.den T D ↔ (IsFrom a.num a.den T D × IsFrom b.num b.den T D)
from_both a b T D k h = (
  λ f. (chain a.num a.den b.num b.den T D (upwards a.den a.above) (upwards D k.positive) b.above h f, f),
  λ f. f.1,
)

-- up to the lesser of two fractions is up to both
pub up_to_both : (a b : Entry) (T D : ℤ) → IsPart T D → (a.num *ℤ b.den) ≤ℤ (b.num *ℤ a.den) →
    IsUpTo a.num a.den T D ↔ (IsUpTo a.num a.den T D × IsUpTo b.num b.den T D)
up_to_both a b T D k h = (
  λ f. (f, chain T D a.num a.den b.num b.den (upwards D k.positive) (upwards b.den b.above) a.above f h),
  λ f. f.0,
)

-- both in the other order
pub swap_both : {P Q R : Type 0} → (P ↔ (Q × R)) → P ↔ (R × Q)
swap_both e = (λ p. let k = e.0 p in (k.1, k.0), λ k. e.1 (k.1, k.0))
