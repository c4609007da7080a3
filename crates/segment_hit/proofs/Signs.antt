-- Signs of products over the integers: from equal ratios to bounds, and the cancelling of factors.
use Rattle.std.proofs.Common.{◌≡◌, ◌≢◌, ℕ, zero, suc, ◌+◌, ◌*◌, ◌≤◌, ℤ, pos, negsuc, ◌-ℤ◌, ◌*ℤ◌, neg_ℤ, ◌≤ℤ◌, ◌<ℤ◌, unsigned_abs, to_z, of_z, w64, FitsSigned, arith, refl}
use Rattle.std.proofs.lemmas.Int.{ints, to_z-of_z}
use borrow.Author.Differences.{up, down, product_is, le_out, lt_out, at_most_in, below_in}
use native.Mathlib.Nat.{mul-le-mul_right}
use Rattle.segment_hit.proofs.Integers.{linear, sub-times, times-sub, times-neg, times_comm}

-- a product by one
times-one : (n : ℕ) → pos n *ℤ pos 1 ≡ pos n
times-one n = omega (arith, ints)

-- where T/D = x/N with D and N above 0, x is not below 0 if T is not
pub not_negative : (D N T x : ℤ) → pos 0 <ℤ D → pos 0 <ℤ N → pos 0 ≤ℤ T → T *ℤ N ≡ D *ℤ x → pos 0 ≤ℤ x
not_negative D N T (pos k) d n t e = omega (arith, ints)
not_negative (pos zero) N T (negsuc k) d n t e = absurd (omega (arith, ints))
not_negative (negsuc m) N T (negsuc k) d n t e = absurd (omega (arith, ints))
not_negative (pos (suc m)) (negsuc i) T (negsuc k) d n t e = absurd (omega (arith, ints))
not_negative (pos (suc m)) (pos i) (negsuc j) (negsuc k) d n t e = absurd (omega (arith, ints))
not_negative (pos (suc m)) (pos i) (pos j) (negsuc k) d n t e = absurd (omega (arith, ints))

-- and x is at most N if T is at most D
pub at_most : (D N T x : ℤ) → pos 0 <ℤ D → pos 0 <ℤ N → T ≤ℤ D → T *ℤ N ≡ D *ℤ x → x ≤ℤ N
at_most D N T x d n t e =
    let h : pos 0 ≤ℤ (D -ℤ T) = omega (arith, ints) in
    let g : (D -ℤ T) *ℤ N ≡ D *ℤ (N -ℤ x) = omega (arith, linear, sub-times D T N, times-sub D N x) in
    let k : pos 0 ≤ℤ (N -ℤ x) = not_negative D N (D -ℤ T) (N -ℤ x) d n h g in
    omega (arith, ints)

-- a factor above 0 cancels
pub cancel_right : (x y N : ℤ) → pos 0 <ℤ N → x *ℤ N ≡ y *ℤ N → x ≡ y
cancel_right x y N n e =
    let one : pos 0 <ℤ pos 1 = omega (arith, ints) in
    let a : pos 0 ≤ℤ (x -ℤ y) =
    not_negative N (pos 1) (pos 0) (x -ℤ y) n one (omega (arith, ints))
    (omega (arith, linear, times-sub N x y, times_comm x N, times_comm y N, times-one 0)) in
    let b : pos 0 ≤ℤ (y -ℤ x) =
    not_negative N (pos 1) (pos 0) (y -ℤ x) n one (omega (arith, ints))
    (omega (arith, linear, times-sub N y x, times_comm x N, times_comm y N, times-one 0)) in
    omega (arith, ints)

-- a factor that is not 0 cancels
pub cancel_nonzero : (x y N : ℤ) → N ≢ pos 0 → x *ℤ N ≡ y *ℤ N → x ≡ y
cancel_nonzero x y (pos zero) n e = absurd (n refl)
cancel_nonzero x y (pos (suc k)) n e = cancel_right x y (pos (suc k)) (omega (arith, ints)) e
cancel_nonzero x y (negsuc k) n e =
    cancel_right x y (neg_ℤ (negsuc k)) (omega (arith, ints))
    (omega (arith, linear, times-neg x (negsuc k), times-neg y (negsuc k)))

-- equations and orders that are linear in products, which stay unknowns
pub ruleset orderly = (linear, le_out, lt_out, at_most_in, below_in)

-- x ≤ y gives x c ≤ y c
pub grows : (x y c : ℤ) → pos 0 ≤ℤ c → x ≤ℤ y → (x *ℤ c) ≤ℤ (y *ℤ c)
grows x y (negsuc k) p h = absurd (omega (arith, ints))
grows x y (pos k) p h =
    let e : (up x + down y) * k ≤ (up y + down x) * k = mul-le-mul_right k (le_out x y h) in
    omega (arith, orderly, product_is x (pos k), product_is y (pos k))

-- and x c ≤ y c gives x ≤ y, where c is above 0
pub shrinks : (x y c : ℤ) → pos 0 <ℤ c → (x *ℤ c) ≤ℤ (y *ℤ c) → x ≤ℤ y
shrinks x y c p h =
    let one : pos 0 <ℤ pos 1 = omega (arith, ints) in
    let e : (y *ℤ c -ℤ x *ℤ c) *ℤ pos 1 ≡ c *ℤ (y -ℤ x) =
    omega (arith, linear, any-times-one (y *ℤ c -ℤ x *ℤ c), times-sub c y x, times_comm c y, times_comm c x) in
    let d : pos 0 ≤ℤ (y *ℤ c -ℤ x *ℤ c) = omega (arith, orderly) in
    let k : pos 0 ≤ℤ (y -ℤ x) = not_negative c (pos 1) (y *ℤ c -ℤ x *ℤ c) (y -ℤ x) p one d e in
    omega (arith, orderly)
  where
    any-times-one : (z : ℤ) → z *ℤ pos 1 ≡ z
    any-times-one z = omega (arith, ints)

-- what is not below 0 is its own size
pub size_is : (z : ℤ) → pos 0 ≤ℤ z → pos (unsigned_abs z) ≡ z
size_is (pos n) h = refl
size_is (negsuc n) h = absurd (omega (arith, ints))

-- a number that fits and is not below 0 is unchanged by a cast
pub unchanged : (z : ℤ) → FitsSigned w64 z → pos 0 ≤ℤ z → pos (unsigned_abs (to_z w64 (of_z w64 z))) ≡ z
unchanged z f h = rw (to_z-of_z w64 z f) (size_is z h)
