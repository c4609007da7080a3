-- A fraction divided by the greatest common divisor of its parts.
use Rattle.std.proofs.Common.{◌≡◌, ℕ, zero, suc, ◌+◌, ◌*◌, ◌/◌, ◌%◌, ◌^◌, ◌<◌, ◌≤◌, pos, ◌*ℤ◌, ◌<ℤ◌, arith, refl, sym, ◌∙◌, ap, subst}
use Rattle.std.specs.Int.{IsGcd, ◌∣◌}
use Rattle.std.proofs.lemmas.Int.{ints}
use Rattle.std.proofs.lemmas.Nat.Gcd.{IsGcd-from_zero, IsGcd-from_mod, dvd-zero}
use native.Mathlib.Nat.{one-dvd, eq-one_of_dvd-one, dvd-mul_left, dvd-mul_right, pos_of_dvd_of_pos, div-mul_cancel, dvd_of_mul-dvd-mul_right, mul-dvd-mul_right, div-le_self}

-- two numbers divided by their greatest common divisor have none but 1
pub reduced : (a b g : ℕ) → 0 < b → IsGcd a b g → IsGcd (a / g) (b / g) 1
reduced a b g some h =
    let p : 0 < g = pos_of_dvd_of_pos h.1 some in (
      one-dvd (a / g),
      one-dvd (b / g),
      λ d x y.
          let k : d * g ∣ a = rw (div-mul_cancel g h.0) at (mul-dvd-mul_right d x g) in
          let l : d * g ∣ b = rw (div-mul_cancel g h.1) at (mul-dvd-mul_right d y g) in
          let m : d * g ∣ 1 * g = rw one_times (h.2 (d * g) k l) in
          dvd_of_mul-dvd-mul_right d {n = 1} p m,
    )
  where
    one_times : (n : ℕ) → 1 * n ≡ n
    one_times n = omega arith

-- and the same quotient
pub same_value : (a b g : ℕ) → IsGcd a b g → pos (a / g) *ℤ pos b ≡ pos a *ℤ pos (b / g)
same_value a b g h = ap pos (
    ap (λ (x : ℕ). (a / g) * x) (sym (div-mul_cancel g h.1)) ∙ about (a / g) (b / g) g
    ∙ ap (λ (x : ℕ). x * (b / g)) (div-mul_cancel g h.0))
  where
    about : (x y z : ℕ) → x * (y * z) ≡ (x * z) * y
    about x y z = omega arith

-- a divisor above 0 stays above 0
pub some_left : (b g : ℕ) → 0 < b → g ∣ b → pos 0 <ℤ pos (b / g)
some_left b g some h =
    let e : b / g * g ≡ b = div-mul_cancel g h in
    positive (b / g) g (rw e some)
  where
    positive : (x g : ℕ) → 0 < x * g → pos 0 <ℤ pos x
    positive x g h = let k : 0 < x = grind (arith) in omega (arith, ints)

-- a quotient is no greater
pub smaller : (a g : ℕ) → a < 2 ^ 63 → a / g < 2 ^ 63
smaller a g h = let k : a / g ≤ a = div-le_self a g in omega arith

-- any two numbers have a greatest common divisor: Euclid's steps, at most `fuel` of them
pub gcd_below : (fuel a b : ℕ) → b < fuel → (g : ℕ) × IsGcd a b g
gcd_below zero a b h = absurd (omega arith)
gcd_below (suc n) a zero h = (a, IsGcd-from_zero a zero refl)
gcd_below (suc n) a (suc b) h =
    let m : a % suc b < n = omega arith in
    let g = gcd_below n (suc b) (a % suc b) m in
    (g.0, IsGcd-from_mod a (suc b) g.0 g.1)

-- a number that divides a product and has nothing in common with one factor divides the other
pub divides_other : (a b d : ℕ) → IsGcd a b 1 → b ∣ a * d → b ∣ d
divides_other a b zero h k = dvd-zero b
divides_other a b (suc e) h k =
    let g = gcd_below (b * suc e + 1) (a * suc e) (b * suc e) (omega arith) in
    let times : suc e ∣ g.0 = g.1.2 (suc e) (dvd-mul_left (suc e) a) (dvd-mul_left (suc e) b) in
    let back : g.0 / suc e * suc e ≡ g.0 = div-mul_cancel (suc e) times in
    let in_a : g.0 / suc e ∣ a = dvd_of_mul-dvd-mul_right {k = suc e} (g.0 / suc e) (omega arith) (rw back g.1.0) in
    let in_b : g.0 / suc e ∣ b = dvd_of_mul-dvd-mul_right {k = suc e} (g.0 / suc e) (omega arith) (rw back g.1.1) in
    let one : g.0 / suc e ≡ 1 = eq-one_of_dvd-one (h.2 (g.0 / suc e) in_a in_b) in
    let same : g.0 ≡ suc e = sym back ∙ ap (λ (x : ℕ). x * suc e) one ∙ one_times (suc e) in
    let P : ℕ → Type 0 = λ x. b ∣ x in
    subst P same (g.1.2 b k (dvd-mul_right b (suc e)))
  where
    one_times : (n : ℕ) → 1 * n ≡ n
    one_times n = omega arith
