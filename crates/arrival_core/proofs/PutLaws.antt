-- Bits as numbers, sides of nodes, and functions with another value at one place.
use Rattle.std.proofs.Common.{◌≡◌, ◌≢◌, ℕ, ◌+◌, ◌≤◌, Bool, true, false, refl, ap, ◌∙◌, arith, subst, inl, inr}
use Rattle.std.specs.Prelude.{◌==◌, ◌&&◌, not}
use Rattle.std.proofs.lemmas.Bool.{cases_eq, cases_Bool, eqb-true, eq-eqb, ne_eqb, and_parts}
use Rattle.arrival_core.specs.declared.packets.Side.{Side}
use Rattle.arrival_core.specs.declared.packets.Side.TheVariants.{Left, Right}
use Rattle.arrival_core.specs.Sums.{bit}
use Rattle.arrival_core.specs.Frames.{other}
use Rattle.arrival_core.specs.Events.{same_side, same, put, put_side}
use Rattle.arrival_core.specs.Counts.{at}

-- a bit is 0 or 1
pub bit_le : (b : Bool) → bit b ≤ 1
bit_le true = omega arith
bit_le false = omega arith

-- what counts holds
pub bit-one : (b : Bool) → bit b ≡ 1 → b ≡ true
bit-one true e = refl
bit-one false e = absurd (omega arith)

-- what does not count does not hold
pub bit-zero : (b : Bool) → bit b ≡ 0 → b ≡ false
bit-zero true e = absurd (omega arith)
bit-zero false e = refl

-- what holds counts
pub bit-true : {b : Bool} → b ≡ true → bit b ≡ 1
bit-true e = ap bit e

-- what does not hold does not count
pub bit-false : {b : Bool} → b ≡ false → bit b ≡ 0
bit-false e = ap bit e

-- one of both holds
pub bit-not : (b : Bool) → bit b + bit (not b) ≡ 1
bit-not true = refl
bit-not false = refl

-- ---- tests
pub eq-true : (a b : ℕ) → a ≡ b → (a == b) ≡ true
eq-true a b e = eq-eqb a b e

-- two numbers are not equal
pub eq-false : (a b : ℕ) → a ≢ b → (a == b) ≡ false
eq-false a b ne = ne_eqb a b ne

-- a number is itself
pub bit-same : (a : ℕ) → bit (a == a) ≡ 1
bit-same a = bit-true (eq-true a a refl)

-- sides that are one
same_side-true : (d e : Side) → same_side d e ≡ true → d ≡ e
same_side-true Left Left h = refl
same_side-true Left Right h = cc
same_side-true Right Left h = cc
same_side-true Right Right h = refl

-- a side is itself
same_side-refl : (d : Side) → same_side d d ≡ true
same_side-refl Left = refl
same_side-refl Right = refl

-- both hold
both-true : (x y : Bool) → x ≡ true → y ≡ true → (x && y) ≡ true
both-true x y a b = rw a (rw b refl)

-- a side of a node is itself
pub same-refl : (s : ℕ) (d : Side) → same s d s d ≡ true
unfolding same
same-refl s d = both-true (s == s) (same_side d d) (eq-true s s refl) (same_side-refl d)

-- sides that are one are of one node
pub same-node : (s : ℕ) (d : Side) (t : ℕ) (e : Side) → same s d t e ≡ true → s ≡ t
unfolding same
same-node s d t e h = eqb-true s t (and_parts (s == t) (same_side d e) h).0

-- and one side of it
pub same-side : (s : ℕ) (d : Side) (t : ℕ) (e : Side) → same s d t e ≡ true → d ≡ e
unfolding same
same-side s d t e h = same_side-true d e (and_parts (s == t) (same_side d e) h).1

-- not both
and-false : (b : Bool) → (b && false) ≡ false
and-false true = refl
and-false false = refl

-- the two sides of a node are two
pub same-other : (s : ℕ) (d : Side) (t : ℕ) → same s d t (other d) ≡ false
unfolding same
same-other s Left t = and-false (s == t)
same-other s Right t = and-false (s == t)

-- the same the other way round
pub other-same : (s : ℕ) (d : Side) (t : ℕ) → same s (other d) t d ≡ false
unfolding same
other-same s Left t = and-false (s == t)
other-same s Right t = and-false (s == t)

-- what is not the other side is the side
pub side_apart : (s : ℕ) (d e : Side) → same s (other d) s e ≡ false → d ≡ e
unfolding same
side_apart s Left Left h = refl
side_apart s Left Right h = let on = eq-true s s refl in let h2 : (true && true) ≡ false = rw on at h in cc
side_apart s Right Left h = let on = eq-true s s refl in let h2 : (true && true) ≡ false = rw on at h in cc
side_apart s Right Right h = refl

-- sides of two nodes are two
pub same-other_node : (s : ℕ) (d : Side) (t : ℕ) (e : Side) → s ≢ t → same s d t e ≡ false
unfolding same
same-other_node s d t e ne = rw (eq-false s t ne) refl

-- ---- a side as a number
pub at_le : (s : ℕ) (d : Side) (t : ℕ) (e : Side) → at s d t e ≤ 1
unfolding at
at_le s d t e = bit_le (same s d t e)

-- a side is at itself
pub at-here : (s : ℕ) (d : Side) → at s d s d ≡ 1
unfolding at
at-here s d = bit-true (same-refl s d)

-- at an equal one
pub at-same : (s : ℕ) (d : Side) (t : ℕ) (e : Side) → same s d t e ≡ true → at s d t e ≡ 1
unfolding at
at-same s d t e h = bit-true h

-- and at no other
pub at-apart : (s : ℕ) (d : Side) (t : ℕ) (e : Side) → same s d t e ≡ false → at s d t e ≡ 0
unfolding at
at-apart s d t e h = bit-false h

-- ---- at one number
pub put-here : {X : Type 0} (f : ℕ → X) (k : ℕ) (x : X) → put f k x k ≡ x
unfolding put
put-here f k x = rw (eq-true k k refl) refl

-- the other numbers keep their values
pub put-other : {X : Type 0} (f : ℕ → X) (k : ℕ) (x : X) (i : ℕ) → k ≢ i → put f k x i ≡ f i
unfolding put
put-other f k x i ne = rw (eq-false k i ne) refl

-- what held holds
pub put-true : (f : ℕ → Bool) (k i : ℕ) → f i ≡ true → put f k true i ≡ true
put-true f k i on = elim (cases_eq k i) [
  | inl h ↦ subst (λ z. put f k true z ≡ true) h (put-here f k true)
  | inr h ↦ put-other f k true i h ∙ on
]

-- a bit that is set counts one more
pub put_bit : (f : ℕ → Bool) (k i : ℕ) → f k ≡ false → bit (put f k true i) ≡ bit (f i) + bit (k == i)
put_bit f k i e = elim (cases_eq k i) [
  | inl h ↦ subst (λ z. bit (put f k true z) ≡ bit (f z) + bit (k == z)) h
      (rw (put-here f k true) (rw e (rw (eq-true k k refl) refl)))
  | inr h ↦ rw (put-other f k true i h) (rw (eq-false k i h) (omega arith))
]

-- ---- at one side
pub put_side-same : {X : Type 0} (f : ℕ → Side → X) (s : ℕ) (d : Side) (x : X) (t : ℕ) (e : Side) →
    same s d t e ≡ true → put_side f s d x t e ≡ x
unfolding put_side
put_side-same f s d x t e h = rw h refl

-- the other sides keep their values
pub put_side-apart : {X : Type 0} (f : ℕ → Side → X) (s : ℕ) (d : Side) (x : X) (t : ℕ) (e : Side) →
    same s d t e ≡ false → put_side f s d x t e ≡ f t e
unfolding put_side
put_side-apart f s d x t e h = rw h refl

-- what held holds
pub put_side-true : (f : ℕ → Side → Bool) (s : ℕ) (d : Side) (t : ℕ) (e : Side) → f t e ≡ true →
    put_side f s d true t e ≡ true
put_side-true f s d t e on = elim (cases_Bool (same s d t e)) [
  | inl h ↦ put_side-same f s d true t e h
  | inr h ↦ put_side-apart f s d true t e h ∙ on
]

-- a bit that is set where it was not
pub put_side_bit : (f : ℕ → Side → Bool) (s : ℕ) (d : Side) (t : ℕ) (e : Side) → f s d ≡ false →
    bit (put_side f s d true t e) ≡ bit (f t e) + at s d t e
put_side_bit f s d t e off = elim (cases_Bool (same s d t e)) [
  | inl h ↦
      let node = same-node s d t e h in
      let side = same-side s d t e h in
      let here : f t e ≡ false = subst (λ z. f z e ≡ false) node (subst (λ z. f s z ≡ false) side off) in
      rw (put_side-same f s d true t e h) (rw here (rw (at-same s d t e h) refl))
  | inr h ↦ rw (put_side-apart f s d true t e h) (rw (at-apart s d t e h) (omega arith))
]
