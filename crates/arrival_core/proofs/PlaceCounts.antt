-- What a place is, by its counts.
use Rattle.std.proofs.Common.{◌≡◌, ℕ, ◌<◌, refl, sym, ap, ◌∙◌, arith, inl, inr}
use Rattle.std.specs.Prelude.{◌==◌}
use Rattle.std.proofs.lemmas.Bool.{cases_eq}
use Rattle.arrival_core.specs.declared.packets.Packet.{Packet}
use Rattle.arrival_core.specs.declared.packets.Place.{Place}
use Rattle.arrival_core.specs.declared.packets.Place.TheVariants.{Nothing, Holds, Out}
use Rattle.arrival_core.specs.Sums.{bit}
use Rattle.arrival_core.specs.Counts.{is_nothing, is_out_with}
use Rattle.arrival_core.proofs.PutLaws.{bit-true, bit-false, eq-true, eq-false}

-- a place that counts as nothing holds nothing
pub nothing_is : (pl : Place) → is_nothing pl ≡ 1 → pl ≡ Nothing
unfolding is_nothing
nothing_is Nothing h = refl
nothing_is (Holds p) h = absurd (omega (arith, h))
nothing_is (Out k) h = absurd (omega (arith, h))

-- a place that is full and at home holds a packet
pub full_is : (pl : Place) (right : Packet) → is_nothing pl ≡ 0 → ((j : ℕ) → is_out_with j pl ≡ 0) →
    ((p : Packet) → pl ≡ Holds p → p ≡ right) → pl ≡ Holds right
unfolding is_nothing is_out_with
full_is Nothing right full home it = absurd (omega arith)
full_is (Holds p) right full home it = ap Holds (it p refl)
full_is (Out j) right full home it =
    let one = bit-true (eq-true j j refl) in
    let zero : bit (j == j) ≡ 0 = home j in
    absurd (omega (arith, one, zero))

-- a place is out with one worker
pub out_one : (p : Place) (j k : ℕ) → 0 < is_out_with j p → 0 < is_out_with k p → j ≡ k
unfolding is_out_with
out_one Nothing j k a b = absurd (omega arith)
out_one (Holds p) j k a b = absurd (omega arith)
out_one (Out i) j k a b = elim (cases_eq i j) [
  | inr ne ↦ let off = bit-false (eq-false i j ne) in absurd (omega (arith, a, off))
  | inl e ↦ elim (cases_eq i k) [
    | inr ne ↦ let off = bit-false (eq-false i k ne) in absurd (omega (arith, b, off))
    | inl z ↦ sym e ∙ z
  ]
]
