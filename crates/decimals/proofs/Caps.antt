-- An exponent that was cut off gives the same grid value.
use Rattle.std.proofs.Common.{arith, suc, zero, ◌≡◌, ◌≤◌, ◌<◌, ◌*◌, ◌^◌, ◌+◌, ◌-◌, ◌⊎◌, inl, inr, min, ℕ, Bool, sym, ap, ◌∙◌}
use Rattle.decimals.specs.Fractions.{nearest_step, scaled, with_sign}
use Rattle.decimals.specs.Values.{brought_in}
use Rattle.decimals.specs.Rounding.{rounded, size_of}
use Rattle.decimals.proofs.Powers.{raised_past, units_small}
use Rattle.decimals.proofs.Floors.{value_is}
use Rattle.decimals.specs.declared.limits.TheConstants.{GREATEST, PAST_MOST_DIGITS}
use Rattle.decimals.proofs.Scales.{rounded_up, rounded_down, rounded_past}

-- a number times a power of ten past every value is cut off as that number times the greatest value is
great : (n t : ℕ) → 12 < t → min (n * 10 ^ t) GREATEST ≡ min (n * GREATEST) GREATEST
great zero t more = let e : 0 * 10 ^ t ≡ 0 * GREATEST = omega arith in ap (λ k. min k GREATEST) e
great (suc n) t more = let p : GREATEST ≤ suc n * 10 ^ t =
    raised_past (suc n) t (omega arith) more in omega (arith, p)

-- an exponent that wins by far gives the greatest value, or 0
far_up : (minus : Bool) (n raised down : ℕ) → down + 12 < raised
    → size_of minus n raised down ≡ min (n * GREATEST) GREATEST
far_up minus n raised down far =
    ap (λ k. min k GREATEST) (rounded_up minus n raised down (omega (arith, far)))
    ∙ great n (raised - down) (omega (arith, far))

-- an exponent that loses by far gives 0
far_down : (minus : Bool) (n raised down : ℕ) → n < 2 ^ 112 → raised + 34 < down
    → size_of minus n raised down ≡ 0
far_down minus n raised down small far =
    ap (λ k. min k GREATEST)
    (rounded_down minus n raised down (omega (arith, far))
    ∙ rounded_past minus n (down - raised) small (omega (arith, far)))

-- a number is at most another, or the other is below it
within : (a b : ℕ) → (a ≤ b) ⊎ (b < a)
within zero b = inl (omega arith)
within (suc a) zero = inr (omega arith)
within (suc a) (suc b) = elim (within a b) [ inl p ↦ inl (omega arith) | inr p ↦ inr (omega arith) ]

-- exponents that are cut off at c, behind so many places
same_size : (minus : Bool) (n places raised lowered c : ℕ) → n < 2 ^ 112 → places + 34 < c
    → (min raised c ≡ 0) ⊎ (min lowered c ≡ 0)
    → size_of minus n (min raised c) (places + min lowered c) ≡ size_of minus n raised (places + lowered)
same_size minus n places raised lowered c small far one = elim (within raised c) [
  | inr more ↦ (let none : lowered ≡ 0 = elim one [ inl e ↦ absurd (omega arith) | inr e ↦ omega arith ] in
      far_up minus n (min raised c) (places + min lowered c) (omega (arith, none))
      ∙ sym (far_up minus n raised (places + lowered) (omega (arith, none))))
  | inl less ↦ elim (within lowered c) [
    | inl few ↦ (let e : min raised c ≡ raised = omega arith in let f : min lowered c ≡ lowered = omega arith in
        ap (λ k. size_of minus n k (places + min lowered c)) e ∙ ap (λ k. size_of minus n raised (places + k)) f)
    | inr much ↦ (let none : raised ≡ 0 = elim one [ inl e ↦ omega arith | inr e ↦ absurd (omega arith) ] in
        far_down minus n (min raised c) (places + min lowered c) small (omega (arith, none))
        ∙ sym (far_down minus n raised (places + lowered) small (omega (arith, none))))
  ]
]

-- a number may be multiplied by the unit before or after another factor
units_first : (m unit p : ℕ) → m * p * unit ≡ m * unit * p
units_first m unit p = grind arith

-- the grid value of parts, by its size
pub value_by_size : (minus : Bool) (m unit places raised lowered : ℕ)
    → brought_in (nearest_step unit (scaled minus m places raised lowered))
    ≡ with_sign minus (size_of minus (m * unit) raised (places + lowered))
value_by_size minus m unit places raised lowered =
    value_is minus unit m places raised lowered
    ∙ ap (λ k. with_sign minus (min (rounded minus k (10 ^ (places + lowered))) GREATEST))
    (units_first m unit (10 ^ raised))

-- the grid value of parts whose exponent was cut off
pub same_value : (minus : Bool) (m unit places raised lowered c : ℕ) → m < PAST_MOST_DIGITS → unit < 2 ^ 32
    → places + 34 < c
    → (min raised c ≡ 0) ⊎ (min lowered c ≡ 0)
    → brought_in (nearest_step unit (scaled minus m places (min raised c) (min lowered c)))
    ≡ brought_in (nearest_step unit (scaled minus m places raised lowered))
same_value minus m unit places raised lowered c few narrow far one =
    value_by_size minus m unit places (min raised c) (min lowered c)
    ∙ ap (with_sign minus) (same_size minus (m * unit) places raised lowered c (units_small m unit few narrow) far one)
    ∙ sym (value_by_size minus m unit places raised lowered)
