use Rattle.std.proofs.Common.{rules, arith, ◌≡◌, ◌+◌, ◌*◌, ◌^◌, ◌∙◌, ap, sym, ℕ, Bool, min, to_z, of_z, w64}
use Rattle.decimals.specs.Fractions.{with_sign}
use Rattle.decimals.specs.Rounding.{rounded, size_of}
use Rattle.decimals.specs.declared.limits.TheConstants.{GREATEST}
use Rattle.decimals.proofs.Caps.{value_by_size}
use Rattle.decimals.proofs.rounding.short_steps.Goals as goal

-- a size without an exponent
short_size : (minus : Bool) (n places raised lowered size : ℕ) → raised ≡ 0 → lowered ≡ 0
    → size ≡ min (rounded minus n (10 ^ places)) GREATEST → size ≡ size_of minus n raised (places + lowered)
short_size minus n places raised lowered size e f g =
    let power : 10 ^ raised ≡ 1 = ap (λ k. 10 ^ k) e in
    let same : n ≡ n * 10 ^ raised = sym (ap (λ k. n * k) power ∙ (let one : n * 1 ≡ n = omega arith in one)) in
    let down : places ≡ places + lowered = omega (arith, f) in
    g ∙ ap (λ k. min (rounded minus k (10 ^ places)) GREATEST) same
    ∙ ap (λ k. min (rounded minus (n * 10 ^ raised) (10 ^ k)) GREATEST) down

pub returns : goal.returns
returns c =
    let d = c.args.d.now in
    let units = d.mantissa * c.args.unit in
    let quotient : c.min.result ≡ min (rounded d.minus units (10 ^ d.places)) GREATEST = search rules in
    let told : to_z w64 (of_z w64 c.signed.result) ≡ with_sign d.minus c.min.result = search rules in
    let size = short_size d.minus units d.places d.raised d.lowered c.min.result c.requires.raised c.requires.lowered
    quotient in
    told ∙ ap (with_sign d.minus) size ∙ sym (value_by_size d.minus d.mantissa c.args.unit d.places d.raised d.lowered)
