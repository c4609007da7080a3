use Rattle.std.proofs.Common.{◌≡◌, ℕ, ◌+◌, ◌-◌, ◌<◌, arith, inl, inr, subst}
use Rattle.std.specs.Prelude.{slice_index}
use Rattle.std.proofs.lemmas.Bool.{cases_lt}
use Rattle.std.proofs.lemmas.List.Kept.{AllPairs-from_increasing}
use Rattle.refit.proofs.handing_up.tests.rises.Goals as goal

pub loop-i-preserved : goal.loop-i-preserved
loop-i-preserved c = λ k lt. elim (cases_lt (k + 1) c.loop-i.i) [
  | inl less ↦ c.loop-i.invariant k less
  | inr high ↦
      let at : c.loop-i.i - 1 ≡ k = omega (arith, lt, high, c.loop-i.auto.i) in
      let next : c.loop-i.i ≡ k + 1 = omega (arith, lt, high) in
      subst (λ (n : ℕ). slice_index c.args.live.now n < slice_index c.args.live.now (k + 1)) at
      (subst (λ (n : ℕ). slice_index c.args.live.now (c.loop-i.i - 1) < slice_index c.args.live.now n) next
      c.if-live-i.false)
]

pub returns : goal.returns
returns c = λ e. AllPairs-from_increasing c.args.live.now
    (λ k lt. c.loop-i.invariant k (omega (arith, lt, c.loop-i-test.false)))
