use Rattle.std.proofs.Common.{◌≡◌, ℕ, arith, length, inl, inr, subst, ap, false, List}
use Rattle.std.proofs.lemmas.Bool.{cases_lt}
use Rattle.morton_key.specs.declared.keys.Key.{Key}
use Rattle.morton_key.specs.Keys.{tri_at}
use Rattle.radix_tree.specs.Fit.{box_of_triangle}
use Rattle.arrival_core.specs.Settings.{live_in}
use Rattle.refit.proofs.handing_up.tests.agree.Goals as goal

pub loop-p-preserved : goal.loop-p-preserved
loop-p-preserved c = λ q lt off. elim (cases_lt q c.loop-p.p) [
  | inl less ↦ c.loop-p.invariant q less off
  | inr high ↦
      let at : c.loop-p.p ≡ q = omega (arith, lt, high) in
      subst (λ (n : ℕ). live_in c.args.live.now n n ≡ false →
      box_of_triangle c.args.before.now (tri_at c.args.tree.now.keys n)
      ≡ box_of_triangle c.args.after.now (tri_at c.args.tree.now.keys n)) at
      (subst (λ (ks : List Key). live_in c.args.live.now c.loop-p.p c.loop-p.p ≡ false →
      box_of_triangle c.args.before.now (tri_at ks c.loop-p.p) ≡ box_of_triangle c.args.after.now (tri_at ks c.loop-p.p))
      c.keys-keys.ensures.keys (c.is_same.ensures c.if-not-is_same.false)) off
]

pub returns : goal.returns
returns c = λ e. record {
  before = c.args.before.now;
  fitted = c.requires.fitted;
  same = λ p lt off. c.loop-p.invariant p (omega (arith, lt, c.loop-p-test.false, ap length c.keys-keys.ensures.keys)) off;
}
