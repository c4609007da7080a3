use Rattle.std.proofs.Common.{subst, ◌∙◌, arith}
use Rattle.karras_build.specs.Spans.{span_at, IsSpan}
use Rattle.karras_build.proofs.finding.find_in_threads.Goals as goal

pub returns : goal.returns
unfolding span_at
returns g c = record {
  count = c.par_for_each_mut.auto.s ∙ c.requires.room;
  each = λ k. λ lt.
      let at = (c.par_for_each_mut.ensures k (record { first = 0; last = 0; split = 0 }) (omega arith)).1 in
      subst (λ x. IsSpan c.args.keys.now k x) at.left at.call;
}
