use Rattle.std.proofs.Common.{◌≤◌, ◌++◌, length, take, refl, ap, ◌∙◌, arith, rules}
use Rattle.std.proofs.lemmas.Grind.{common_steps}
use Rattle.std.proofs.lemmas.List.{take-append-le}
use Rattle.streams.proofs.Fetches.{FileIs-any, front_none, front_next}
use Rattle.streams.proofs.fetching.fetch_all.Goals as goal

pub loop-count-init : goal.loop-count-init
loop-count-init g c = record {
  few = omega arith;
  same = refl;
  front =
      FileIs-any _ _ _ (front_none _ (search rules));
  kept = refl;
}

pub loop-count-preserved : goal.loop-count-preserved
loop-count-preserved g c =
    let count = c.in-Ok.count in
    let within : count ≤ length c.fetch.new.buf = c.in-Ok.ensures.bound.0 in
    record {
      few = grind (arith, common_steps);
      same = c.fetch.ensures.same ∙ c.loop-count.invariant.same;
      front =
          front_next _ _ c.args.name.now c.loop-count.all.items _ (take count c.fetch.new.buf) c.len-at.result count
          c.loop-count.invariant.same
          (grind (arith, common_steps))
          (c.in-Ok-extend_from_slice.ensures.items
          ∙ ap (λ k. c.loop-count.all.items ++ k) (take-append-le count c.fetch.new.buf _ within))
          c.loop-count.invariant.front c.in-Ok.ensures.bytes;
      kept = c.in-Ok.ensures.cause.kept ∙ c.loop-count.invariant.kept;
    }
