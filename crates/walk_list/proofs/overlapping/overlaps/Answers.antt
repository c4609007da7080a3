use Rattle.std.proofs.Common.{ap, subst, ◌∙◌}
use Rattle.std.specs.List.Sorted.{IsPermutation}
use Rattle.std.proofs.Common.{◌++◌}
use Rattle.walk_list.specs.Leaves.{met_of}
use Rattle.walk_list.proofs.AllLeaves.{sorted_is}
use Rattle.walk_list.proofs.overlapping.overlaps.Goals as goal

pub returns : goal.returns
returns c = λ boxes over.
    let found = c.in-Ok.ensures
    ∙ (ap (λ xs. xs ++ met_of c.args.q.now c.leaves.result.now) c.new-numbers.ensures.items
    ∙ ap (met_of c.args.q.now) c.leaves.ensures) in
    c.new.ensures
    ∙ sorted_is c.args.f.now boxes over c.args.q.now c.sorted-numbers.result.items
    (subst (λ xs. IsPermutation xs c.sorted-numbers.result.items) found c.sorted-numbers.ensures.same)
    c.sorted-numbers.ensures.rising
