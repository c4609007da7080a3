use Rattle.std.proofs.Common.{◌-◌, ◌++◌, length, ap, subst, ◌∙◌}
use Rattle.std.specs.List.Sorted.{IsPermutation}
use Rattle.std.proofs.lemmas.List.Sorted.{IsNonDecreasingBy-from_sort}
use Rattle.traversal.specs.Walks.{met_in}
use Rattle.traversal.proofs.Answer.{answer_is}
use Rattle.traversal.proofs.overlapping.overlaps.Goals as goal

pub returns-clause-numbers : goal.returns-clause-numbers
returns-clause-numbers c =
    let keys = c.args.t.now.keys in
    let all = met_in keys c.args.boxes.now c.args.q.now 0 (length keys - 1) in
    let found = c.in-Ok.ensures.numbers ∙ ap (λ xs. xs ++ all) c.new-numbers.ensures.items in
    c.new.ensures ∙ answer_is c.args.q.now keys c.in-Ok.ensures.table.lawful c.args.boxes.now c.requires.count
    c.sort_unstable.new.self.items
    (subst (λ xs. IsPermutation xs c.sort_unstable.new.self.items) found c.sort_unstable.ensures.permutation)
    (IsNonDecreasingBy-from_sort (λ x. x) c.sort_unstable.new.self.items c.sort_unstable.ensures.sorted)
