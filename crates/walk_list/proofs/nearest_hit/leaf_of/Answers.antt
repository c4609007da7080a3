use Rattle.std.proofs.Common.{◌<◌, length, ap, subst, sym, ◌∙◌}
use Rattle.std.proofs.lemmas.List.{get_or_default}
use Rattle.walk_list.specs.Leaves.{leaf_at, no_leaf}
use Rattle.walk_list.proofs.nearest_hit.leaf_of.Goals as goal

pub returns : goal.returns
unfolding leaf_at
returns c =
    c.index-leaves-position.is
    ∙ (get_or_default c.leaves.result.now c.args.position _ no_leaf
    (subst (λ xs. c.args.position < length xs) (sym c.leaves.ensures) c.requires)
    ∙ ap (λ xs. leaf_at xs c.args.position) c.leaves.ensures)
