use Rattle.std.proofs.Common.{◌∙◌}
use Rattle.std.proofs.lemmas.List.{get_or_default}
use Rattle.morton_key.specs.Keys.{key_at, tri_at}
use Rattle.radix_tree.specs.Fit.{box_of_triangle}
use Rattle.radix_tree.proofs.FitLaws.{tri_below}
use Rattle.refit.proofs.handing_up.tests.box_at.Goals as goal

pub overflow_sub-result : goal.overflow_sub-result
unfolding tri_at key_at
overflow_sub-result c = c.requires.lawful.from_one c.args.position c.requires.within

pub bounds-boxes-keys : goal.bounds-boxes-keys
unfolding tri_at key_at
bounds-boxes-keys c = tri_below c.args.keys.now c.requires.lawful c.args.boxes.now c.requires.count c.args.position
    c.requires.within

pub returns : goal.returns
unfolding box_of_triangle tri_at key_at
returns c =
    c.index-boxes-keys.is
    ∙ get_or_default c.args.boxes.now _ _ _
    (tri_below c.args.keys.now c.requires.lawful c.args.boxes.now c.requires.count c.args.position
    c.requires.within)
