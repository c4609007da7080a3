use Rattle.std.proofs.Common.{◌∙◌, refl, ap}
use Rattle.morton_key.specs.Keys.{tri_at}
use Rattle.radix_tree.specs.Fit.{box_of_triangle}
use Rattle.radix_tree.proofs.FitLaws.{least_of_leaf_at}
use Rattle.refit.proofs.refitting.box_at.Goals as goal

pub returns-clause-value : goal.returns-clause-value
returns-clause-value c = c.box_at.ensures
    ∙ ap (λ ks. box_of_triangle c.args.boxes.now (tri_at ks c.args.position)) c.keys.ensures.keys

pub returns-clause-least : goal.returns-clause-least
returns-clause-least c =
    least_of_leaf_at c.args.boxes.now c.args.tree.now.keys c.args.position c.args.position c.box_at.result refl
    c.requires.within (returns-clause-value c)
