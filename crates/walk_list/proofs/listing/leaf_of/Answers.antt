use Rattle.std.proofs.Common.{◌∙◌, ap}
use Rattle.std.proofs.lemmas.List.{get_or_default}
use Rattle.fixed_box.specs.declared.shapes.Box3.{Box3}
use Rattle.morton_key.specs.Keys.{key_at, tri_at}
use Rattle.radix_tree.specs.Fit.{box_of_triangle}
use Rattle.radix_tree.proofs.FitLaws.{tri_below}
use Rattle.walk_list.specs.declared.records.Leaf.{Leaf}
use Rattle.walk_list.specs.Leaves.{leaf_of}
use Rattle.walk_list.proofs.listing.leaf_of.Goals as goal

pub overflow_sub-result : goal.overflow_sub-result
unfolding tri_at key_at
overflow_sub-result c = c.requires.lawful.from_one c.args.position c.requires.within

pub bounds-boxes-number : goal.bounds-boxes-number
unfolding tri_at key_at
bounds-boxes-number c = tri_below c.args.keys.now c.requires.lawful c.args.boxes.now c.requires.count c.args.position
    c.requires.within

pub returns : goal.returns
unfolding leaf_of box_of_triangle tri_at key_at
returns c =
    ap (λ (b : Box3). let l : Leaf = record { fit = b; number = (key_at c.args.keys.now c.args.position).tri } in l)
    (c.index-boxes-number.is
    ∙ get_or_default c.args.boxes.now _ _ _
    (tri_below c.args.keys.now c.requires.lawful c.args.boxes.now c.requires.count c.args.position
    c.requires.within))
