use Rattle.std.proofs.Common.{ap, ◌∙◌}
use Rattle.walk_list.specs.Leaves.{leaves_of}
use Rattle.walk_list.proofs.TreeParts.{holds_leaves}
use Rattle.walk_list.proofs.listing.flatten.Goals as goal

pub records_of-requires : goal.records_of-requires
records_of-requires c =
    holds_leaves c.args.t.now c.args.boxes.now c.deref.result.now c.keys.ensures.table c.requires.fitted
    c.requires.world
    (c.deref.ensures.value ∙ (c.in-Ok.ensures ∙ ap (λ ks. leaves_of ks c.args.boxes.now) c.keys.ensures.keys))
