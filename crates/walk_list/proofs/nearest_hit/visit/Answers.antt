use Rattle.std.proofs.Common.{subst, sym}
use Rattle.fixed_box.specs.World.{BoxInWorld}
use Rattle.walk_list.specs.declared.records.Record.{Record}
use Rattle.walk_list.proofs.Subtrees.{own_bounds}
use Rattle.walk_list.proofs.nearest_hit.visit.Goals as goal

pub passage-requires : goal.passage-requires
passage-requires c =
    let f = c.args.f.now in
    let own = own_bounds f.leaves f.records c.args.at c.args.position c.requires.subtree in
    subst (λ (r : Record). BoxInWorld r.fit) (sym c.record_of-r.ensures) own.world
