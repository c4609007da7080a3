use Rattle.std.proofs.Common.{ap}
use Rattle.box_handoff.specs.Entries.{given_of, spots_of, tree_of}
use Rattle.box_handoff.proofs.RestLaws.{leaf_is}
use Rattle.box_handoff.proofs.resting.told.Goals as goal

pub leaf_at-requires-clause-leaf : goal.leaf_at-requires-clause-leaf
leaf_at-requires-clause-leaf c = leaf_is (given_of c.args.about.now) c.requires.given (ap spots_of c.in-None.is)
    c.args.split c.args.side c.requires.within c.requires.told

pub rest_packet-requires-clause-tree : goal.rest_packet-requires-clause-tree
rest_packet-requires-clause-tree c = ap tree_of c.in-Some.is
