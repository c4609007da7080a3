use Rattle.refit.specs.Listing.{ListsBut}
use Rattle.refit.specs.Stale.{IsStill}
use Rattle.refit.proofs.moving.moved.Given as goal

abbrev pub invariant-loop-position : goal.invariant-loop-position
invariant-loop-position l = ListsBut (IsStill l.tree.keys l.before l.boxes) l.position l.moved.items
