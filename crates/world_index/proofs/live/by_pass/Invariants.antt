use Rattle.refit.specs.Listing.{ListsBut}
use Rattle.world_index.specs.Live.{StandsStill}
use Rattle.world_index.proofs.live.by_pass.Given as goal

abbrev pub invariant-loop-position : goal.invariant-loop-position
invariant-loop-position l = ListsBut (StandsStill l.faces l.keys l.marks.moved) l.position l.live.items
