use Rattle.std.proofs.Common.{refl}
use Rattle.octree_cells.specs.Cells.{prefix_of}
use Rattle.octree_cells.proofs.listing.prefix.Goals as goal

pub returns : goal.returns
unfolding prefix_of
returns c = refl
