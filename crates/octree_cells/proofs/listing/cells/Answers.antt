use Rattle.std.proofs.Common.{◌≡◌, rules, sym, subst}
use Rattle.octree_cells.specs.Cells.{AreCells}
use Rattle.octree_cells.specs.CellsOf.{cells_of}
use Rattle.octree_cells.proofs.CellLaws.{are_cells}
use Rattle.octree_cells.proofs.listing.cells.Goals as goal

pub returns-clause-cells : goal.returns-clause-cells
returns-clause-cells c =
    let keys = c.args.t.now.keys in
    let value : c.new.result ≡ cells_of keys c.args.level = search rules in
    subst (AreCells keys c.args.level) (sym value) (are_cells keys c.collect_all.ensures.lawful c.args.level c.requires)
