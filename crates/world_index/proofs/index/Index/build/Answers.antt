use Rattle.std.proofs.Common.{rules}
use Rattle.world_index.proofs.Indexes.{fitted_index}
use Rattle.world_index.proofs.index.Index.build.Goals as goal

pub returns-clause-index : goal.returns-clause-index
returns-clause-index g c =
    fitted_index _ c.args.points.now.items c.args.faces.now (search rules) (search rules) (search rules) (record {
      each = search rules;
      nodes = search rules;
      fits = search rules;
      list = search rules;
      leaves = search rules;
    }) tt tt tt
