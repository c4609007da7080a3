use Rattle.std.proofs.Common.{◌∙◌, arith}
use Rattle.karras_build.proofs.FewKeys.{no_nodes}
use Rattle.karras_build.proofs.handing_up.build.Goals as goal

pub returns-then-len-lt2-clause-value : goal.returns-then-len-lt2-clause-value
returns-then-len-lt2-clause-value g c = no_nodes c.args.keys.items c.args.boxes.now c.of.result.nodes
    (omega (arith, c.if-len-lt2.true, c.len.ensures)) (c.of.ensures.nodes ∙ c.new.ensures.items)
