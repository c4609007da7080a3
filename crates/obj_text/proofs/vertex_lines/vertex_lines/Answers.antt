use Rattle.std.proofs.Common.{arith}
use Rattle.text_words.proofs.Joining.{length-joined_lines_of}
use Rattle.obj_text.proofs.vertex_lines.vertex_lines.Goals as goal

pub pass_line-requires : goal.pass_line-requires
pass_line-requires c =
    omega (arith, c.loop-lines.invariant.few, length-joined_lines_of c.args.text.now, c.requires)
