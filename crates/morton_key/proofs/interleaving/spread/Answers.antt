use Rattle.std.proofs.Common.{arith}
use Rattle.morton_key.proofs.Spreading.{to_sixteen, to_eight, to_four, to_two, to_one}
use Rattle.morton_key.proofs.interleaving.spread.Goals as goal

pub returns : goal.returns
returns c = record {
  bits = to_one c.args.number _
      (to_two c.args.number _
      (to_four c.args.number _
      (to_eight c.args.number _ (to_sixteen c.args.number c.from-whole.result c.from-whole.ensures (omega arith)))));
}
