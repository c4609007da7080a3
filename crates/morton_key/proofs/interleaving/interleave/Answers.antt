use Rattle.morton_key.proofs.Weaving.{woven_is}
use Rattle.morton_key.proofs.interleaving.interleave.Goals as goal

pub returns : goal.returns
returns c =
    woven_is c.args.x c.args.y c.args.z c.spread.result c.spread-2.result c.spread-3.result c.spread.ensures.bits
    c.spread-2.ensures.bits c.spread-3.ensures.bits
    c.requires.x c.requires.y c.requires.z c.spread-3.type_inv
