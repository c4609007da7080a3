use Rattle.morton_key.proofs.OrderLaws.{keys_from_more, keys_from_all}
use Rattle.morton_key.proofs.ordering.listed.Goals as goal

pub loop-i-preserved : goal.loop-i-preserved
loop-i-preserved c =
    rw (c.in_ok-push.ensures.items)
    (keys_from_more c.args.boxes.now c.loop-i.keys.items c.loop-i.i c.code.result c.index-boxes-i.result
    c.loop-i-test.true c.index-boxes-i.is c.code.ensures.value c.loop-i.invariant)

pub returns : goal.returns
returns c = keys_from_all c.args.boxes.now c.loop-i.keys.items c.loop-i.i c.loop-i-test.false c.loop-i.invariant
