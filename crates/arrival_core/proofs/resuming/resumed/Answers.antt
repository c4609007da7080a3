use Rattle.std.proofs.Common.{◌∙◌, ◌<◌, arith, sym, get_or}
use Rattle.arrival_core.proofs.TerrainLaws.{root_row, shown_ended, shown_looking, shown_carry}
use Rattle.arrival_core.proofs.resuming.resumed.Goals as goal

pub returns-then-next-g-clause-value : goal.returns-then-next-g-clause-value
returns-then-next-g-clause-value c = λ workers. shown_ended c.args.g.now.tree.now.keys c.args.g.now.boxes.now
    c.args.g.now.live.now workers c.args.next c.args.from c.args.to c.args.tally c.if-from-to.true
    (c.if-next-g.true ∙ c.requires.terrain.batches_is)

pub returns-else-next-g-clause-value : goal.returns-else-next-g-clause-value
returns-else-next-g-clause-value c = λ workers. shown_looking c.args.g.now.tree.now.keys c.args.g.now.boxes.now
    c.args.g.now.live.now workers c.args.next c.args.from c.args.to c.args.tally c.if-from-to.true
    (λ e. c.if-next-g.false (e ∙ sym c.requires.terrain.batches_is))

pub leaf_up-up-requires-clause-high : goal.leaf_up-up-requires-clause-high
leaf_up-up-requires-clause-high c =
    let root = root_row c.args.g.now.tree.now c.requires.terrain.table c.requires.terrain.task.two in
    let inside : get_or c.args.g.now.live.now c.args.from 0 < _ = c.requires.terrain.task.within c.args.from 0
    (omega arith) in
    omega (arith, root.2, inside)

pub returns-clause-value : goal.returns-clause-value
returns-clause-value c = λ workers. shown_carry c.args.g.now.tree.now.keys c.args.g.now.boxes.now
    c.args.g.now.live.now workers c.args.next c.args.from c.args.to c.args.tally c.leaf_up-up.result
    c.leaf_packet.result
    (omega arith) c.requires.within c.leaf_up-up.ensures c.leaf_packet.ensures
