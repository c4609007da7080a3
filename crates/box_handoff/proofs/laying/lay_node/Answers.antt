use Rattle.std.proofs.Common.{arith, ◌∙◌}
use Rattle.box_handoff.specs.Laying.{over}
use Rattle.box_handoff.proofs.LayLaws.{high, within, word_is, added_one}
use Rattle.box_handoff.proofs.laying.lay_node.Goals as goal

pub overflow_add-node : goal.overflow_add-node
overflow_add-node c =
    let h = high c.args.m.now c.requires.moves c.args.number c.requires.number c.args.node.now c.requires.node in
    let w = within c.args.m.now c.requires.moves c.args.number c.requires.number c.args.node.now c.requires.node in
    omega (arith, h, w, c.requires.moves.task.lawful.few)

pub returns : goal.returns
returns c = added_one (over c.args.m.now) c.args.laid.now c.push.new.laid c.args.node.now.split _
    (c.word_of.ensures ∙ word_is c.args.m.now c.requires.moves c.args.number c.requires.number c.args.node.now
    c.requires.node c.is_live-on_left.result c.is_live-on_right.result c.is_live-on_left.ensures c.is_live-on_right.ensures)
    c.push.result c.push.ensures.spots c.push.ensures.words
