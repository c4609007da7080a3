use Rattle.std.proofs.Common.{◌+◌, arith, sym, ◌∙◌}
use Rattle.traversal.proofs.Walking.{at_node, left_is_child, right_is_child, left_falls, right_falls, missed_tests, met_tests, few_tests, leaf_tests}
use Rattle.traversal.proofs.counted.+count_below.Goals as goal

pub returns-in-Leaf-clause-tests : goal.returns-in-Leaf-clause-tests
returns-in-Leaf-clause-tests t c = λ a b d.
    leaf_tests c.args.t.now c.args.q.now c.args.child _ a b c.in-Leaf.is

pub returns-then-not-node_meets-clause-tests : goal.returns-then-not-node_meets-clause-tests
returns-then-not-node_meets-clause-tests t c =
    let here = at_node c.args.t.now c.args.boxes.now c.args.child c.in-Inner.number c.requires.table c.requires.fitted
    c.requires.child c.in-Inner.is in
    missed_tests here c.args.q.now (sym c.node_meets.ensures ∙ c.if-not-node_meets.true)

pub count_below-on_left-requires : goal.count_below-on_left-requires
count_below-on_left-requires t c =
    let here = at_node c.args.t.now c.args.boxes.now c.args.child c.in-Inner.number c.requires.table c.requires.fitted
    c.requires.child c.in-Inner.is in
    let falls = left_falls here c.left.result c.left.ensures in
    (omega (arith, falls), (c.requires.table, (c.requires.fitted, left_is_child here c.left.result c.left.ensures)))

pub count_below-on_right-requires : goal.count_below-on_right-requires
count_below-on_right-requires t c =
    let here = at_node c.args.t.now c.args.boxes.now c.args.child c.in-Inner.number c.requires.table c.requires.fitted
    c.requires.child c.in-Inner.is in
    let falls = right_falls here c.right.result c.right.ensures in
    (omega (arith, falls), (c.requires.table, (c.requires.fitted, right_is_child here c.right.result c.right.ensures)))

pub returns-else-not-node_meets-clause-tests : goal.returns-else-not-node_meets-clause-tests
returns-else-not-node_meets-clause-tests t c =
    let here = at_node c.args.t.now c.args.boxes.now c.args.child c.in-Inner.number c.requires.table c.requires.fitted
    c.requires.child c.in-Inner.is in
    met_tests here c.args.q.now (sym c.node_meets.ensures ∙ c.if-not-node_meets.false) c.left.result c.right.result
    c.count_below-on_left.result c.count_below-on_right.result c.left.ensures c.right.ensures
    (c.count_below-on_left.ensures.tests _ _ c.left.ensures)
    (c.count_below-on_right.ensures.tests _ _ c.right.ensures)

pub returns-else-not-node_meets-clause-few : goal.returns-else-not-node_meets-clause-few
returns-else-not-node_meets-clause-few t c =
    let here = at_node c.args.t.now c.args.boxes.now c.args.child c.in-Inner.number c.requires.table c.requires.fitted
    c.requires.child c.in-Inner.is in
    few_tests here c.args.q.now (1 + c.count_below-on_left.result + c.count_below-on_right.result)
    (met_tests here c.args.q.now (sym c.node_meets.ensures ∙ c.if-not-node_meets.false) c.left.result c.right.result
    c.count_below-on_left.result c.count_below-on_right.result c.left.ensures c.right.ensures
    (c.count_below-on_left.ensures.tests _ _ c.left.ensures)
    (c.count_below-on_right.ensures.tests _ _ c.right.ensures))
