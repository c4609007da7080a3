use Rattle.std.proofs.Common.{◌+◌, arith, sym, ◌∙◌}
use Rattle.traversal.proofs.Walking.{at_node, leaf_tests, left_is_child, right_is_child, left_falls, right_falls, missed_numbers, missed_tests, met_numbers, met_tests, few_tests}
use Rattle.traversal.proofs.overlapping.+collect.Goals as goal

pub returns-then-not-node_meets-clause-numbers : goal.returns-then-not-node_meets-clause-numbers
returns-then-not-node_meets-clause-numbers t c =
    let here = at_node c.args.t.now c.args.boxes.now c.args.child c.in-Inner.number c.requires.table c.requires.fitted
    c.requires.child c.in-Inner.is in
    missed_numbers here c.args.q.now (sym c.node_meets.ensures ∙ c.if-not-node_meets.true) c.args.numbers.now.items

pub returns-then-not-node_meets-clause-tests : goal.returns-then-not-node_meets-clause-tests
returns-then-not-node_meets-clause-tests t c =
    let here = at_node c.args.t.now c.args.boxes.now c.args.child c.in-Inner.number c.requires.table c.requires.fitted
    c.requires.child c.in-Inner.is in
    missed_tests here c.args.q.now (sym c.node_meets.ensures ∙ c.if-not-node_meets.true)

pub collect-requires : goal.collect-requires
collect-requires t c =
    let here = at_node c.args.t.now c.args.boxes.now c.args.child c.in-Inner.number c.requires.table c.requires.fitted
    c.requires.child c.in-Inner.is in
    let falls = left_falls here c.left.result c.left.ensures in
    (omega (arith, falls), (c.requires.table, (c.requires.fitted, left_is_child here c.left.result c.left.ensures)))

pub collect-requires-in-Inner : goal.collect-requires-in-Inner
collect-requires-in-Inner t c =
    let here = at_node c.args.t.now c.args.boxes.now c.args.child c.in-Inner.number c.requires.table c.requires.fitted
    c.requires.child c.in-Inner.is in
    let falls = right_falls here c.right.result c.right.ensures in
    (omega (arith, falls), (c.requires.table, (c.requires.fitted, right_is_child here c.right.result c.right.ensures)))

pub returns-in_ok-test_leaf-in-Leaf-clause-tests : goal.returns-in_ok-test_leaf-in-Leaf-clause-tests
returns-in_ok-test_leaf-in-Leaf-clause-tests t c = λ a b d.
    leaf_tests c.args.t.now c.args.q.now c.args.child c.in-Leaf.position a b c.in-Leaf.is

pub returns-in_ok-on_right-in-Inner-clause-numbers : goal.returns-in_ok-on_right-in-Inner-clause-numbers
returns-in_ok-on_right-in-Inner-clause-numbers t c =
    let here = at_node c.args.t.now c.args.boxes.now c.args.child c.in-Inner.number c.requires.table c.requires.fitted
    c.requires.child c.in-Inner.is in
    met_numbers here c.args.q.now c.args.numbers.now.items c.collect.new.numbers.items
    c.collect-in-Inner.new.numbers.items (c.in_ok-on_left-in-Inner.ensures.numbers _ _ c.left.ensures)
    (c.in_ok-on_right-in-Inner.ensures.numbers _ _ c.right.ensures)

pub returns-in_ok-on_right-in-Inner-clause-tests : goal.returns-in_ok-on_right-in-Inner-clause-tests
returns-in_ok-on_right-in-Inner-clause-tests t c =
    let here = at_node c.args.t.now c.args.boxes.now c.args.child c.in-Inner.number c.requires.table c.requires.fitted
    c.requires.child c.in-Inner.is in
    met_tests here c.args.q.now (sym c.node_meets.ensures ∙ c.if-not-node_meets.false) c.left.result c.right.result
    c.in_ok-on_left-in-Inner.on_left c.in_ok-on_right-in-Inner.on_right c.left.ensures c.right.ensures
    (c.in_ok-on_left-in-Inner.ensures.tests _ _ c.left.ensures)
    (c.in_ok-on_right-in-Inner.ensures.tests _ _ c.right.ensures)

pub returns-in_ok-on_right-in-Inner-clause-few : goal.returns-in_ok-on_right-in-Inner-clause-few
returns-in_ok-on_right-in-Inner-clause-few t c =
    let here = at_node c.args.t.now c.args.boxes.now c.args.child c.in-Inner.number c.requires.table c.requires.fitted
    c.requires.child c.in-Inner.is in
    few_tests here c.args.q.now (1 + c.in_ok-on_left-in-Inner.on_left + c.in_ok-on_right-in-Inner.on_right)
    (met_tests here c.args.q.now (sym c.node_meets.ensures ∙ c.if-not-node_meets.false) c.left.result c.right.result
    c.in_ok-on_left-in-Inner.on_left c.in_ok-on_right-in-Inner.on_right c.left.ensures c.right.ensures
    (c.in_ok-on_left-in-Inner.ensures.tests _ _ c.left.ensures)
    (c.in_ok-on_right-in-Inner.ensures.tests _ _ c.right.ensures))
