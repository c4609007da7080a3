use Rattle.std.proofs.Common.{◌≡◌, ◌-◌, ◌<◌, ◌^◌, length, arith, rules, ap}
use Rattle.walk_list.proofs.TreeParts.{at_node, left_falls, right_falls, left_is_child, right_is_child, read_order, read_small, run_for_child, escape_small, fork_for_child, leaf_for_child}
use Rattle.walk_list.proofs.listing.+list_below.Goals as goal

pub overflow_sub-node : goal.overflow_sub-node
overflow_sub-node t c =
    let here = at_node c.requires.table c.requires.holds c.requires.child c.in-Inner.is in
    read_order here c.node_of-node.result c.node_of-node.ensures.value

pub overflow_add-node : goal.overflow_add-node
overflow_add-node t c =
    let here = at_node c.requires.table c.requires.holds c.requires.child c.in-Inner.is in
    let small = read_small here c.node_of-node.result c.node_of-node.ensures.value in
    omega (arith, small)

pub returns-then-node-lt-RUN : goal.returns-then-node-lt-RUN
returns-then-node-lt-RUN t c =
    let here = at_node c.requires.table c.requires.holds c.requires.child c.in-Inner.is in
    run_for_child here c.node_of-node.result c.node_of-node.ensures.value c.args.records.now.items
    c.list_run-then-node-lt-RUN.new.records.items c.in_ok-list_run-in-Inner.ensures

pub overflow_add-node-in-Inner : goal.overflow_add-node-in-Inner
overflow_add-node-in-Inner t c =
    let here = at_node c.requires.table c.requires.holds c.requires.child c.in-Inner.is in
    let small = read_small here c.node_of-node.result c.node_of-node.ensures.value in
    omega (arith, small)

pub list_below-requires : goal.list_below-requires
list_below-requires t c =
    let here = at_node c.requires.table c.requires.holds c.requires.child c.in-Inner.is in
    let falls = left_falls here c.left.result c.left.ensures in
    (omega (arith, falls), (c.requires.table, (c.requires.holds, left_is_child here c.left.result c.left.ensures)))

pub list_below-requires-in-Inner : goal.list_below-requires-in-Inner
list_below-requires-in-Inner t c =
    let here = at_node c.requires.table c.requires.holds c.requires.child c.in-Inner.is in
    let falls = right_falls here c.right.result c.right.ensures in
    (omega (arith, falls), (c.requires.table, (c.requires.holds, right_is_child here c.right.result c.right.ensures)))

pub overflow_cast-escape : goal.overflow_cast-escape
overflow_cast-escape t c =
    let here = at_node c.requires.table c.requires.holds c.requires.child c.in-Inner.is in
    let own : c.len-own.result ≡ length c.args.records.now.items = search rules in
    let all : c.len.result ≡ length c.list_below-in-Inner.new.records.items = search rules in
    let small : length c.list_below-in-Inner.new.records.items - length c.args.records.now.items < 2 ^ 32 =
    escape_small here c.node_of-node.result c.node_of-node.ensures.value c.left.result c.right.result c.left.ensures
    c.right.ensures
    _ c.args.records.now.items c.push.new.self.items c.list_below.new.records.items
    c.list_below-in-Inner.new.records.items c.in_ok-push-in-Inner.ensures.items
    c.in_ok-list_below-in-Inner.ensures c.in_ok-list_below-in-Inner-2.ensures in
    omega (arith, own, all, small)

pub overflow_add-node-in-Inner-2 : goal.overflow_add-node-in-Inner-2
overflow_add-node-in-Inner-2 t c =
    let here = at_node c.requires.table c.requires.holds c.requires.child c.in-Inner.is in
    let small = read_small here c.node_of-node.result c.node_of-node.ensures.value in
    omega (arith, small)

pub returns-in_ok-list_run-in-Leaf : goal.returns-in_ok-list_run-in-Leaf
returns-in_ok-list_run-in-Leaf t c =
    leaf_for_child c.args.t.now c.args.leaves.now c.args.child c.in-Leaf.position c.index-leaves-position.result
    c.requires.holds c.requires.child c.in-Leaf.is c.index-leaves-position.is c.args.records.now.items
    c.list_run.new.records.items c.in_ok-list_run-in-Leaf.ensures

pub returns-in_ok-list_below-in-Inner-2 : goal.returns-in_ok-list_below-in-Inner-2
returns-in_ok-list_below-in-Inner-2 t c =
    let here = at_node c.requires.table c.requires.holds c.requires.child c.in-Inner.is in
    let own : c.len-own.result ≡ length c.args.records.now.items = search rules in
    let all : c.len.result ≡ length c.list_below-in-Inner.new.records.items = search rules in
    fork_for_child here c.node_of-node.result c.node_of-node.ensures.value c.left.result c.right.result c.left.ensures
    c.right.ensures
    _ c.args.records.now.items c.push.new.self.items c.list_below.new.records.items
    c.list_below-in-Inner.new.records.items c.in_ok-push-in-Inner.ensures.items
    c.in_ok-list_below-in-Inner.ensures c.in_ok-list_below-in-Inner-2.ensures c.len-own.result _ own
    (ap (λ n. n - c.len-own.result) all)
