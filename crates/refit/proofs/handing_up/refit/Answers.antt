use Rattle.std.proofs.Common.{◌<◌, ◌≤◌, length, ap, ◌∙◌, arith}
use Rattle.std.proofs.lemmas.Bool.Decides.{nat_tests}
use Rattle.std.proofs.lemmas.Result.{IfOk-weaker, on_ok_weaker}
use Rattle.radix_tree.proofs.OneTable.{table_is}
use Rattle.arrival_core.specs.Settings.{Setting, setting, frame_of}
use Rattle.arrival_core.specs.Tasks.{IsTask}
use Rattle.radix_tree.specs.Fit.{table_of}
use Rattle.box_handoff.specs.LiveNodes.{splits_of}
use Rattle.refit.proofs.SameShapes.{same_shape}
use Rattle.refit.proofs.WholeTrees.{none_value}
use Rattle.refit.proofs.RenewLaws.{whole_task, refit_counted}
use Rattle.refit.proofs.PutRows.{still_fitted, none_live, node_at_split, node_of_packets, put_more, all_fitted, task_is}
use Rattle.refit.proofs.handing_up.refit.Goals as goal

pub returns-then-is_empty-clause-value : goal.returns-then-is_empty-clause-value
returns-then-is_empty-clause-value g c = none_value c.args.tree.now c.args.boxes.now c.nodes.ensures.table
    (grind (arith, nat_tests, ap length c.nodes.ensures.nodes))

pub returns-then-is_empty-2-clause-fitted : goal.returns-then-is_empty-2-clause-fitted
returns-then-is_empty-2-clause-fitted g c = still_fitted c.args.tree.now c.nodes.ensures.table c.args.boxes.now
    c.args.live.now c.requires.rest c.requires.boxes
    (λ k lt. none_live c.args.live.now _ _ (grind (arith, nat_tests)))

pub returns-then-is_empty-2-clause-value : goal.returns-then-is_empty-2-clause-value
returns-then-is_empty-2-clause-value g c = table_is c.args.tree.now c.args.boxes.now c.nodes.ensures.table
    (returns-then-is_empty-2-clause-fitted g c)

pub returns-then-live-keys-clause-shape : goal.returns-then-live-keys-clause-shape
returns-then-live-keys-clause-shape g c = same_shape c.args.tree.now c.refit_whole.new.tree c.nodes.ensures.table
    c.refit_whole.ensures.table c.refit_whole.ensures.keys

pub returns-then-live-keys-clause-value : goal.returns-then-live-keys-clause-value
returns-then-live-keys-clause-value g c = on_ok_weaker c.refit_whole.result (λ fitted.
    table_is c.refit_whole.new.tree c.args.boxes.now c.refit_whole.ensures.table fitted
    ∙ ap (λ ks. table_of ks c.args.boxes.now) c.refit_whole.ensures.keys) c.refit_whole.ensures.fitted

pub returns-then-live-keys-clause-counts : goal.returns-then-live-keys-clause-counts
returns-then-live-keys-clause-counts g c =
    let x : Setting = setting c.args.tree.now.keys c.args.boxes.now c.args.live.now c.args.workers in
    let task : IsTask x = task_is c.args.tree.now c.nodes.ensures.table c.args.boxes.now c.args.live.now c.args.workers
    c.requires.boxes c.requires.within c.requires.rising
    (grind (arith, nat_tests, ap length c.nodes.ensures.nodes)) (grind (arith, nat_tests)) c.requires.some in
    IfOk-weaker c.refit_whole.result _ _ (refit_counted x (whole_task x task
    (omega (arith, c.if-live-keys.true, ap length c.keys.ensures.keys)) c.requires.few)) c.refit_whole.ensures.counts

pub put_node-requires : goal.put_node-requires
put_node-requires g c =
    let x : Setting = setting c.args.tree.now.keys c.args.boxes.now c.args.live.now c.args.workers in
    let task : IsTask x = task_is c.args.tree.now c.nodes.ensures.table c.args.boxes.now c.args.live.now c.args.workers
    c.requires.boxes c.requires.within c.requires.rising
    (grind (arith, nat_tests, ap length c.nodes.ensures.nodes)) (grind (arith, nat_tests)) c.requires.some in
    let fits = c.in_ok-fitted.ensures.packets in
    let lt : c.loop-i.i < length (splits_of (frame_of x)) =
    omega (arith, c.loop-i-test.true, c.len-i-end.ensures, c.in_ok-fitted.fitted.left.ok, fits.left.count_is) in
    let l = c.index.ensures ∙ fits.left.each c.loop-i.i c.index.result.now lt in
    let r = c.index-in-loop-i.ensures ∙ fits.right.each c.loop-i.i c.index-in-loop-i.result.now lt in
    record {
      node = (
        (node_at_split x task c.args.tree.now.nodes c.nodes.ensures.table c.loop-i.i lt).number,
        node_of_packets x task c.args.tree.now.nodes c.nodes.ensures.table c.in_ok-fitted.fitted fits c.loop-i.tree
            c.loop-i.i c.loop-i.invariant lt _ _ l r,
      );
    }

pub loop-i-preserved : goal.loop-i-preserved
loop-i-preserved g c =
    let x : Setting = setting c.args.tree.now.keys c.args.boxes.now c.args.live.now c.args.workers in
    let task : IsTask x = task_is c.args.tree.now c.nodes.ensures.table c.args.boxes.now c.args.live.now c.args.workers
    c.requires.boxes c.requires.within c.requires.rising
    (grind (arith, nat_tests, ap length c.nodes.ensures.nodes)) (grind (arith, nat_tests)) c.requires.some in
    let fits = c.in_ok-fitted.ensures.packets in
    let lt : c.loop-i.i < length (splits_of (frame_of x)) =
    omega (arith, c.loop-i-test.true, c.len-i-end.ensures, c.in_ok-fitted.fitted.left.ok, fits.left.count_is) in
    let l = c.index.ensures ∙ fits.left.each c.loop-i.i c.index.result.now lt in
    let r = c.index-in-loop-i.ensures ∙ fits.right.each c.loop-i.i c.index-in-loop-i.result.now lt in
    let own = node_of_packets x task c.args.tree.now.nodes c.nodes.ensures.table c.in_ok-fitted.fitted fits
    c.loop-i.tree c.loop-i.i c.loop-i.invariant lt _ _ l r in
    put_more x task c.args.tree.now.nodes c.nodes.ensures.table c.in_ok-fitted.fitted fits c.loop-i.tree c.loop-i.i
    c.loop-i.invariant lt _ _ l r c.put_node.new.tree c.put_node.ensures.keys c.put_node.ensures.table
    (c.put_node.ensures.nodes _ own)

pub returns-clause-shape : goal.returns-clause-shape
returns-clause-shape g c = same_shape c.args.tree.now c.loop-i.tree c.nodes.ensures.table c.loop-i.invariant.table
    c.loop-i.invariant.keys

pub returns-clause-fitted : goal.returns-clause-fitted
returns-clause-fitted g c =
    let x : Setting = setting c.args.tree.now.keys c.args.boxes.now c.args.live.now c.args.workers in
    let task : IsTask x = task_is c.args.tree.now c.nodes.ensures.table c.args.boxes.now c.args.live.now c.args.workers
    c.requires.boxes c.requires.within c.requires.rising
    (grind (arith, nat_tests, ap length c.nodes.ensures.nodes)) (grind (arith, nat_tests)) c.requires.some in
    let fits = c.in_ok-fitted.ensures.packets in
    let end : length (splits_of (frame_of x)) ≤ c.loop-i.i =
    omega (arith, c.loop-i-test.false, c.len-i-end.ensures, c.in_ok-fitted.fitted.left.ok, fits.left.count_is) in
    all_fitted x task c.args.tree.now.nodes c.nodes.ensures.table c.requires.rest c.loop-i.tree c.loop-i.i
    c.loop-i.invariant end

pub returns-clause-value : goal.returns-clause-value
returns-clause-value g c =
    table_is c.loop-i.tree c.args.boxes.now c.loop-i.invariant.table (returns-clause-fitted g c)
    ∙ ap (λ ks. table_of ks c.args.boxes.now) c.loop-i.invariant.keys
