use Rattle.std.proofs.Common.{◌<◌, arith, ap, subst, ◌∙◌, length, List}
use Rattle.radix_tree.specs.declared.nodes.Node.{Node}
use Rattle.radix_tree.specs.Table.{put_fit, IsTable}
use Rattle.radix_tree.specs.Fit.{IsFitted}
use Rattle.radix_tree.proofs.RowLaws.{node_is}
use Rattle.refit.proofs.RenewLaws.{renew_more, renewed}
use Rattle.refit.proofs.handing_up.refit_whole.Goals as goal

pub loop-number-preserved : goal.loop-number-preserved
loop-number-preserved g c =
    let made : List Node = c.in_ok-nodes.field-0.nodes.items in
    let table = subst (λ ks. IsTable (record { keys = ks; nodes = made })) c.keys.ensures.keys
    c.in_ok-nodes.ensures.table in
    let fitted = subst (λ ks. IsFitted (record { keys = ks; nodes = made }) c.args.boxes.now) c.keys.ensures.keys
    c.in_ok-nodes.ensures.fitted in
    let lt : c.loop-number.number < length made =
    omega (arith, c.loop-number-test.true, c.len-number-end.ensures, c.in_ok-nodes.field-0.nodes.ok) in
    renew_more c.args.tree.now.keys c.args.boxes.now made table fitted c.loop-number.tree c.loop-number.number
    c.loop-number.invariant lt c.put.new.self c.put.ensures.keys
    (c.put.ensures.nodes ∙ ap (λ (x : Node). put_fit c.loop-number.tree.nodes c.loop-number.number x.fit)
    (node_is made c.loop-number.number c.index.result.now lt c.index.ensures))

pub returns-clause-fitted : goal.returns-clause-fitted
returns-clause-fitted g c =
    let made : List Node = c.in_ok-nodes.field-0.nodes.items in
    let table = subst (λ ks. IsTable (record { keys = ks; nodes = made })) c.keys.ensures.keys
    c.in_ok-nodes.ensures.table in
    let fitted = subst (λ ks. IsFitted (record { keys = ks; nodes = made }) c.args.boxes.now) c.keys.ensures.keys
    c.in_ok-nodes.ensures.fitted in
    renewed c.args.tree.now.keys c.args.boxes.now made table fitted c.loop-number.tree c.loop-number.number
    c.loop-number.invariant
    (omega (arith, c.loop-number-test.false, c.len-number-end.ensures, c.in_ok-nodes.field-0.nodes.ok))
