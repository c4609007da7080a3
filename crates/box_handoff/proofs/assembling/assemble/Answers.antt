use Rattle.std.proofs.Common.{arith, ◌∙◌, ◌<◌, ◌-◌, length}
use Rattle.radix_tree.proofs.OneTable.{table_is}
use Rattle.box_handoff.proofs.AssembleLaws.{none_written, rows_written, whole_table, same_tree, right_within, rows_count}
use Rattle.box_handoff.proofs.assembling.assemble.Goals as goal

pub loop-t-init : goal.loop-t-init
loop-t-init c = record {
  count = omega (
    arith,
    c.in_ok-nodes.ensures,
    c.len.ensures,
    c.args.fitted.now.left.ok,
    c.requires.packets.2.left.count_is,
  );
  written = λ boxes boxed fits. none_written c.args.keys.items c.requires.lawful boxes _;
}

pub put_rows-requires-clause-within : goal.put_rows-requires-clause-within
put_rows-requires-clause-within c = λ less.
    let lt : c.loop-t.t < length c.args.keys.items - 1 = omega (
      arith,
      c.loop-t-test.true,
      c.len-t-end.ensures,
      c.in_ok-nodes.nodes.ok,
      c.in_ok-nodes.ensures,
      c.len.ensures,
      c.args.fitted.now.left.ok,
      c.requires.packets.2.left.count_is,
    ) in
    let p = c.requires.packets in
    let r = right_within _ c.requires.lawful p.0 _ _ lt (c.index-in-loop-t.ensures ∙ p.2.right.each _ _ lt) less in
    omega (arith, r, c.loop-t.invariant.count)

pub put_rows-requires-clause-few : goal.put_rows-requires-clause-few
put_rows-requires-clause-few c = omega (arith, c.loop-t.invariant.count, c.requires.lawful.few)

pub loop-t-preserved : goal.loop-t-preserved
loop-t-preserved c =
    let lt : c.loop-t.t < length c.args.keys.items - 1 = omega (
      arith,
      c.loop-t-test.true,
      c.len-t-end.ensures,
      c.in_ok-nodes.nodes.ok,
      c.in_ok-nodes.ensures,
      c.len.ensures,
      c.args.fitted.now.left.ok,
      c.requires.packets.2.left.count_is,
    ) in record {
      count = rows_count _ _ c.loop-t.t c.index.result.now c.index-in-loop-t.result.now c.put_rows.ensures
          ∙ c.loop-t.invariant.count;
      written = λ boxes boxed fits. rows_written _ c.requires.lawful boxes _ lt c.index.result.now
          c.index-in-loop-t.result.now (c.index.ensures ∙ fits.left.each c.loop-t.t c.index.result.now lt)
          (c.index-in-loop-t.ensures ∙ fits.right.each c.loop-t.t c.index-in-loop-t.result.now lt) _ _
          c.loop-t.invariant.count c.put_rows.ensures (c.loop-t.invariant.written boxes boxed fits);
    }

pub of-requires : goal.of-requires
of-requires c =
    let p = c.requires.packets in
    (whole_table _ c.requires.lawful p.0 _ _ _ c.loop-t.invariant (omega (
      arith,
      c.loop-t-test.false,
      c.len-t-end.ensures,
      c.in_ok-nodes.nodes.ok,
      c.in_ok-nodes.ensures,
      c.len.ensures,
      c.args.fitted.now.left.ok,
      p.2.left.count_is,
    )) p.1 p.2).table

pub returns-clause-fitted : goal.returns-clause-fitted
returns-clause-fitted c boxes boxed fits =
    let full = whole_table _ c.requires.lawful boxes _ _ _ c.loop-t.invariant (omega (
      arith,
      c.loop-t-test.false,
      c.len-t-end.ensures,
      c.in_ok-nodes.nodes.ok,
      c.in_ok-nodes.ensures,
      c.len.ensures,
      c.args.fitted.now.left.ok,
      fits.left.count_is,
    )) boxed fits in
    same_tree c.of.result _ _ boxes c.of.ensures.keys c.of.ensures.nodes full.fitted

pub returns-clause-value : goal.returns-clause-value
returns-clause-value c boxes boxed fits =
    let full = whole_table _ c.requires.lawful boxes _ _ _ c.loop-t.invariant (omega (
      arith,
      c.loop-t-test.false,
      c.len-t-end.ensures,
      c.in_ok-nodes.nodes.ok,
      c.in_ok-nodes.ensures,
      c.len.ensures,
      c.args.fitted.now.left.ok,
      fits.left.count_is,
    )) boxed fits in
    c.of.ensures.nodes ∙ table_is (record { keys = c.args.keys.items; nodes = c.loop-t.nodes.items }) boxes full.table
    full.fitted
