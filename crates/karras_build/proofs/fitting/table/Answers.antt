use Rattle.std.proofs.Common.{◌≡◌, ◌-◌, length, ap, sym, ◌∙◌, arith, rules}
use Rattle.std.proofs.lemmas.List.{with_items_is}
use Rattle.radix_tree.proofs.OneTable.{table_is}
use Rattle.karras_build.proofs.PartLaws.{root_part, no_rows, full}
use Rattle.karras_build.proofs.fitting.table.Goals as goal

pub fit_right-whole-requires-clause-part : goal.fit_right-whole-requires-clause-part
fit_right-whole-requires-clause-part g c κs within =
    let x = c.args.inputs.now in
    let same = ap length c.deref_mut.ensures.value in
    let whole : c.len-last.result ≡ length x.keys.now - 1 =
    c.len-last.ensures ∙ (sym c.deref_mut.ensures.len ∙ (same ∙ c.requires.room)) in
    root_part x c.requires.inputs _ _ whole (omega (arith, c.if-last-gt0.true)) (same ∙ (c.requires.room ∙ sym whole))

pub returns-then-last-gt0-clause-value : goal.returns-then-last-gt0-clause-value
returns-then-last-gt0-clause-value g c =
    let x = c.args.inputs.now in
    let nodes = c.fit_right-whole.new.part in
    let kept : length nodes ≡ length c.deref_mut.result.now = c.fit_right-whole.auto.part in
    let count : length nodes ≡ length x.keys.now - 1 =
    kept ∙ (ap length c.deref_mut.ensures.value ∙ c.requires.room) in
    let at = full x c.requires.inputs nodes count c.fit_right-whole.ensures.rows in
    with_items_is c.args.nodes nodes (kept ∙ c.deref_mut.ensures.len)
    ∙ table_is (record { keys = x.keys.now; nodes = nodes }) x.boxes.now at.table at.fitted

pub returns-else-last-gt0-clause-value : goal.returns-else-last-gt0-clause-value
returns-else-last-gt0-clause-value g c =
    let x = c.args.inputs.now in
    let nodes = c.args.nodes.items in
    let none : length nodes ≡ 0 = search rules in
    let at = full x c.requires.inputs nodes c.requires.room (no_rows x c.requires.inputs 0 nodes none) in
    table_is (record { keys = x.keys.now; nodes = nodes }) x.boxes.now at.table at.fitted
