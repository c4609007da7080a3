use Rattle.std.proofs.Common.{◌≡◌, ◌-◌, length, take, drop, ◌++◌, arith, refl, subst, sym, ◌∙◌}
use Rattle.std.proofs.lemmas.List.{take_at}
use Rattle.radix_tree.proofs.NodeLaws.{root_node}
use Rattle.radix_tree.proofs.FillLaws.{IsFull, full_from_rows, below_root}
use Rattle.radix_tree.proofs.OneTable.{table_is, few_have_none}
use Rattle.radix_tree.proofs.building.table.Goals as goal

pub fill-whole-requires-clause-node : goal.fill-whole-requires-clause-node
fill-whole-requires-clause-node c = λ lt. root_node c.args.keys.now c.requires.lawful (length c.args.keys.now - 1) refl
    lt

pub returns : goal.returns
returns c =
    let kept : length c.fill-whole.new.nodes ≡ c.in_ok-nodes.nodes.len = c.fill-whole.auto.nodes
    ∙ c.deref_mut.ensures.len in
    let count : length c.fill-whole.new.nodes ≡ length c.args.keys.now - 1 = kept ∙ c.in_ok-nodes.ensures.len in
    let full = full_from_rows c.args.keys.now c.args.boxes.now c.fill-whole.new.nodes c.requires.lawful
    c.requires.count count
    (λ k lt. c.fill-whole.ensures.made k
    (below_root c.args.keys.now c.args.boxes.now (length c.args.keys.now) k (omega arith))) in
    let whole : take c.in_ok-nodes.nodes.len
    (c.fill-whole.new.nodes ++ drop (length c.fill-whole.new.nodes) c.in_ok-nodes.nodes.items)
    ≡ c.fill-whole.new.nodes =
    take_at c.fill-whole.new.nodes (drop (length c.fill-whole.new.nodes) c.in_ok-nodes.nodes.items)
    c.in_ok-nodes.nodes.len kept in
    let at = subst (λ xs. IsFull c.args.keys.now c.args.boxes.now xs) (sym whole) full in
    record {
      table = at.table;
      fitted = at.fitted;
      value = table_is (record { keys = c.args.keys.now; nodes = _ }) c.args.boxes.now at.table at.fitted;
    }

pub returns-then-keys-lt2-clause-value : goal.returns-then-keys-lt2-clause-value
returns-then-keys-lt2-clause-value c = c.new.ensures.items
    ∙ sym (few_have_none c.args.keys.now c.args.boxes.now c.if-keys-lt2.true)
