use Rattle.std.proofs.Common.{◌≡◌, ◌≢◌, ℕ, ◌<◌, sym, ap, ◌∙◌, arith, inl, inr, subst, List, length, get_or, set}
use Rattle.std.proofs.Math.ListN.{length-set}
use Rattle.std.proofs.lemmas.List.{get_or-set_same, get_or-set_other, get_or_default}
use Rattle.std.proofs.lemmas.Bool.{cases_eq}
use Rattle.fixed_box.specs.declared.shapes.Box3.{Box3}
use Rattle.morton_key.specs.declared.keys.Key.{Key}
use Rattle.radix_tree.specs.declared.nodes.Node.{Node}
use Rattle.radix_tree.specs.Table.{node_at, IsRow, IsTable}

-- a read within the list, whatever stands past its end
pub node_is : (nodes : List Node) (k : ℕ) (x : Node) → k < length nodes → x ≡ get_or nodes k x → x ≡ node_at nodes k
unfolding node_at
node_is nodes k x lt e = e ∙ get_or_default nodes k x _ lt

-- the node that is written
pub node_at_set_same : (nodes : List Node) (k : ℕ) (x : Node) → k < length nodes → node_at (set nodes k x) k ≡ x
unfolding node_at
node_at_set_same nodes k x lt = get_or-set_same nodes k x _ lt

-- and every other
pub node_at_set_other : (nodes : List Node) (k j : ℕ) (x : Node) → j ≢ k → node_at (set nodes k x) j ≡ node_at nodes j
unfolding node_at
node_at_set_other nodes k j x ne = get_or-set_other nodes k j x _ ne

-- a row with another box is the same row
pub row_with_box : (keys : List Key) (k : ℕ) (x : Node) (fit : Box3) → IsRow keys k x →
    IsRow keys k (record x { fit = fit })
row_with_box keys k x fit r = record { range = r.range; part = r.part }

-- a table with another box in one row is a table
pub table_with_box : (keys : List Key) (nodes : List Node) (k : ℕ) (fit : Box3) → k < length nodes →
    IsTable (record { keys = keys; nodes = nodes }) →
    IsTable (record { keys = keys; nodes = set nodes k (record (node_at nodes k) { fit = fit }) })
table_with_box keys nodes k fit lt t = record {
  lawful = t.lawful;
  count = length-set nodes k (record (node_at nodes k) { fit = fit }) ∙ t.count;
  each = λ j. λ inside. elim (cases_eq j k) [
    | inl e ↦ subst (λ z. IsRow keys z (node_at (set nodes k (record (node_at nodes k) { fit = fit })) z)) (sym e)
        (subst (λ x. IsRow keys k x) (sym (node_at_set_same nodes k (record (node_at nodes k) { fit = fit }) lt))
        (row_with_box keys k (node_at nodes k) fit (t.each k lt)))
    | inr ne ↦ subst (λ x. IsRow keys j x)
        (sym (node_at_set_other nodes k j (record (node_at nodes k) { fit = fit }) ne))
        (t.each j (omega (arith, length-set nodes k (record (node_at nodes k) { fit = fit }))))
  ];
}

-- the same, of the node that was read
pub table_with_box_at : (keys : List Key) (nodes : List Node) (k : ℕ) (x : Node) (fit : Box3) → k < length nodes →
    x ≡ get_or nodes k x → IsTable (record { keys = keys; nodes = nodes }) →
    IsTable (record { keys = keys; nodes = set nodes k (record x { fit = fit }) })
table_with_box_at keys nodes k x fit lt e t =
    subst (λ y. IsTable (record { keys = keys; nodes = set nodes k (record y { fit = fit }) }))
    (sym (node_is nodes k x lt e))
    (table_with_box keys nodes k fit lt t)

-- a box that is written at a number changes that node alone
pub put_at : (items nodes : List Node) (k : ℕ) (x : Node) (fit : Box3) → items ≡ nodes → k < length nodes →
    x ≡ get_or items k x →
    set items k (record x { fit = fit }) ≡ set nodes k (record (node_at nodes k) { fit = fit })
put_at items nodes k x fit same lt e =
    let at : x ≡ node_at nodes k = node_is nodes k x lt (e ∙ ap (λ xs. get_or xs k x) same) in
    ap (λ xs. set xs k (record x { fit = fit })) same ∙ ap (λ y. set nodes k (record y { fit = fit })) at
