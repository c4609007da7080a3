-- A whole tree whose nodes are all fitted, and one that has none.
use Rattle.std.proofs.Common.{◌≡◌, ℕ, ◌-◌, ◌<◌, refl, sym, ap, ◌∙◌, arith, subst, List, [], ◌∷◌, length}
use Rattle.fixed_box.specs.declared.shapes.Box3.{Box3}
use Rattle.radix_tree.specs.declared.nodes.Node.{Node}
use Rattle.radix_tree.specs.declared.nodes.Child.TheVariants.{Inner}
use Rattle.radix_tree.specs.Table.{Contents, IsTable}
use Rattle.radix_tree.specs.Fit.{IsFitted, table_of}
use Rattle.radix_tree.specs.Filling.{HasRow}
use Rattle.radix_tree.proofs.NodeLaws.{root_node}
use Rattle.radix_tree.proofs.FillLaws.{below_root, full_from_rows}
use Rattle.radix_tree.proofs.OneTable.{table_is, few_have_none}
use Rattle.refit.specs.Subtrees.{IsUnder}

module _ (t u : Contents) (boxes : List Box3) (before : IsTable t) (after : IsTable u) (keys : u.keys ≡ t.keys)
    (count : length boxes ≡ length t.keys) (some : 0 < length t.nodes)
    (made : (k : ℕ) → IsUnder t.keys (Inner 0) k → HasRow t.keys boxes u.nodes k) where
  -- all numbers are under the root
  all_under : (k : ℕ) → k < length u.nodes → IsUnder t.keys (Inner 0) k
  all_under k lt =
      let last = length t.keys - 1 in
      let many : 0 < last = omega (arith, some, before.count) in
      let below : k < last = omega (arith, lt, after.count, ap length keys) in
      (0, last, root_node t.keys before.lawful last refl many, below_root t.keys boxes (length t.keys) k below)

  -- so the tree is fitted
  pub whole_fitted : IsFitted u boxes
  whole_fitted =
      let room : length u.nodes ≡ length t.keys - 1 = omega (arith, after.count, ap length keys) in
      let full = full_from_rows t.keys boxes u.nodes before.lawful count room (λ k lt. made k (all_under k lt)) in
      subst (λ ks. IsFitted (record { keys = ks; nodes = u.nodes }) boxes) (sym keys) full.fitted

  -- and its nodes are those that the keys and the boxes determine
  pub whole_value : u.nodes ≡ table_of t.keys boxes
  whole_value = table_is u boxes after whole_fitted ∙ ap (λ ks. table_of ks boxes) keys

-- a list of no length
none : (nodes : List Node) → length nodes ≡ 0 → nodes ≡ []
none [] e = refl
none (n ∷ ns) e = absurd (omega (arith, e))

-- a tree without nodes is the table of its keys
pub none_value : (t : Contents) (boxes : List Box3) → IsTable t → length t.nodes ≡ 0 → t.nodes ≡ table_of t.keys boxes
none_value t boxes table empty =
    none t.nodes empty ∙ sym (few_have_none t.keys boxes (omega (arith, empty, table.count)))
