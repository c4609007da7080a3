use Rattle.std.proofs.Common.{◌≡◌, ℕ, ◌+◌, ◌-◌, ◌<◌, ◌≤◌, sym, arith, inl, inr, ◌⊎◌, subst, List, length}
use Rattle.std.proofs.Math.ListN.{set, length-set}
use Rattle.std.proofs.lemmas.Bool.{cases_eq, cases_lt}
use Rattle.fixed_box.specs.declared.shapes.Box3.{Box3}
use Rattle.morton_key.specs.declared.keys.Key.{Key}
use Rattle.morton_key.specs.Keys.{IsLawful}
use Rattle.radix_tree.specs.declared.nodes.Node.{Node}
use Rattle.radix_tree.specs.Table.{IsTable}
use Rattle.radix_tree.specs.Fit.{IsFitted}
use Rattle.radix_tree.specs.Filling.{IsFullRow, HasRow, IsBelow}
use Rattle.radix_tree.proofs.RowLaws.{node_at_set_same, node_at_set_other}

-- the numbers below a node are its own, those below its left child and those below its right child
pub below_cases : (number first last s k : ℕ) → first ≤ s → s < last → (number ≡ first) ⊎ (number ≡ last) →
    IsBelow number first last k →
    (k ≡ number) ⊎ ((IsBelow s first s k) ⊎ (IsBelow (s + 1) (s + 1) last k))
below_cases number first last s k low high end b = elim (cases_eq k number) [
  | inl e ↦ inl e
  | inr ne ↦ inr (elim (cases_lt s k) [
    | inr left ↦ inl (record {
      low = b.low;
      high = left;
      not_last = λ e. elim end [ inl e1 ↦ omega (arith, b.low) | inr e1 ↦ omega (arith, b.not_first e1) ];
      not_first = λ _. elim end [ inl e1 ↦ omega (arith, b.low) | inr e1 ↦ omega (arith, b.not_first e1) ];
    })
    | inl right ↦ inr (record {
      low = omega arith;
      high = b.high;
      not_last = λ _. elim end [ inl e1 ↦ omega (arith, b.not_last e1) | inr e1 ↦ omega (arith, b.high) ];
      not_first = λ e. elim end [ inl e1 ↦ omega (arith, b.not_last e1) | inr e1 ↦ omega (arith, b.high) ];
    })
  ])
]

-- no number is below a leaf
pub none_below : (number a b k : ℕ) (X : Type 0) → a ≡ b → (number ≡ a) ⊎ (number ≡ b) → IsBelow number a b k → X
none_below number a b k X leaf end h =
    absurd (elim end [ inl e ↦ omega (arith, h.not_last e, h.low) | inr e ↦ omega (arith, h.not_first e, h.high) ])

module _ (keys : List Key) (boxes : List Box3) where
  -- the row that is written is there
  pub row_here : (nodes : List Node) (number k : ℕ) (x : Node) → k ≡ number → IsFullRow keys boxes number x →
      HasRow keys boxes (set nodes number x) k
  row_here nodes number k x e r = subst (λ z. HasRow keys boxes (set nodes number x) z) (sym e) (record {
    here = λ h. let inside : number < length nodes = omega (arith, length-set nodes number x) in
        subst (λ y. IsFullRow keys boxes number y) (sym (node_at_set_same nodes number x inside)) r;
  })

  -- and every right row stays right
  pub row_kept : (nodes : List Node) (number k : ℕ) (x : Node) → IsFullRow keys boxes number x →
      HasRow keys boxes nodes k → HasRow keys boxes (set nodes number x) k
  row_kept nodes number k x r h = elim (cases_eq k number) [
    | inl e ↦ row_here nodes number k x e r
    | inr ne ↦ record {
      here = λ lt. subst (λ y. IsFullRow keys boxes k y) (sym (node_at_set_other nodes number k x ne))
          (h.here (omega (arith, length-set nodes number x)));
    }
  ]

  -- a list in which all rows below the root are right is the table, fitted
  pub record IsFull (nodes : List Node) : Type 0 where
    pub table : IsTable (record { keys = keys; nodes = nodes })
    pub fitted : IsFitted (record { keys = keys; nodes = nodes }) boxes

  -- a list with a full row at each number is a fitted table
  pub full_from_rows : (nodes : List Node) → IsLawful keys → length boxes ≡ length keys →
      length nodes ≡ length keys - 1 →
      ((k : ℕ) → k < length nodes → HasRow keys boxes nodes k) → IsFull nodes
  full_from_rows nodes ok boxed count made = record {
    table = record { lawful = ok; count = count; each = λ k. λ lt. ((made k lt).here lt).row };
    fitted = record { count = boxed; each = λ k. λ lt. ((made k lt).here lt).fit };
  }

  -- all numbers are below the root
  pub below_root : (n k : ℕ) → k < n - 1 → IsBelow 0 0 (n - 1) k
  below_root n k lt = record {
    low = omega arith;
    high = omega arith;
    not_last = λ _. omega arith;
    not_first = λ z. absurd (omega arith);
  }
