-- What a walk over the whole tree finds and does, from what it does at the root.
use Rattle.std.proofs.Common.{◌≡◌, ℕ, ◌+◌, ◌-◌, ◌*◌, ◌<◌, refl, sym, ap, arith, List, [], ◌∷◌, ◌++◌, length, append-nil}
use Rattle.fixed_box.specs.declared.shapes.Box3.{Box3}
use Rattle.morton_key.specs.declared.keys.Key.{Key}
use Rattle.radix_tree.specs.declared.nodes.Child.{Child}
use Rattle.radix_tree.specs.declared.nodes.Child.TheVariants.{Leaf, Inner}
use Rattle.radix_tree.specs.Ranges.{HasRange}
use Rattle.radix_tree.specs.Table.{Contents, IsTable}
use Rattle.radix_tree.specs.Fit.{IsFitted}
use Rattle.radix_tree.specs.Filling.{IsChild}
use Rattle.radix_tree.proofs.NumberLaws.{proper}
use Rattle.radix_tree.proofs.NodeLaws.{root_node, one_number}
use Rattle.traversal.specs.Overlaps.{work_of}
use Rattle.traversal.specs.Walks.{met_in, met_below}
use Rattle.traversal.proofs.Parts.{below-leaf}
use Rattle.traversal.proofs.Reached.{work_of-one, work_of-many, below-root}

-- of no key nothing is met
pub met_in-empty : (keys : List Key) (boxes : List Box3) (q : Box3) (before : List ℕ) → length keys ≡ 0 →
    before ≡ before ++ met_in keys boxes q 0 (length keys - 1)
unfolding met_in
met_in-empty [] boxes q before e = sym (append-nil before)
met_in-empty (k ∷ keys) boxes q before e = absurd (omega arith)

module _ (t : Contents) (table : IsTable t) (boxes : List Box3) (fitted : IsFitted t boxes) (q : Box3) where
  -- what is tested from the child that is the whole tree is all the work
  pub whole_tests : (child : Child) (n : ℕ) → IsChild t child → HasRange t.keys child 0 (length t.keys - 1) →
      n ≡ 1 + 2 * met_below t.nodes q child 0 (length t.keys - 1) → n ≡ work_of t.keys boxes q
  whole_tests (Leaf p) n stands (first, last) tests =
      omega (arith, tests, below-leaf t.nodes q p 0 (length t.keys - 1), work_of-one t.keys boxes q (omega arith))
  whole_tests (Inner i) n stands d tests =
      let order = proper t.keys table.lawful d in
      let many : 1 < length t.keys = omega arith in
      let top : i ≡ 0 =
      one_number t.keys table.lawful d (root_node t.keys table.lawful (length t.keys - 1) refl order) in
      omega (
        arith,
        tests,
        ap (λ z. met_below t.nodes q (Inner z) 0 (length t.keys - 1)) top,
        below-root t boxes table fitted q many,
        work_of-many t boxes table fitted q many,
      )
