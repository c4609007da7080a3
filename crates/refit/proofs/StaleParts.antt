-- What is stale in the subtrees of a node's children, and that nothing is where no triangle moved.
use Rattle.std.proofs.Common.{◌≡◌, ℕ, ◌+◌, ◌<◌, ◌≤◌, ◌⊎◌, inl, inr, sym, arith, subst, List, [], All, length}
use Rattle.std.proofs.lemmas.List.Elements.{All-nil, All-append, All-from_get_or, All-get_or}
use Rattle.fixed_box.specs.declared.shapes.Box3.{Box3}
use Rattle.fixed_box.specs.Boxes.{IsLeastBox}
use Rattle.radix_tree.specs.declared.nodes.Node.{Node}
use Rattle.radix_tree.specs.declared.nodes.Child.{Child}
use Rattle.radix_tree.specs.declared.nodes.Child.TheVariants.{Leaf, Inner}
use Rattle.radix_tree.specs.Split.{split}
use Rattle.radix_tree.specs.Ranges.{IsNode, HasRange}
use Rattle.radix_tree.specs.Table.{Contents, node_at, IsTable}
use Rattle.radix_tree.specs.Fit.{boxes_in}
use Rattle.radix_tree.specs.Filling.{IsBelow, HasRow}
use Rattle.radix_tree.proofs.NumberLaws.{proper, one_range}
use Rattle.radix_tree.proofs.NodeLaws.{node_end, one_number, left_node, right_node}
use Rattle.radix_tree.proofs.DescentLaws.{low_at, high_at, row_range}
use Rattle.refit.specs.Subtrees.{IsUnder}
use Rattle.refit.specs.Stale.{AreOutside, AreFittedBut, AreParted}
use Rattle.refit.proofs.Nesting.{nested}
use Rattle.refit.proofs.Subtrees.{AreChildren}

-- what holds of numbers holds of those that it implies
all_so : (P Q : ℕ → Type 0) (xs : List ℕ) → ((p : ℕ) → P p → Q p) → All P xs → All Q xs
all_so P Q xs so all = All-from_get_or Q xs 0 (λ i lt. so _ (All-get_or P xs i 0 lt all))

-- a node is in its own subtree
own_below : (number a b : ℕ) → a < b → (number ≡ a) ⊎ (number ≡ b) → IsBelow number a b number
own_below number a b proper end = record {
  low = elim end [ inl e ↦ omega (arith, e) | inr e ↦ omega (arith, e, proper) ];
  high = elim end [ inl e ↦ omega (arith, e, proper) | inr e ↦ omega (arith, e) ];
  not_last = λ e. omega (arith, e, proper);
  not_first = λ e. omega (arith, e, proper);
}

module _ (t : Contents) (table : IsTable t) (boxes : List Box3) where
  -- where nothing moved all rows of a subtree are right
  pub none_stale : (moved : List ℕ) (child : Child) (k : ℕ) → moved ≡ [] →
      AreFittedBut moved t.keys boxes t.nodes child → IsUnder t.keys child k → HasRow t.keys boxes t.nodes k
  none_stale moved child k none stale under = record {
    here = λ lt.
        let x = node_at t.nodes k in
        let outside : AreOutside moved x.first x.last =
        subst (λ ps. AreOutside ps x.first x.last) (sym none) (All-nil (λ p. (p < x.first) ⊎ (x.last < p))) in
        (stale k x.first x.last under (table.each k lt).range outside).here lt;
  }

  -- and so is the box of the node at its top
  pub none_stale_fit : (moved : List ℕ) (number : ℕ) (x : Node) (a b : ℕ) → number < length t.nodes → moved ≡ [] →
      x ≡ node_at t.nodes number → AreFittedBut moved t.keys boxes t.nodes (Inner number) →
      IsNode t.keys number a b → IsLeastBox (boxes_in boxes t.keys a b) x.fit
  none_stale_fit moved number x a b lt none is stale node =
      let y = node_at t.nodes number in
      let ends = row_range t table number a b node in
      let under : IsUnder t.keys (Inner number) number =
      (a, b, node, own_below number a b (proper t.keys table.lawful node) (node_end t.keys table.lawful node)) in
      let full = (none_stale moved (Inner number) number none stale under).here lt in
      subst (λ (z : Node). IsLeastBox (boxes_in boxes t.keys a b) z.fit) (sym is)
      (subst (λ c. IsLeastBox (boxes_in boxes t.keys c b) y.fit) ends.1
      (subst (λ c. IsLeastBox (boxes_in boxes t.keys y.first c) y.fit) ends.2 full.fit))

module _ (t : Contents) (table : IsTable t) (boxes : List Box3) (number : ℕ) (first second : Child)
    (kids : AreChildren t number first second) (moved near far : List ℕ)
    (cut : AreParted moved (node_at t.nodes number).split near far)
    (stale : AreFittedBut moved t.keys boxes t.nodes (Inner number)) where
  -- the node of that number
  abbrev x : Node
  x = node_at t.nodes number

  -- it has its range
  spans : IsNode t.keys number x.first x.last
  spans = (table.each number kids.inside).range

  -- and its split is that of the range
  cuts : x.split ≡ split t.keys x.first x.last
  cuts = (table.each number kids.inside).part

  -- a node below one of two ranges, whose number is at its end, is below the node
  under_left : (k a b : ℕ) → IsUnder t.keys first k → IsNode t.keys k a b →
      IsUnder t.keys (Inner number) k × (b ≤ x.split)
  under_left k a b under node = under_left_of first kids.of_first under
    where
      under_left_of : (child : Child) → HasRange t.keys child x.first x.split → IsUnder t.keys child k →
          IsUnder t.keys (Inner number) k × (b ≤ x.split)
      under_left_of (Leaf p) at there = absurd there
      under_left_of (Inner i) at (c, d, own, below) =
          let same = one_range t.keys table.lawful own at in
          let lt = proper t.keys table.lawful at in
          let named = one_number t.keys table.lawful at (left_node t.keys table.lawful spans x.split cuts lt) in
          let inside = nested t.keys table.lawful k a b node i c d own below in
          let high = high_at t table number kids.inside in (
            (
              x.first,
              x.last,
              spans,
              record {
                low = omega (arith, below.low, same.0);
                high = omega (arith, below.high, same.1, high);
                not_last = λ e. omega (arith, below.high, same.1, high);
                not_first = λ e. omega (arith, same.0, same.1, below.not_first (omega (arith, named, same.1)));
              },
            ),
            omega (arith, inside.1, same.1),
          )

  -- the same below the other
  under_right : (k a b : ℕ) → IsUnder t.keys second k → IsNode t.keys k a b →
      IsUnder t.keys (Inner number) k × (x.split < a)
  under_right k a b under node = under_right_of second kids.of_second under
    where
      under_right_of : (child : Child) → HasRange t.keys child (x.split + 1) x.last → IsUnder t.keys child k →
          IsUnder t.keys (Inner number) k × (x.split < a)
      under_right_of (Leaf p) at there = absurd there
      under_right_of (Inner i) at (c, d, own, below) =
          let same = one_range t.keys table.lawful own at in
          let lt = proper t.keys table.lawful at in
          let named = one_number t.keys table.lawful at (right_node t.keys table.lawful spans x.split cuts lt) in
          let inside = nested t.keys table.lawful k a b node i c d own below in
          let low = low_at t table number kids.inside in (
            (
              x.first,
              x.last,
              spans,
              record {
                low = omega (arith, below.low, same.0, low);
                high = omega (arith, below.high, same.1);
                not_last = λ e. omega (arith, same.0, same.1, below.not_last (omega (arith, named, same.0)));
                not_first = λ e. omega (arith, below.low, same.0, low);
              },
            ),
            omega (arith, inside.0, same.0),
          )

  -- of the left child what has a moved position up to the split
  pub near_stale : AreFittedBut near t.keys boxes t.nodes first
  near_stale k a b under node outside =
      let at = under_left k a b under node in
      stale k a b at.0 node (subst (All (λ p. (p < a) ⊎ (b < p))) cut.whole
      (All-append (λ p. (p < a) ⊎ (b < p)) near far outside
      (all_so (λ p. x.split < p) (λ p. (p < a) ⊎ (b < p)) far (λ p past. inr (omega (arith, past, at.1))) cut.behind)))

  -- of the right child what has one behind it
  pub far_stale : AreFittedBut far t.keys boxes t.nodes second
  far_stale k a b under node outside =
      let at = under_right k a b under node in
      stale k a b at.0 node (subst (All (λ p. (p < a) ⊎ (b < p))) cut.whole
      (All-append (λ p. (p < a) ⊎ (b < p)) near far
      (all_so (λ p. p ≤ x.split) (λ p. (p < a) ⊎ (b < p)) near (λ p upto. inl (omega (arith, upto, at.1))) cut.upto)
      outside))

  -- and so it is in a later tree over the same keys, in which right rows stayed right
  pub later_stale : (u : Contents) → u.keys ≡ t.keys →
      ((k : ℕ) → HasRow t.keys boxes t.nodes k → HasRow t.keys boxes u.nodes k) →
      AreFittedBut far u.keys boxes u.nodes second
  later_stale u keys kept k a b under node outside =
      subst (λ ks. HasRow ks boxes u.nodes k) (sym keys)
      (kept k (far_stale k a b (subst (λ ks. IsUnder ks second k) keys under)
      (subst (λ ks. IsNode ks k a b) keys node) outside))
