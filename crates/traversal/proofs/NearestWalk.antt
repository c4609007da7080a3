-- One step of the walk to the nearest hit: at a leaf, at a child that is passed over, and at a node.
use Rattle.std.proofs.Common.{◌≡◌, ℕ, ◌+◌, ◌-◌, ◌<◌, ◌≤◌, ◌⊎◌, sym, ap, ◌∙◌, arith, inl, inr, subst, List, length, map, Option, None, Some, IfSome, IsSomeAnd}
use Rattle.std.proofs.lemmas.Bool.{cases_lt}
use Rattle.std.proofs.lemmas.List.{length-map}
use Rattle.fixed_box.specs.declared.shapes.Point.{Point}
use Rattle.fixed_box.specs.declared.shapes.Tri.{Tri}
use Rattle.fixed_box.specs.Extent.{tri_box}
use Rattle.morton_key.specs.Keys.{tri_at}
use Rattle.morton_key.proofs.Numbers.{tri_found}
use Rattle.radix_tree.specs.declared.nodes.Node.{Node}
use Rattle.radix_tree.specs.declared.nodes.Child.{Child}
use Rattle.radix_tree.specs.declared.nodes.Child.TheVariants.{Leaf}
use Rattle.radix_tree.specs.Ranges.{HasRange}
use Rattle.radix_tree.specs.Table.{Contents, node_at, IsTable}
use Rattle.radix_tree.specs.Fit.{IsFitted}
use Rattle.radix_tree.specs.Filling.{IsChild, span_of}
use Rattle.segment_hit.specs.declared.fraction.Frac.{Frac}
use Rattle.segment_hit.specs.declared.stretch.Entry.{Entry}
use Rattle.segment_hit.specs.FractionOrder.{IsBelow, IsBehind}
use Rattle.segment_hit.specs.Meeting.{IsHit}
use Rattle.traversal.specs.declared.approach.Approach.{Approach}
use Rattle.traversal.specs.Nearest.{triangle_of}
use Rattle.traversal.specs.Nearing.{StandsIn, Nears, Screens}
use Rattle.traversal.proofs.Walking.{AtNode, own_range, left_is_child, right_is_child, left_falls, right_falls}
use Rattle.traversal.proofs.BestHit.{nears_none, nears_far, nears_both, nears_same}

module _ (t : Contents) (tris : List Tri) (p q : Point) where
  -- at a leaf its triangle is seen
  pub leaf_seen : (child : Child) (i number : ℕ) (before after : Option (ℕ × Frac)) → child ≡ Leaf i →
      number ≡ tri_at t.keys i → Nears tris p q (λ n. n ≡ number) before after →
      (a b : ℕ) → HasRange t.keys child a b → Nears tris p q (StandsIn t.keys a b) before after
  leaf_seen child i number before after is read x a b d =
      let range : (i ≡ a) × (i ≡ b) = subst (λ z. HasRange t.keys z a b) is d in
      nears_same tris p q (λ n. n ≡ number) (StandsIn t.keys a b) before after
      (λ n stands.
      let here : stands.0 ≡ i = omega (arith, range.0, range.1, stands.1, stands.2) in
      sym stands.3 ∙ (ap (tri_at t.keys) here ∙ sym read)) x

  -- an approach to a child that has the range [a, b], with what its entry tells
  pub record IsSide (x : Approach) (a b : ℕ) : Type 0 where
    pub range : HasRange t.keys x.child a b
    pub screens : (c d : ℕ) → HasRange t.keys x.child c d → Screens tris p q (StandsIn t.keys c d) x.at

  -- an approach to that child is one
  pub is_side : (x : Approach) (child : Child) (a b : ℕ) → x.child ≡ child → HasRange t.keys child a b →
      ((c d : ℕ) → HasRange t.keys child c d → Screens tris p q (StandsIn t.keys c d) x.at) → IsSide x a b
  is_side x child a b e range screens = record {
    range = subst (λ z. HasRange t.keys z a b) (sym e) range;
    screens = λ c d r. screens c d (subst (λ z. HasRange t.keys z c d) e r);
  }

  -- approaches to the children that have the ranges [a, s] and [s + 1, b], in either order
  abbrev pub AreSides : Approach → Approach → ℕ → ℕ → ℕ → Type 0
  AreSides x y a s b = (IsSide x a s × IsSide y (s + 1) b) ⊎ (IsSide y a s × IsSide x (s + 1) b)

  -- in the other order too
  pub swapped : (x y : Approach) (a s b : ℕ) → AreSides x y a s b → AreSides y x a s b
  swapped x y a s b (inl h) = inr h
  swapped x y a s b (inr h) = inl h

  -- and in the order in which they are taken
  pub in_order : (x y l r : Approach) (a s b : ℕ) → IsSide l a s → IsSide r (s + 1) b →
      (◌≡◌ {A = Approach × Approach} (x, y) (l, r)) ⊎ (◌≡◌ {A = Approach × Approach} (x, y) (r, l)) → AreSides x y a s b
  in_order x y l r a s b on_left on_right (inl e) =
      inl (
        subst (λ z. IsSide z a s) (sym (ap (λ (z : Approach × Approach). z.0) e)) on_left,
        subst (λ z. IsSide z (s + 1) b) (sym (ap (λ (z : Approach × Approach). z.1) e)) on_right,
      )
  in_order x y l r a s b on_left on_right (inr e) =
      inr (
        subst (λ z. IsSide z a s) (sym (ap (λ (z : Approach × Approach). z.1) e)) on_left,
        subst (λ z. IsSide z (s + 1) b) (sym (ap (λ (z : Approach × Approach). z.0) e)) on_right,
      )

  -- a child whose box is missed changes nothing
  pub missed_over : (seen : ℕ → Type 0) (at : Option Entry) (best : Option (ℕ × Frac)) →
      Screens tris p q seen at → at ≡ None → Nears tris p q seen best best
  missed_over seen at best screens e = nears_none tris p q seen best (screens.missed e)

  -- nor does one whose box is entered behind the best hit
  pub far_over : (seen : ℕ → Type 0) (at : Option Entry) (e : Entry) (best : Option (ℕ × Frac)) →
      Screens tris p q seen at → at ≡ Some e → IsSomeAnd best (λ h. IsBehind e h.1) → Nears tris p q seen best best
  far_over seen at e best screens is far =
      nears_far tris p q seen best (each best far)
    where
      tells : (h : Frac) → IsBehind e h → (n : ℕ) (f : Frac) → seen n → IsHit p q (triangle_of tris n) f → IsBelow h f
      tells = subst (λ (o : Option Entry). IfSome o (λ x. (h : Frac) → IsBehind x h → (n : ℕ) (f : Frac) → seen n →
          IsHit p q (triangle_of tris n) f → IsBelow h f)) is screens.behind

      each : (o : Option (ℕ × Frac)) → IsSomeAnd o (λ h. IsBehind e h.1) →
          IsSomeAnd o (λ h. (n : ℕ) (f : Frac) → seen n → IsHit p q (triangle_of tris n) f → IsBelow h.1 f)
      each None x = absurd x
      each (Some h) x = tells h.1 x

  module _ {child : Child} {k : ℕ} (here : AtNode t (map tri_box tris) child k) where
    -- the node
    abbrev node : Node
    node = node_at t.nodes k

    -- an approach to a child of the node: the child stands in the tree and spans less, and its entry tells of what
    -- stands below it
    pub record Goes (x : Approach) : Type 0 where
      pub stands : IsChild t x.child
      pub falls : span_of t x.child < span_of t child
      pub screens : (a b : ℕ) → HasRange t.keys x.child a b → Screens tris p q (StandsIn t.keys a b) x.at

    -- so do both sides
    pub side_goes : (x y : Approach) → AreSides x y node.first node.split node.last → Goes x
    side_goes x y (inl h) = record {
      stands = left_is_child here x.child h.0.range;
      falls = left_falls here x.child h.0.range;
      screens = h.0.screens;
    }
    side_goes x y (inr h) = record {
      stands = right_is_child here x.child h.1.range;
      falls = right_falls here x.child h.1.range;
      screens = h.1.screens;
    }

    -- what stands below the node stands below one of them
    parts : (a b n : ℕ) → (node.first ≡ a) × (node.last ≡ b) → StandsIn t.keys a b n →
        StandsIn t.keys node.first node.split n ⊎ StandsIn t.keys (node.split + 1) node.last n
    parts a b n row (i, from, upto, at) = elim (cases_lt node.split i) [
      | inl behind ↦ inr (i, omega arith, omega (arith, row.1), at)
      | inr within ↦ inl (i, omega (arith, row.0), within, at)
    ]

    -- so what is seen below both is seen below the node
    pub both_seen : (x y : Approach) → AreSides x y node.first node.split node.last →
        (before middle after : Option (ℕ × Frac)) →
        ((a b : ℕ) → HasRange t.keys x.child a b → Nears tris p q (StandsIn t.keys a b) before middle) →
        ((a b : ℕ) → HasRange t.keys y.child a b → Nears tris p q (StandsIn t.keys a b) middle after) →
        (a b : ℕ) → HasRange t.keys child a b → Nears tris p q (StandsIn t.keys a b) before after
    both_seen x y (inl h) before middle after one other a b d =
        nears_both tris p q (StandsIn t.keys node.first node.split) (StandsIn t.keys (node.split + 1) node.last)
        (StandsIn t.keys a b) before middle after (λ n stands. parts a b n (own_range here a b d) stands)
        (one _ _ h.0.range) (other _ _ h.1.range)
    both_seen x y (inr h) before middle after one other a b d =
        nears_both tris p q (StandsIn t.keys (node.split + 1) node.last) (StandsIn t.keys node.first node.split)
        (StandsIn t.keys a b) before middle after
        (λ n stands. elim (parts a b n (own_range here a b d) stands) [ inl l ↦ inr l | inr r ↦ inl r ])
        (one _ _ h.1.range) (other _ _ h.0.range)

  -- every triangle stands at some position
  pub all_stand : IsTable t → IsFitted t (map tri_box tris) → (n : ℕ) → 0 < n → n ≤ length tris →
      StandsIn t.keys 0 (length t.keys - 1) n
  all_stand table fitted n from_one to_count =
      let few : n ≤ length t.keys = omega (arith, fitted.count, length-map tris tri_box) in
      let (i, lt, at) = tri_found t.keys table.lawful n from_one few in
      (i, omega arith, omega arith, at)
