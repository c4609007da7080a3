-- The count of the nodes that are reached is the count of those whose box meets the query, and the work by it.
use Rattle.std.proofs.Common.{◌≡◌, ℕ, ◌+◌, ◌-◌, ◌*◌, ◌<◌, ◌≤◌, refl, sym, ap, ◌∙◌, arith, inl, inr, List, [], ◌∷◌, length, get_or, true, not, ◌||◌}
use Rattle.std.specs.Prelude.{slice_range, nat_le}
use Rattle.std.proofs.lemmas.Bool.{cases_Bool, and_parts, and_from, leb-true, le-leb, or_left, or_right, or_cases, not_from_false, not-true, false_from_ne_true, both_ways}
use Rattle.std.proofs.lemmas.List.Elements.{All-from_get_or, All-get_or}
use Rattle.std.proofs.lemmas.List.Sums.{AllPass-from_list_all, list_all-from_AllPass}
use Rattle.fixed_box.specs.declared.shapes.Box3.{Box3}
use Rattle.fixed_box.specs.Extent.{boxes_meet}
use Rattle.morton_key.specs.declared.keys.Key.{Key}
use Rattle.radix_tree.specs.declared.nodes.Node.{Node}
use Rattle.radix_tree.specs.declared.nodes.Child.TheVariants.{Inner}
use Rattle.radix_tree.specs.Table.{Contents, no_node, node_at, IsTable}
use Rattle.radix_tree.specs.Fit.{IsFitted, table_of}
use Rattle.radix_tree.proofs.NumberLaws.{proper}
use Rattle.radix_tree.proofs.OneTable.{table_is}
use Rattle.traversal.specs.Overlaps.{is_at_or_above, is_reached, count_reached, work_of}
use Rattle.traversal.specs.Walks.{count_meeting, met_below}
use Rattle.traversal.proofs.Slices.{first_and_rest}
use Rattle.traversal.proofs.Counting.{count_by-agree}
use Rattle.traversal.proofs.Pruning.{box_contains_below, container_meets}

-- a node that is at or above another has a range that holds the other's
ranges_nest : (x y : Node) → is_at_or_above x y ≡ true → (x.first ≤ y.first) × (y.last ≤ x.last)
unfolding is_at_or_above
ranges_nest x y e =
    let p = and_parts (nat_le x.first y.first) (nat_le y.last x.last) e in
    (leb-true x.first y.first p.0, leb-true y.last x.last p.1)

-- each node is at or above itself
at_itself : (x : Node) → is_at_or_above x x ≡ true
unfolding is_at_or_above
at_itself x = and_from (nat_le x.first x.first) (nat_le x.last x.last) (le-leb x.first x.first (omega arith))
    (le-leb x.last x.last (omega arith))

-- the work over no triangle
pub work_of-none : (keys : List Key) (boxes : List Box3) (q : Box3) → length keys ≡ 0 → work_of keys boxes q ≡ 0
unfolding work_of
work_of-none [] boxes q e = refl
work_of-none (k ∷ keys) boxes q e = absurd (omega arith)

-- over one
pub work_of-one : (keys : List Key) (boxes : List Box3) (q : Box3) → length keys ≡ 1 → work_of keys boxes q ≡ 1
unfolding work_of
work_of-one [] boxes q e = absurd (omega arith)
work_of-one (k ∷ []) boxes q e = refl
work_of-one (k ∷ l ∷ keys) boxes q e = absurd (omega arith)

-- and over two or more, as defined
work_of-counted : (keys : List Key) (boxes : List Box3) (q : Box3) → 1 < length keys →
    work_of keys boxes q ≡ 1 + 2 * count_reached (table_of keys boxes) q
unfolding work_of
work_of-counted [] boxes q many = absurd (omega arith)
work_of-counted (k ∷ []) boxes q many = absurd (omega arith)
work_of-counted (k ∷ l ∷ keys) boxes q many = refl

module _ (t : Contents) (boxes : List Box3) (table : IsTable t) (fitted : IsFitted t boxes) (q : Box3) where
  -- where a node's box meets the query, so does each above it
  all_above_meet : (k : ℕ) → k < length t.nodes → boxes_meet (node_at t.nodes k).fit q ≡ true →
      is_reached t.nodes q (node_at t.nodes k) ≡ true
  unfolding is_reached node_at
  all_above_meet k lt e =
      let y = node_at t.nodes k in
      list_all-from_AllPass (λ x. not (is_at_or_above x y) || boxes_meet x.fit q) t.nodes
      (All-from_get_or (λ x. (not (is_at_or_above x y) || boxes_meet x.fit q) ≡ true) t.nodes no_node above)
    where
      above : (j : ℕ) → j < length t.nodes →
          (not (is_at_or_above (node_at t.nodes j) (node_at t.nodes k)) || boxes_meet (node_at t.nodes j).fit q) ≡ true
      above j inside = elim (cases_Bool (is_at_or_above (node_at t.nodes j) (node_at t.nodes k))) [
        | inr apart ↦ or_left _ _ (not_from_false _ apart)
        | inl over ↦
            let nest = ranges_nest (node_at t.nodes j) (node_at t.nodes k) over in
            let order = proper t.keys table.lawful (table.each k lt).range in
            or_right _ _ (container_meets (node_at t.nodes j).fit (node_at t.nodes k).fit q
            (box_contains_below t boxes fitted j k inside lt nest.0 (omega arith) nest.1) e)
      ]

  -- a node that is reached has a box that meets the query
  reached_meets : (k : ℕ) → k < length t.nodes → is_reached t.nodes q (node_at t.nodes k) ≡ true →
      boxes_meet (node_at t.nodes k).fit q ≡ true
  unfolding is_reached node_at
  reached_meets k lt e =
      let x = get_or t.nodes k no_node in
      elim (or_cases (not (is_at_or_above x x)) (boxes_meet x.fit q)
      (All-get_or (λ upper. (not (is_at_or_above upper x) || boxes_meet upper.fit q) ≡ true) t.nodes k no_node lt
      (AllPass-from_list_all _ t.nodes e))) [
        | inr meets ↦ meets
        | inl not_itself ↦
            absurd (both_ways (is_at_or_above x x) (not-true (is_at_or_above x x) not_itself) (at_itself x))
      ]

  -- so a node is reached exactly where its own box meets the query
  reached_is_meeting : (k : ℕ) → k < length t.nodes →
      is_reached t.nodes q (node_at t.nodes k) ≡ boxes_meet (node_at t.nodes k).fit q
  reached_is_meeting k lt = elim (cases_Bool (boxes_meet (node_at t.nodes k).fit q)) [
    | inl meets ↦ all_above_meet k lt meets ∙ sym meets
    | inr misses ↦ false_from_ne_true _ (λ e. both_ways _ misses (reached_meets k lt e)) ∙ sym misses
  ]

  -- and the two counts are one
  count_reached-is : count_reached t.nodes q ≡ count_meeting t.nodes q
  unfolding count_reached count_meeting node_at
  count_reached-is = count_by-agree (is_reached t.nodes q) (λ n. boxes_meet n.fit q) t.nodes
      (All-from_get_or (λ n. is_reached t.nodes q n ≡ boxes_meet n.fit q) t.nodes no_node reached_is_meeting)

  -- the work over two or more triangles is a count of nodes whose box meets the query
  pub work_of-many : 1 < length t.keys → work_of t.keys boxes q ≡ 1 + 2 * count_meeting t.nodes q
  work_of-many many =
      work_of-counted t.keys boxes q many
      ∙ ap (λ n. 1 + 2 * n) (ap (λ xs. count_reached xs q) (sym (table_is t boxes table fitted)) ∙ count_reached-is)

  -- which is what the root counts
  pub below-root : 1 < length t.keys → met_below t.nodes q (Inner 0) 0 (length t.keys - 1) ≡ count_meeting t.nodes q
  unfolding met_below node_at
  below-root many =
      ap (λ n. count_meeting (get_or t.nodes 0 no_node ∷ slice_range t.nodes (0 + 1) n) q) (sym table.count)
      ∙ ap (λ xs. count_meeting xs q) (first_and_rest t.nodes no_node (omega (arith, table.count)))
