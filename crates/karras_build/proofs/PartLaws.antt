use Rattle.std.proofs.Common.{◌≡◌, ℕ, suc, ◌+◌, ◌-◌, ◌<◌, ◌≤◌, refl, sym, ap, ◌∙◌, arith, inl, inr, subst, List, [], ◌∷◌, ◌++◌, length}
use Rattle.std.proofs.Math.ListN.{length-append, get_or-append}
use Rattle.std.proofs.Math.Seq.{get_or-append_right}
use Rattle.std.proofs.lemmas.Bool.{cases_lt}
use Rattle.fixed_box.specs.declared.shapes.Box3.{Box3}
use Rattle.fixed_box.specs.Boxes.{IsLeastBox}
use Rattle.morton_key.specs.Keys.{tri_at}
use Rattle.radix_tree.specs.declared.nodes.Node.{Node}
use Rattle.radix_tree.specs.Ranges.{IsNode}
use Rattle.radix_tree.specs.Split.{split}
use Rattle.radix_tree.specs.Table.{node_at}
use Rattle.radix_tree.specs.Fit.{box_of_triangle, boxes_in}
use Rattle.radix_tree.specs.Filling.{IsFullRow}
use Rattle.radix_tree.proofs.NumberLaws.{one_range}
use Rattle.radix_tree.proofs.NodeLaws.{node_within, node_below, split_low, split_high, left_node, right_node, root_node}
use Rattle.radix_tree.proofs.FitLaws.{least_of_children, least_of_leaf_at}
use Rattle.radix_tree.proofs.FillLaws.{IsFull, full_from_rows}
use Rattle.karras_build.specs.declared.inputs.Inputs.{Inputs}
use Rattle.karras_build.specs.Spans.{span_at}
use Rattle.karras_build.specs.Parts.{AreInputs, HasRows, IsPart}

module _ (x : Inputs) (ok : AreInputs x) where
  -- the rows of numbers that follow one another
  pub rows_joined : (start next : ℕ) (xs ys : List Node) → next ≡ start + length xs → HasRows x start xs →
      HasRows x next ys → HasRows x start (xs ++ ys)
  unfolding node_at
  rows_joined start next xs ys e p q = record {
    each = λ k. λ lt. elim (cases_lt k (length xs)) [
      | inl here ↦ subst (λ n. IsFullRow x.keys.now x.boxes.now (start + k) n)
          (sym (get_or-append xs ys _ k here)) (p.each k here)
      | inr past ↦
          let number : next + (k - length xs) ≡ start + k = omega arith in
          subst (λ n. IsFullRow x.keys.now x.boxes.now (start + k) n) (sym (get_or-append_right xs ys k _ past))
          (subst (λ z. IsFullRow x.keys.now x.boxes.now z (node_at ys (k - length xs))) number
          (q.each (k - length xs) (omega (arith, length-append xs ys))))
    ];
  }

  -- none are those of any numbers
  pub no_rows : (start : ℕ) (nodes : List Node) → length nodes ≡ 0 → HasRows x start nodes
  no_rows start nodes none = record { each = λ k. λ lt. absurd (omega (arith, none)) }

  -- one row
  pub row_alone : (start : ℕ) (n : Node) → IsFullRow x.keys.now x.boxes.now start n → HasRows x start (n ∷ [])
  unfolding node_at
  row_alone start n r = record {
    each = λ k. λ lt.
        let here : k ≡ 0 = omega arith in
        let number : start ≡ start + k = omega arith in
        subst (λ z. IsFullRow x.keys.now x.boxes.now z (node_at (n ∷ []) k)) number
        (subst (λ j. IsFullRow x.keys.now x.boxes.now start (node_at (n ∷ []) j)) (sym here) r);
  }

  -- a part with room for nodes is a node's
  pub part_node : {i a b room : ℕ} → IsPart x.keys.now i a b room → 0 < room → IsNode x.keys.now i a b
  part_node p some = p.node (omega (arith, p.room))

  -- its number is one of those of the spans
  pub span_inside : {i a b room : ℕ} → IsPart x.keys.now i a b room → 0 < room → i < length x.spans.now
  span_inside p some = omega (arith, node_below x.keys.now ok.lawful (part_node p some), ok.spans.count)

  -- and the split that is read there is that of its range
  pub split_read : {i a b : ℕ} → IsNode x.keys.now i a b → (span_at x.spans.now i).split ≡ split x.keys.now a b
  split_read {i} {a} {b} d =
      let keys = x.keys.now in
      let r = ok.spans.each i (omega (arith, node_below keys ok.lawful d, ok.spans.count)) in
      let same = one_range keys ok.lawful r.range d in
      r.part ∙ (ap (λ z. split keys z (span_at x.spans.now i).last) same.0 ∙ ap (λ z. split keys a z) same.1)

  -- the two parts below a node
  pub left_below : {i a b room : ℕ} → IsPart x.keys.now i a b room → 0 < room →
      let s : ℕ = (span_at x.spans.now i).split in IsPart x.keys.now s a s (s - a)
  left_below p some =
      let keys = x.keys.now in
      let d = part_node p some in
      record {
        order = omega (arith, split_read d, split_low keys ok.lawful d);
        within = omega (arith, split_read d, split_high keys ok.lawful d, node_within keys ok.lawful d);
        node = λ lt. left_node keys ok.lawful d _ (split_read d) lt;
        room = refl;
      }

  -- and behind the split
  pub right_below : {i a b room : ℕ} → IsPart x.keys.now i a b room → 0 < room →
      let s : ℕ = (span_at x.spans.now i).split in IsPart x.keys.now (s + 1) (s + 1) b (b - (s + 1))
  right_below p some =
      let keys = x.keys.now in
      let d = part_node p some in
      record {
        order = omega (arith, split_read d, split_high keys ok.lawful d);
        within = p.within;
        node = λ lt. right_node keys ok.lawful d _ (split_read d) lt;
        room = refl;
      }

  -- the node's own row
  pub own_row : {i a b room : ℕ} → IsPart x.keys.now i a b room → 0 < room → (fit : Box3) →
      IsLeastBox (boxes_in x.boxes.now x.keys.now a b) fit →
      HasRows x i (record { first = a; last = b; split = (span_at x.spans.now i).split; fit = fit } ∷ [])
  own_row p some fit least = row_alone _ _ (record {
    row = record { range = part_node p some; part = split_read (part_node p some) };
    fit = least;
  })

  -- a part with no room is a leaf
  pub leaf_fit : {i a b room : ℕ} → IsPart x.keys.now i a b room → room ≡ 0 → (r : Box3) →
      r ≡ box_of_triangle x.boxes.now (tri_at x.keys.now a) → IsLeastBox (boxes_in x.boxes.now x.keys.now a b) r
  leaf_fit {i} {a} {b} p none r e =
      least_of_leaf_at x.boxes.now x.keys.now a b r (omega (arith, p.order, p.room))
      (omega (arith, p.order, p.within)) e

  -- the box round both halves
  pub both_halves : (a s b : ℕ) (low high whole : Box3) → a ≤ s → s + 1 ≤ b →
      IsLeastBox (boxes_in x.boxes.now x.keys.now a s) low →
      IsLeastBox (boxes_in x.boxes.now x.keys.now (s + 1) b) high → IsLeastBox (low ∷ high ∷ []) whole →
      IsLeastBox (boxes_in x.boxes.now x.keys.now a b) whole
  both_halves a s b low high whole le lt left right join =
      let next : s + 1 ≡ suc s = omega arith in
      least_of_children x.boxes.now x.keys.now a s b low high whole le (omega arith) left
      (subst (λ z. IsLeastBox (boxes_in x.boxes.now x.keys.now z b) high) next right) join

  -- the part of the root is the whole table
  pub root_part : (last room : ℕ) → last ≡ length x.keys.now - 1 → 1 < length x.keys.now → room ≡ last →
      IsPart x.keys.now 0 0 last room
  root_part last room e some r = record {
    order = omega arith;
    within = omega arith;
    node = λ lt. root_node x.keys.now ok.lawful last e lt;
    room = omega arith;
  }

  -- all rows are the table, fitted
  pub full : (nodes : List Node) → length nodes ≡ length x.keys.now - 1 → HasRows x 0 nodes →
      IsFull x.keys.now x.boxes.now nodes
  full nodes count rows = full_from_rows x.keys.now x.boxes.now nodes ok.lawful ok.count count
      (λ k lt. record {
        here = λ h. let e : 0 + k ≡ k = omega arith in
            subst (λ z. IsFullRow x.keys.now x.boxes.now z (node_at nodes k)) e (rows.each k lt);
      })
