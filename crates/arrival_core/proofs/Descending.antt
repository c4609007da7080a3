-- On the way down to a leaf or an inner node: what a node says of the child that is met.
use Rattle.std.proofs.Common.{◌≡◌, ℕ, suc, ◌+◌, ◌<◌, ◌≤◌, sym, ap, ◌∙◌, arith, subst, length, Some}
use Rattle.radix_tree.specs.declared.nodes.Node.{Node}
use Rattle.radix_tree.specs.declared.nodes.Child.{Child}
use Rattle.radix_tree.specs.declared.nodes.Child.TheVariants.{Leaf, Inner}
use Rattle.radix_tree.specs.Split.{split}
use Rattle.radix_tree.specs.Ranges.{IsNode, HasRange}
use Rattle.radix_tree.specs.Table.{Contents, node_at, IsTable}
use Rattle.radix_tree.proofs.DescentLaws.{low_at, high_at, last_at, row_range}
use Rattle.arrival_core.specs.declared.packets.Side.TheVariants.{Left, Right}
use Rattle.arrival_core.specs.Settings.{above, row_of}
use Rattle.arrival_core.proofs.SplitNames.{row_of_is}
use Rattle.arrival_core.proofs.Parents.{above_left, above_right}

module _ (t : Contents) (table : IsTable t) (k : ℕ) (lt : k < length t.nodes) (x : Node) (e : x ≡ node_at t.nodes k)
  where
    -- the node that was read
    pub record Read : Type 0 where
      pub node : IsNode t.keys k x.first x.last
      pub split_is : x.split ≡ split t.keys x.first x.last
      pub first_is : (node_at t.nodes k).first ≡ x.first
      pub last_is : (node_at t.nodes k).last ≡ x.last
      pub part_is : (node_at t.nodes k).split ≡ x.split
      pub low : x.first ≤ x.split
      pub high : x.split < x.last
      pub within : x.last < length t.keys

    -- a node as it was read
    pub read : Read
    read =
        let l = low_at t table k lt in
        let h = high_at t table k lt in
        let w = last_at t table k lt in
        let f = ap (λ y. y.first) e in
        let g = ap (λ y. y.last) e in
        let s = ap (λ y. y.split) e in
        record {
          node = subst (λ y. IsNode t.keys k y.first y.last) (sym e) (table.each k lt).range;
          split_is = subst (λ y. y.split ≡ split t.keys y.first y.last) (sym e) (table.each k lt).part;
          first_is = sym f;
          last_is = sym g;
          part_is = sym s;
          low = omega (arith, l, f, s);
          high = omega (arith, h, g, s);
          within = omega (arith, w, g);
        }

    -- what stands above its left child
    up_left : above t.keys x.first x.split ≡ Some (record { split = x.split; side = Left })
    up_left = subst (λ z. above t.keys x.first z ≡ Some (record { split = z; side = Left })) (sym read.split_is)
        (above_left t.keys table.lawful read.node)

    -- and above its right one
    up_right : above t.keys (suc x.split) x.last ≡ Some (record { split = x.split; side = Right })
    up_right = subst (λ z. above t.keys (suc z) x.last ≡ Some (record { split = z; side = Right })) (sym read.split_is)
        (above_right t.keys table.lawful read.node)

    -- a leaf to the left, and to the right
    pub leaf_on_left : (c : Child) (q p : ℕ) → c ≡ Leaf q →
        HasRange t.keys c (node_at t.nodes k).first (node_at t.nodes k).split → (node_at t.nodes k).first ≤ p →
        p ≤ x.split → above t.keys p p ≡ Some (record { split = x.split; side = Left })
    leaf_on_left c q p is h low high =
        let r : HasRange t.keys (Leaf q) (node_at t.nodes k).first (node_at t.nodes k).split =
        subst (λ z. HasRange t.keys z (node_at t.nodes k).first (node_at t.nodes k).split) is h in
        let both : (q ≡ (node_at t.nodes k).first) × (q ≡ (node_at t.nodes k).split) = r in
        let a : x.first ≡ p = omega (arith, both.0, both.1, read.first_is, read.part_is) in
        let b : x.split ≡ p = omega (arith, both.0, both.1, read.first_is, read.part_is) in
        subst (λ z. above t.keys z p ≡ Some (record { split = x.split; side = Left })) a
        (subst (λ z. above t.keys x.first z ≡ Some (record { split = x.split; side = Left })) b up_left)

    -- a position on the right of it that is a leaf
    pub leaf_on_right : (c : Child) (q p : ℕ) → c ≡ Leaf q →
        HasRange t.keys c ((node_at t.nodes k).split + 1) (node_at t.nodes k).last → p ≤ (node_at t.nodes k).last →
        x.split < p → above t.keys p p ≡ Some (record { split = x.split; side = Right })
    leaf_on_right c q p is h high low =
        let r : HasRange t.keys (Leaf q) ((node_at t.nodes k).split + 1) (node_at t.nodes k).last =
        subst (λ z. HasRange t.keys z ((node_at t.nodes k).split + 1) (node_at t.nodes k).last) is h in
        let both : (q ≡ (node_at t.nodes k).split + 1) × (q ≡ (node_at t.nodes k).last) = r in
        let a : suc x.split ≡ p = omega (arith, both.0, both.1, read.last_is, read.part_is) in
        let b : x.last ≡ p = omega (arith, both.0, both.1, read.last_is, read.part_is) in
        subst (λ z. above t.keys z p ≡ Some (record { split = x.split; side = Right })) a
        (subst (λ z. above t.keys (suc x.split) z ≡ Some (record { split = x.split; side = Right })) b up_right)

    -- an inner child on the left, and on the right: its row
    pub record Row (i a b : ℕ) : Type 0 where
      pub node : IsNode t.keys i a b
      pub inside : i < length t.nodes
      pub first_is : (node_at t.nodes i).first ≡ a
      pub last_is : (node_at t.nodes i).last ≡ b

    -- the row of an inner left child
    pub inner_on_left : (c : Child) (i : ℕ) → c ≡ Inner i →
        HasRange t.keys c (node_at t.nodes k).first (node_at t.nodes k).split → Row i x.first x.split
    inner_on_left c i is h =
        let r : HasRange t.keys (Inner i) (node_at t.nodes k).first (node_at t.nodes k).split =
        subst (λ z. HasRange t.keys z (node_at t.nodes k).first (node_at t.nodes k).split) is h in
        let d : IsNode t.keys i x.first x.split = subst (λ z. IsNode t.keys i z x.split) read.first_is
        (subst (λ z. IsNode t.keys i (node_at t.nodes k).first z) read.part_is r) in
        let row = row_range t table i x.first x.split d in
        record { node = d; inside = row.0; first_is = row.1; last_is = row.2 }

    -- and of an inner right one
    pub inner_on_right : (c : Child) (i : ℕ) → c ≡ Inner i →
        HasRange t.keys c ((node_at t.nodes k).split + 1) (node_at t.nodes k).last → Row i (suc x.split) x.last
    inner_on_right c i is h =
        let r : HasRange t.keys (Inner i) ((node_at t.nodes k).split + 1) (node_at t.nodes k).last =
        subst (λ z. HasRange t.keys z ((node_at t.nodes k).split + 1) (node_at t.nodes k).last) is h in
        let next : (node_at t.nodes k).split + 1 ≡ suc x.split = omega (arith, read.part_is) in
        let d : IsNode t.keys i (suc x.split) x.last = subst (λ z. IsNode t.keys i z x.last) next
        (subst (λ z. IsNode t.keys i ((node_at t.nodes k).split + 1) z) read.last_is r) in
        let row = row_range t table i (suc x.split) x.last d in
        record { node = d; inside = row.0; first_is = row.1; last_is = row.2 }

    -- what is above an inner child, by its split
    pub above_inner_left : (i s : ℕ) (y : Node) → Row i x.first x.split → y ≡ node_at t.nodes i → y.split ≡ s →
        above t.keys (row_of t.keys s).first (row_of t.keys s).last ≡ Some (record { split = x.split; side = Left })
    above_inner_left i s y r e h =
        let part : split t.keys x.first x.split ≡ s =
        sym (subst (λ z. (node_at t.nodes i).split ≡ split t.keys z x.split) r.first_is
        (subst (λ z. (node_at t.nodes i).split ≡ split t.keys (node_at t.nodes i).first z) r.last_is
        (table.each i r.inside).part)) ∙ (sym (ap (λ z. z.split) e) ∙ h) in
        let row = ap (row_of t.keys) (sym part) ∙ row_of_is t.keys table.lawful r.node in
        let rf : (row_of t.keys s).first ≡ x.first = ap (λ z. z.first) row in
        let rl : (row_of t.keys s).last ≡ x.split = ap (λ z. z.last) row in
        rw rf (rw rl up_left)

    -- what stands above an inner right child
    pub above_inner_right : (i s : ℕ) (y : Node) → Row i (suc x.split) x.last → y ≡ node_at t.nodes i → y.split ≡ s →
        above t.keys (row_of t.keys s).first (row_of t.keys s).last ≡ Some (record { split = x.split; side = Right })
    above_inner_right i s y r e h =
        let part : split t.keys (suc x.split) x.last ≡ s =
        sym (subst (λ z. (node_at t.nodes i).split ≡ split t.keys z x.last) r.first_is
        (subst (λ z. (node_at t.nodes i).split ≡ split t.keys (node_at t.nodes i).first z) r.last_is
        (table.each i r.inside).part)) ∙ (sym (ap (λ z. z.split) e) ∙ h) in
        let row = ap (row_of t.keys) (sym part) ∙ row_of_is t.keys table.lawful r.node in
        let rf : (row_of t.keys s).first ≡ suc x.split = ap (λ z. z.first) row in
        let rl : (row_of t.keys s).last ≡ x.last = ap (λ z. z.last) row in
        rw rf (rw rl up_right)
