-- The way up by the ends of each inner node.
use Rattle.std.proofs.Common.{◌≡◌, ◌≢◌, ℕ, suc, ◌+◌, ◌-◌, ◌<◌, ◌≤◌, refl, sym, ap, ◌∙◌, arith, inl, inr, subst, List, length, get_or, set}
use Rattle.std.specs.Prelude.{◌==◌, ◌&&◌, Some, None}
use Rattle.std.proofs.lemmas.Bool.{cases_eq, eqb-true, and_parts}
use Rattle.std.proofs.lemmas.List.{get_or-set_other, length-set}
use Rattle.std.proofs.lemmas.Grind.{get_or-set_at}
use Rattle.morton_key.specs.declared.keys.Key.{Key}
use Rattle.morton_key.specs.Keys.{IsLawful}
use Rattle.radix_tree.specs.Split.{split}
use Rattle.radix_tree.specs.Ranges.{IsNode}
use Rattle.radix_tree.specs.Shape.{Row, rows, shape_of}
use Rattle.radix_tree.proofs.NodeLaws.{node_within, node_below, split_high}
use Rattle.radix_tree.proofs.NumberLaws.{one_range}
use Rattle.radix_tree.proofs.ShapeRows.{row_in_any_tree}
use Rattle.arrival_core.specs.declared.packets.Side.TheVariants.{Left, Right}
use Rattle.arrival_core.specs.Settings.{row_of, above, side_of_row, or_else}
use Rattle.arrival_core.proofs.SplitNames.{named, row_of_is, find_none}
use Rattle.arrival_core.proofs.Parents.{above_left, above_right}
use Rattle.radix_tree.specs.Table.{Contents, IsTable, IsRow, node_at}
use Rattle.radix_tree.specs.declared.nodes.Node.{Node}
use Rattle.box_handoff.specs.Ends.{AreEnds, AreEndsBelow}

module _ (keys : List Key) (ok : IsLawful keys) where
  -- a split's row is that of a node with this number and range
  record IsAt (s i a b : ℕ) : Type 0 where
    pub number : (row_of keys s).number ≡ i
    pub first : (row_of keys s).first ≡ a
    pub last : (row_of keys s).last ≡ b

  -- it is so for the split of a node
  row_at_split : {i a b : ℕ} → IsNode keys i a b → (s : ℕ) → s ≡ split keys a b → IsAt s i a b
  row_at_split {i} {a} {b} d s e = let r = ap (row_of keys) e ∙ row_of_is keys ok d in
      record {
        number = ap (λ (z : Row). z.number) r;
        first = ap (λ (z : Row). z.first) r;
        last = ap
            (λ (z : Row). z.last) r;
      }

  -- one node more
  pub filled : (first last : List ℕ) (i a b s : ℕ) → AreEndsBelow keys first last i → IsNode keys i a b →
      s ≡ split keys a b → AreEndsBelow keys (set first s a) (set last s b) (i + 1)
  filled first last i a b s was d e = record {
    firsts = length-set first s a ∙ was.firsts;
    lasts = length-set last s b ∙ was.lasts;
    first_is = λ t lt num. elim (cases_eq t s) [
      | inl same ↦ get_or-set_at first s t a 0 same (omega (arith, in_s, was.firsts)) ∙ sym (here t same).first
      | inr ne ↦ get_or-set_other first s t a 0 ne ∙ was.first_is t lt (less t lt ne num)
    ];
    last_is = λ t lt num. elim (cases_eq t s) [
      | inl same ↦ get_or-set_at last s t b 0 same (omega (arith, in_s, was.lasts)) ∙ sym (here t same).last
      | inr ne ↦ get_or-set_other last s t b 0 ne ∙ was.last_is t lt (less t lt ne num)
    ];
  }
    where
      in_s : s < length keys - 1
      in_s = omega (arith, e, split_high keys ok d, node_within keys ok d)

      here : (t : ℕ) → t ≡ s → IsAt t i a b
      here t same = row_at_split d t (same ∙ e)

      less : (t : ℕ) → t < length keys - 1 → t ≢ s → (row_of keys t).number < i + 1 → (row_of keys t).number < i
      less t lt ne num = elim (cases_eq (row_of keys t).number i) [
        | inl is ↦
            let n = named keys ok t (omega arith) in
            let at = row_at_split n.node t (sym n.parts) in
            let both = one_range keys ok (subst (λ (z : ℕ). IsNode keys z n.first n.last) (sym at.number
            ∙ is) n.node) d in
            absurd (ne (sym n.parts ∙ (ap (λ (z : ℕ). split keys z n.last) both.0
            ∙ (ap (λ (z : ℕ). split keys a z) both.1 ∙ sym e))))
        | inr other ↦ omega arith
      ]

  -- all nodes
  pub all_filled : (first last : List ℕ) (i : ℕ) → AreEndsBelow keys first last i → length keys - 1 ≤ i →
      AreEnds keys first last
  all_filled first last i h le = record {
    lawful = ok;
    firsts = h.firsts;
    lasts = h.lasts;
    first_is = λ s lt. h.first_is s lt (low s lt);
    last_is = λ s lt. h.last_is s lt (low s lt);
  }
    where
      low : (s : ℕ) → s < length keys - 1 → (row_of keys s).number < i
      low s lt = let n = named keys ok s (omega arith) in let at = row_at_split n.node s (sym n.parts) in
          let b = node_below keys ok n.node in omega (arith, at.number, b, le)

-- the table's answers
module _ (keys : List Key) (first last : List ℕ) (ends : AreEnds keys first last) where
  -- where a node with that split begins with the range, the range is its left child
  pub left_found : (a b : ℕ) → b < length first → get_or first b 0 ≡ a →
      above keys a b ≡ Some (record { split = b; side = Left })
  left_found a b lt is =
      let n = named keys ends.lawful b (omega (arith, lt, ends.firsts)) in
      let at = row_at_split keys ends.lawful n.node b (sym n.parts) in
      let same : n.first ≡ a = sym at.first ∙ (sym (ends.first_is b (omega (arith, lt, ends.firsts))) ∙ is) in
      subst (λ (z : ℕ). above keys z b ≡ Some (record { split = b; side = Left })) same
      (subst (λ (z : ℕ). above keys n.first z ≡ Some (record { split = z; side = Left })) n.parts
      (above_left keys ends.lawful n.node))

  -- where one ends with it, its right child
  pub right_found : (a b s : ℕ) → a ≡ suc s → s < length last → get_or last s 0 ≡ b →
      above keys a b ≡ Some (record { split = s; side = Right })
  right_found a b s e lt is =
      let n = named keys ends.lawful s (omega (arith, lt, ends.lasts)) in
      let at = row_at_split keys ends.lawful n.node s (sym n.parts) in
      let same : n.last ≡ b = sym at.last ∙ (sym (ends.last_is s (omega (arith, lt, ends.lasts))) ∙ is) in
      subst (λ (z : ℕ). above keys z b ≡ Some (record { split = s; side = Right })) (sym e)
      (subst (λ (z : ℕ). above keys (suc s) z ≡ Some (record { split = s; side = Right })) same
      (subst (λ (z : ℕ). above keys (suc z) n.last ≡ Some (record { split = z; side = Right })) n.parts
      (above_right keys ends.lawful n.node)))

  -- where neither does, nothing is above it
  pub none_found : (a b : ℕ) → (b < length first → get_or first b 0 ≡ a → ⊥) →
      ((s : ℕ) → a ≡ suc s → s < length last → get_or last s 0 ≡ b → ⊥) → above keys a b ≡ None
  unfolding above side_of_row or_else
  none_found a b no_left no_right =
      let l = find_none (λ r. r.first == a && r.split == b) (rows 0 (shape_of keys))
      (λ r c h.
      let x = row_in_any_tree keys ends.lawful r c in
      let at = row_at_split keys ends.lawful x.node r.split x.split_is in
      let p = and_parts (r.first == a) (r.split == b) h in
      let f : r.first ≡ a = eqb-true _ _ p.0 in
      let g : r.split ≡ b = eqb-true _ _ p.1 in
      let lt : r.split < length keys - 1 = omega (
        arith,
        x.split_is,
        split_high keys ends.lawful x.node,
        node_within keys ends.lawful x.node,
      ) in
      no_left (omega (arith, ends.firsts, lt, g)) (ap (λ (z : ℕ). get_or first z 0) (sym g)
      ∙ (ends.first_is r.split lt ∙ (at.first ∙ f)))) in
      let m = find_none (λ r. suc r.split == a && r.last == b) (rows 0 (shape_of keys))
      (λ r c h.
      let x = row_in_any_tree keys ends.lawful r c in
      let at = row_at_split keys ends.lawful x.node r.split x.split_is in
      let p = and_parts (suc r.split == a) (r.last == b) h in
      let f : suc r.split ≡ a = eqb-true _ _ p.0 in
      let g : r.last ≡ b = eqb-true _ _ p.1 in
      let lt : r.split < length keys - 1 = omega (
        arith,
        x.split_is,
        split_high keys ends.lawful x.node,
        node_within keys ends.lawful x.node,
      ) in
      no_right r.split (sym f) (omega (arith, ends.lasts, lt)) (ends.last_is r.split lt ∙ (at.last ∙ g))) in
      rw l (rw m refl)

-- a row's split is below the last position
pub row_below : (t : Contents) → IsTable t → (i : ℕ) (x : Node) → i < length t.nodes → x ≡ node_at t.nodes i →
    x.split < length t.keys - 1
row_below t table i x lt is =
    let row : IsRow t.keys i x = subst (λ (z : Node). IsRow t.keys i z) (sym is) (table.each i lt) in
    omega (arith, row.part, split_high t.keys table.lawful row.range, node_within t.keys table.lawful row.range)
