-- Which side is above a leaf, and how often a position stands there.
use Rattle.std.proofs.Common.{◌≡◌, ℕ, suc, ◌-◌, ◌<◌, refl, sym, ◌∙◌, arith, inl, inr, subst, length}
use Rattle.std.specs.Prelude.{◌==◌, Some}
use Rattle.std.proofs.lemmas.Bool.{cases_eq, cases_Bool, eq-eqb}
use Rattle.radix_tree.specs.Split.{split}
use Rattle.arrival_core.specs.declared.packets.Side.{Side}
use Rattle.arrival_core.specs.declared.packets.Side.TheVariants.{Left, Right}
use Rattle.arrival_core.specs.Sums.{bit}
use Rattle.arrival_core.specs.Frames.Below.{leaf, inner}
use Rattle.arrival_core.specs.Events.{same}
use Rattle.arrival_core.specs.Counts.{at}
use Rattle.arrival_core.specs.Settings.{Setting, below, child_of, above, up_or, above_leaf_of}
use Rattle.arrival_core.specs.Tasks.{IsTask}
use Rattle.arrival_core.proofs.PutLaws.{bit-true, bit-false, eq-true, eq-false, at-here, at-apart}
use Rattle.arrival_core.proofs.PhaseLaws.{at_side}
use Rattle.arrival_core.proofs.SplitNames.{leaf_range}
use Rattle.arrival_core.proofs.Parents.{above_left, above_right, Above, above_of, below_leaf}
use Rattle.arrival_core.proofs.SplitRanges.{node_of, left_is, right_is}

module _ (x : Setting) (ok : IsTask x) where
  -- what is above a leaf
  pub leaf_above_is : (p : ℕ) → p < length x.keys → Above x.keys ok.lawful p p
  leaf_above_is p lt = above_of x.keys ok.lawful (leaf_range x.keys ok.lawful p lt) (λ z w. omega (arith, ok.two))

  -- the side above a leaf
  pub above_leaf_is : (p : ℕ) (lt : p < length x.keys) → above_leaf_of x.keys p ≡ (leaf_above_is p lt).up
  unfolding above_leaf_of up_or
  above_leaf_is p lt = rw (leaf_above_is p lt).found refl

  -- the leaf is the child there
  pub leaf_child_is : (p : ℕ) → p < length x.keys →
      child_of x.keys (above_leaf_of x.keys p).split (above_leaf_of x.keys p).side ≡ leaf p
  leaf_child_is p lt = rw (above_leaf_is p lt) ((leaf_above_is p lt).child ∙ below_leaf x.keys ok.lawful p)

  -- at a node of the tree
  pub leaf_node_is : (p : ℕ) → p < length x.keys → suc (above_leaf_of x.keys p).split < length x.keys
  leaf_node_is p lt = rw (above_leaf_is p lt) (leaf_above_is p lt).node

  -- the range of a leaf is one position
  pub leaf_range_is : (a b p : ℕ) → below x.keys a b ≡ leaf p → (a ≡ p) × (b ≡ p)
  unfolding below
  leaf_range_is a b p h = elim (cases_eq a b) [
    | inl e ↦ let it : leaf a ≡ leaf p = rw (eq-eqb a b e) at h in let same : a ≡ p = cc in (same, sym e ∙ same)
    | inr ne ↦ let wrong : inner (split x.keys a b) ≡ leaf p = rw (eq-false a b ne) at h in cc
  ]

  -- a leaf child has that side above it
  pub leaf_side : (t : ℕ) (d : Side) (p : ℕ) → t < length x.keys - 1 → child_of x.keys t d ≡ leaf p →
      above_leaf_of x.keys p ≡ record { split = t; side = d }
  unfolding above_leaf_of up_or
  leaf_side t Left p lt h =
      let it = leaf_range_is (node_of x ok t lt).first t p (sym (left_is x ok t lt) ∙ h) in
      let up : above x.keys (node_of x ok t lt).first t ≡ Some (record { split = t; side = Left })
      = subst (λ z. above x.keys (node_of x ok t lt).first z ≡ Some (record { split = z; side = Left }))
      (node_of x ok t lt).parts (above_left x.keys ok.lawful (node_of x ok t lt).node) in
      let here : above x.keys p p ≡ Some (record { split = t; side = Left }) =
      subst (λ z. above x.keys z p ≡ Some (record { split = t; side = Left })) it.0
      (subst (λ z. above x.keys (node_of x ok t lt).first z ≡ Some (record { split = t; side = Left })) it.1 up) in
      rw here refl
  leaf_side t Right p lt h =
      let it = leaf_range_is (suc t) (node_of x ok t lt).last p (sym (right_is x ok t lt) ∙ h) in
      let up : above x.keys (suc t) (node_of x ok t lt).last ≡ Some (record { split = t; side = Right })
      = subst (λ z. above x.keys (suc z) (node_of x ok t lt).last ≡ Some (record { split = z; side = Right }))
      (node_of x ok t lt).parts (above_right x.keys ok.lawful (node_of x ok t lt).node) in
      let here : above x.keys p p ≡ Some (record { split = t; side = Right }) =
      subst (λ z. above x.keys z p ≡ Some (record { split = t; side = Right })) it.0
      (subst (λ z. above x.keys (suc t) z ≡ Some (record { split = t; side = Right })) it.1 up) in
      rw here refl

  -- a position stands on a side where it is its leaf
  pub at_leaf : (t : ℕ) (d : Side) (p q : ℕ) → t < length x.keys - 1 → child_of x.keys t d ≡ leaf p → q < length
      x.keys →
      at (above_leaf_of x.keys q).split (above_leaf_of x.keys q).side t d ≡ bit (q == p)
  at_leaf t d p q lt h lq = elim (cases_eq q p) [
    | inl e ↦
        let side = leaf_side t d p lt h in
        let one = bit-true (eq-true q p e) in
        rw one (rw e (rw side (at-here t d)))
    | inr ne ↦ elim (cases_Bool (same (above_leaf_of x.keys q).split (above_leaf_of x.keys q).side t d)) [
      | inl on ↦
          let child : child_of x.keys t d ≡ leaf q = at_side (λ t d. child_of x.keys t d ≡ leaf q) _ _ t d on
          (leaf_child_is q lq) in
          let both : leaf p ≡ leaf q = sym h ∙ child in
          let same_p : p ≡ q = cc in
          absurd (ne (sym same_p))
      | inr off ↦
          let zero = bit-false (eq-false q p ne) in
          at-apart _ _ t d off ∙ sym zero
    ]
  ]

  -- no position is an inner child
  pub at_inner : (t : ℕ) (d : Side) (i q : ℕ) → child_of x.keys t d ≡ inner i → q < length x.keys →
      at (above_leaf_of x.keys q).split (above_leaf_of x.keys q).side t d ≡ 0
  at_inner t d i q h lq = elim (cases_Bool (same (above_leaf_of x.keys q).split (above_leaf_of x.keys q).side t d)) [
    | inl on ↦
        let child : child_of x.keys t d ≡ leaf q = at_side (λ t d. child_of x.keys t d ≡ leaf q) _ _ t d on
        (leaf_child_is q lq) in
        let both : inner i ≡ leaf q = sym h ∙ child in
        cc
    | inr off ↦ at-apart _ _ t d off
  ]
