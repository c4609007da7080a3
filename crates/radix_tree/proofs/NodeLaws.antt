use Rattle.std.proofs.Common.{◌≡◌, ℕ, suc, ◌+◌, ◌-◌, ◌<◌, ◌≤◌, refl, sym, ◌∙◌, arith, inl, inr, ◌⊎◌, subst, List, [], ◌∷◌, length}
use Rattle.std.proofs.lemmas.Bool.{cases_eq}
use Rattle.fixed_box.specs.declared.shapes.Box3.{Box3}
use Rattle.fixed_box.specs.Boxes.{IsLeastBox}
use Rattle.morton_key.specs.declared.keys.Key.{Key}
use Rattle.morton_key.specs.Keys.{IsLawful}
use Rattle.radix_tree.specs.Split.{split}
use Rattle.radix_tree.specs.Ranges.{IsNode}
use Rattle.radix_tree.specs.Ranges.IsNode.{root, left_of, right_of}
use Rattle.radix_tree.specs.Fit.{boxes_in}
use Rattle.radix_tree.specs.Filling.{IsFullRow}
use Rattle.radix_tree.proofs.SplitLaws.{split_laws}
use Rattle.radix_tree.proofs.RangeLaws.{range_laws}
use Rattle.radix_tree.proofs.NumberLaws.{proper, range_of_node, kind, IsFirst, IsLast}
use Rattle.radix_tree.proofs.FitLaws.{least_of_children}

module _ (keys : List Key) (ok : IsLawful keys) where
  -- a node's range lies among the keys
  pub node_within : {i a b : ℕ} → IsNode keys i a b → b < length keys
  node_within d = (range_laws keys ok (range_of_node keys ok d)).within

  -- its number is one of those of the table
  pub node_below : {i a b : ℕ} → IsNode keys i a b → suc i < length keys
  node_below {i} {a} {b} d = elim (kind keys ok d) [
    | inl k ↦ omega (arith, k.number, proper keys ok d, node_within d)
    | inr k ↦ omega (arith, k.number, k.inside)
  ]

  -- and an end of its range
  pub node_end : {i a b : ℕ} → IsNode keys i a b → (i ≡ a) ⊎ (i ≡ b)
  node_end d = elim (kind keys ok d) [ inl k ↦ inl k.number | inr k ↦ inr k.number ]

  -- a range has one number
  pub one_number : {i j a b : ℕ} → IsNode keys i a b → IsNode keys j a b → i ≡ j
  one_number {i} {j} {a} {b} x y = elim (kind keys ok x) [
    | inl k ↦ elim (kind keys ok y) [
      | inl l ↦ k.number ∙ sym l.number
      | inr l ↦ absurd (both_ways i j a b (proper keys ok x) k l)
    ]
    | inr k ↦ elim (kind keys ok y) [
      | inl l ↦ absurd (both_ways j i a b (proper keys ok x) l k)
      | inr l ↦ k.number ∙ sym l.number
    ]
  ]
    where
      both_ways : (i j a b : ℕ) → a < b → IsFirst keys ok i a b → IsLast keys ok j a b → ⊥
      both_ways i j a b lt k l = elim (cases_eq a 0) [
        | inl z ↦ omega (arith, k.top z, l.inside)
        | inr nz ↦ omega (arith, k.after (omega arith) l.inside, l.before (omega arith))
      ]

  -- the split of a node lies in its range, before the end
  pub split_low : {i a b : ℕ} → IsNode keys i a b → a ≤ split keys a b
  split_low {i} {a} {b} d = (split_laws keys ok a b (split keys a b) (proper keys ok d) (node_within d) refl).low

  -- before the end
  pub split_high : {i a b : ℕ} → IsNode keys i a b → split keys a b < b
  split_high {i} {a} {b} d = (split_laws keys ok a b (split keys a b) (proper keys ok d) (node_within d) refl).high

  -- the left child of a node, where it is inner
  pub left_node : {i a b : ℕ} → IsNode keys i a b → (s : ℕ) → s ≡ split keys a b → a < s → IsNode keys s a s
  left_node d s e lt = left_of d (sym e) lt

  -- and the right one
  pub right_node : {i a b : ℕ} → IsNode keys i a b → (s : ℕ) → s ≡ split keys a b → s + 1 < b →
      IsNode keys (s + 1) (s + 1) b
  right_node {i} {a} {b} d s e lt = let next : suc s ≡ s + 1 = omega arith in
      subst (λ z. IsNode keys z z b) next (right_of d (sym e) (omega arith))

  -- the whole range is the root's
  pub root_node : (last : ℕ) → last ≡ length keys - 1 → 0 < last → IsNode keys 0 0 last
  root_node last e lt = root lt (omega arith)

  -- a row of a node with its split, round its children's boxes
  pub full_row : (boxes : List Box3) {i a b : ℕ} → IsNode keys i a b → (s : ℕ) (l r fit : Box3) → s ≡ split keys a b →
      IsLeastBox (boxes_in boxes keys a s) l → IsLeastBox (boxes_in boxes keys (s + 1) b) r →
      IsLeastBox (l ∷ r ∷ []) fit →
      IsFullRow keys boxes i (record { first = a; last = b; split = s; fit = fit })
  full_row boxes {i} {a} {b} d s l r fit e left right join =
      let next : s + 1 ≡ suc s = omega arith in
      record {
        row = record { range = d; part = e };
        fit = least_of_children boxes keys a s b l r fit (omega (arith, e, split_low d))
            (omega (arith, e, split_high d)) left
            (subst (λ z. IsLeastBox (boxes_in boxes keys z b) r) next right) join;
      }
