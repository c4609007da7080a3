-- Each position but the last is the split of one inner node, which it names.
use Rattle.std.proofs.Common.{◌≡◌, ℕ, suc, zero, ◌+◌, ◌-◌, ◌<◌, ◌≤◌, refl, sym, ap, ◌∙◌, arith, inl, inr, subst, List, [], ◌∷◌, length, Bool, true, false}
use Rattle.std.specs.Prelude.{◌==◌, Contains, find, Some, None}
use Rattle.std.proofs.lemmas.Bool.{cases_eq, cases_lt, cases_order, cases_Bool, cond-true, cond-false, eq-eqb, eqb-true}
use Rattle.morton_key.specs.declared.keys.Key.{Key}
use Rattle.morton_key.specs.Keys.{IsLawful}
use Rattle.morton_key.proofs.Tags.{gap}
use Rattle.morton_key.proofs.GapLaws.{gap_mono}
use Rattle.radix_tree.specs.Split.{split}
use Rattle.radix_tree.specs.Ranges.{IsRange, IsNode}
use Rattle.radix_tree.specs.Ranges.IsRange.{whole, left, right}
use Rattle.radix_tree.specs.Ranges.IsNode.{root, left_of, right_of}
use Rattle.radix_tree.specs.Shape.{Row, rows, shape_of}
use Rattle.radix_tree.proofs.SplitLaws.{split_laws}
use Rattle.radix_tree.proofs.RangeLaws.{range_laws}
use Rattle.radix_tree.proofs.NumberLaws.{proper, range_of_node}
use Rattle.radix_tree.proofs.NodeLaws.{node_within, one_number}
use Rattle.radix_tree.proofs.FoundRows.{contains_head, contains_tail, contains_more}
use Rattle.radix_tree.proofs.ShapeRows.{node_in_table, row_in_any_tree}
use Rattle.arrival_core.specs.Settings.{row_or, row_of}

-- the only row that passes a test is the one that is found
pub find_the_only : (test : Row → Bool) (xs : List Row) (x : Row) → Contains xs x → test x ≡ true →
    ((r : Row) → Contains xs r → test r ≡ true → r ≡ x) → find test xs ≡ Some x
find_the_only test [] x (j, lt, e) on only = absurd (omega arith)
find_the_only test (y ∷ ys) x c on only = elim (cases_Bool (test y)) [
  | inl e ↦ cond-true (test y) (Some y) (find test ys) e ∙ ap Some (only y (contains_head y ys) e)
  | inr off ↦ cond-false (test y) (Some y) (find test ys) off ∙ find_the_only test ys x
      (elim (contains_tail y x ys c) [
        | inl e ↦ let no : true ≡ false = sym on ∙ (ap test (sym e) ∙ off) in cc
        | inr h ↦ h
      ]) on
      (λ r h e. only r (contains_more y r ys h) e)
]

-- and none is found where none passes
pub find_none : (test : Row → Bool) (xs : List Row) → ((r : Row) → Contains xs r → test r ≡ true → ⊥) →
    find test xs ≡ None
find_none test [] never = refl
find_none test (y ∷ ys) never = elim (cases_Bool (test y)) [
  | inl e ↦ absurd (never y (contains_head y ys) e)
  | inr off ↦ cond-false (test y) (Some y) (find test ys) off
      ∙ find_none test ys (λ r h e. never r (contains_more y r ys h) e)
]

module _ (keys : List Key) (ok : IsLawful keys) where
  -- the node that a split names
  pub record Named (s : ℕ) : Type 0 where
    pub number : ℕ
    pub first : ℕ
    pub last : ℕ
    pub node : IsNode keys number first last
    pub parts : split keys first last ≡ s

  -- a split in a range is that of a node below it
  found : (f x a b s : ℕ) → b ≤ a + f → IsNode keys x a b → a ≤ s → s < b → Named s
  found zero x a b s le d low high = absurd (omega arith)
  found (suc f) x a b s le d low high =
      let q = split_laws keys ok a b (split keys a b) (proper keys ok d) (node_within keys ok d) refl in
      elim (cases_order (split keys a b) s) [
        | inl e ↦ record { number = x; first = a; last = b; node = d; parts = e }
        | inr (inl less) ↦ found f (suc (split keys a b)) (suc (split keys a b)) b s (omega (arith, q.low))
            (right_of d refl (omega arith)) less high
        | inr (inr more) ↦ found f (split keys a b) a (split keys a b) s (omega (arith, q.high))
            (left_of d refl (omega arith)) low more
      ]

  -- each split is that of a node
  pub named : (s : ℕ) → suc s < length keys → Named s
  named s lt =
      let e : suc (length keys - 1) ≡ length keys = omega arith in
      found (length keys - 1) 0 0 (length keys - 1) s (omega arith) (root (omega arith) e) (omega arith) (omega arith)

  -- each position is a range of the tree
  single : (f a b p : ℕ) → b ≤ a + f → IsRange keys a b → a ≤ p → p ≤ b → IsRange keys p p
  single zero a b p le r low high =
      let x : a ≡ p = omega arith in
      let y : b ≡ p = omega arith in
      subst (λ z. IsRange keys z p) x (subst (λ z. IsRange keys a z) y r)
  single (suc f) a b p le r low high = elim (cases_eq a b) [
    | inl e ↦
        let x : a ≡ p = omega arith in
        let y : b ≡ p = omega arith in
        subst (λ z. IsRange keys z p) x (subst (λ z. IsRange keys a z) y r)
    | inr ne ↦
        let lt : a < b = omega (arith, (range_laws keys ok r).order) in
        let q = split_laws keys ok a b (split keys a b) lt (range_laws keys ok r).within refl in
        elim (cases_lt (split keys a b) p) [
          | inl more ↦ single f (suc (split keys a b)) b p (omega (arith, q.low)) (right r lt refl) more high
          | inr less ↦ single f a (split keys a b) p (omega (arith, q.high)) (left r lt refl) low less
        ]
  ]

  -- each position is a range of the tree
  pub leaf_range : (p : ℕ) → p < length keys → IsRange keys p p
  leaf_range p lt =
      let e : suc (length keys - 1) ≡ length keys = omega arith in
      single (length keys - 1) 0 (length keys - 1) p (omega arith) (whole e) (omega arith) (omega arith)

  -- a split names one range
  pub one_split : {a b c d : ℕ} → IsRange keys a b → a < b → IsRange keys c d → c < d →
      split keys a b ≡ split keys c d → (a ≡ c) × (b ≡ d)
  one_split {a} {b} {c} {d} r lt u less e =
      let p = range_laws keys ok r in
      let v = range_laws keys ok u in
      let q = split_laws keys ok a b (split keys a b) lt p.within refl in
      let w = split_laws keys ok c d (split keys c d) less v.within refl in
      let same : gap keys a b ≡ gap keys c d = omega (
        arith,
        q.middle,
        w.middle,
        ap (λ z. gap keys z (suc z)) e,
      ) in (
        elim (cases_order a c) [
          | inl z ↦ z
          | inr (inl h) ↦ absurd (omega (
            arith,
            v.before (omega arith),
            same,
            gap_mono keys ok a (c - 1) c b (omega arith) (omega arith) (omega (arith, e, q.high, w.low)) p.within,
          ))
          | inr (inr h) ↦ absurd (omega (
            arith,
            p.before (omega arith),
            same,
            gap_mono keys ok c (a - 1) a d (omega arith) (omega arith) (omega (arith, e, w.high, q.low)) v.within,
          ))
        ],
        elim (cases_order b d) [
          | inl z ↦ z
          | inr (inl h) ↦ absurd (omega (
            arith,
            p.after (omega (arith, v.within)),
            same,
            gap_mono keys ok c b (suc b) d (omega (arith, e, w.low, q.high)) (omega arith) (omega arith) v.within,
          ))
          | inr (inr h) ↦ absurd (omega (
            arith,
            v.after (omega (arith, p.within)),
            same,
            gap_mono keys ok a d (suc d) b (omega (arith, e, q.low, w.high)) (omega arith) (omega arith) p.within,
          ))
        ],
      )

  -- the row of a node with a range
  abbrev pub the_row : ℕ → ℕ → ℕ → Row
  the_row i a b = record { number = i; first = a; last = b; split = split keys a b }

  -- a row of the table with that split is that of the node
  pub row_by_split : {i a b : ℕ} → IsNode keys i a b → (r : Row) → Contains (rows 0 (shape_of keys)) r →
      r.split ≡ split keys a b → r ≡ the_row i a b
  row_by_split {i} {a} {b} d r c e =
      let h = row_in_any_tree keys ok r c in
      let same = one_split (range_of_node keys ok h.node) (proper keys ok h.node) (range_of_node keys ok d)
      (proper keys ok d) (sym h.split_is ∙ e) in
      let at_it : IsNode keys r.number a b = subst (λ z. IsNode keys r.number z b) same.0
      (subst (λ z. IsNode keys r.number r.first z) same.1 h.node) in
      let number : r.number ≡ i = one_number keys ok at_it d in
      row_parts r i a b (split keys a b) number same.0 same.1 e
    where
      row_parts : (r : Row) (i a b s : ℕ) → r.number ≡ i → r.first ≡ a → r.last ≡ b → r.split ≡ s →
          r ≡ record { number = i; first = a; last = b; split = s }
      row_parts r i a b s e f g h = rw (← e) (rw (← f) (rw (← g) (rw (← h) refl)))

  -- the row of a split is that of its node
  pub row_of_is : {i a b : ℕ} → IsNode keys i a b → row_of keys (split keys a b) ≡ the_row i a b
  unfolding row_of row_or
  row_of_is {i} {a} {b} d = ap row_or (find_the_only (λ r. r.split == split keys a b) (rows 0 (shape_of keys))
      (the_row i a b) (node_in_table keys ok d) (eq-eqb _ _ refl)
      (λ r c e. row_by_split d r c (eqb-true _ _ e)))
