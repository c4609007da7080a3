use Rattle.std.proofs.Common.{◌≡◌, ℕ, suc, zero, ◌+◌, ◌-◌, ◌<◌, ◌≤◌, refl, sym, ap, ◌∙◌, arith, inl, inr, subst, List, [], ◌∷◌, ◌++◌, length, Some}
use Rattle.std.specs.Prelude.{◌==◌, Contains}
use Rattle.std.proofs.lemmas.Bool.{cases_eq, cases_lt, eq-eqb, cond-true}
use Rattle.std.proofs.lemmas.List.Elements.{Contains-append_left, Contains-append_right, Contains-append_cases}
use Rattle.morton_key.specs.declared.keys.Key.{Key}
use Rattle.morton_key.specs.Keys.{IsLawful}
use Rattle.radix_tree.specs.Split.{split}
use Rattle.radix_tree.specs.Ranges.{IsNode}
use Rattle.radix_tree.specs.Ranges.IsNode.{root, left_of, right_of}
use Rattle.radix_tree.specs.Shape.{grown, shape_in, shape_of, Row, rows, row_at}
use Rattle.radix_tree.specs.Shape.Shape.{leaf}
use Rattle.radix_tree.proofs.SplitLaws.{split_laws}
use Rattle.radix_tree.proofs.RangeLaws.{range_laws}
use Rattle.radix_tree.proofs.NumberLaws.{proper, range_of_node, one_range}
use Rattle.radix_tree.proofs.ShapeLaws.{grown-fork}
use Rattle.radix_tree.proofs.FoundRows.{same_row, find_only, found_in}

module _ (keys : List Key) (ok : IsLawful keys) where
  -- the row of a node with that range
  abbrev row_of : ℕ → ℕ → ℕ → Row
  row_of i a b = record { number = i; first = a; last = b; split = split keys a b }

  -- the rows of a range are its own, those of its left part and those of its right part
  rows-fork : (f i a b : ℕ) → a < b →
      rows i (grown keys (suc f) a b) ≡ row_of i a
      b ∷ (rows (split keys a b) (grown keys f a (split keys a b)) ++ rows (suc (split keys a b))
      (grown keys f (suc (split keys a b)) b))
  unfolding rows
  rows-fork f i a b lt = ap (rows i) (grown-fork keys ok f a b lt)

  -- the rows of the whole tree hold those of the tree below each node
  pub record InTable (i a b : ℕ) : Type 0 where
    pub fuel : ℕ
    pub enough : b ≤ a + suc fuel
    pub inside : (r : Row) → Contains (rows i (grown keys (suc fuel) a b)) r → Contains (rows 0 (shape_of keys)) r

  -- each node has its row in the table
  in_table : {i a b : ℕ} → IsNode keys i a b → InTable i a b
  unfolding shape_of shape_in
  in_table (root {b = b} lt e) =
      let fuel : suc (length keys - 2) ≡ length keys - 1 - 0 = omega arith in
      let last : b ≡ length keys - 1 = omega arith in
      record {
        fuel = length keys - 2;
        enough = omega arith;
        inside = λ r h. subst (λ f. Contains (rows 0 (grown keys f 0 (length keys - 1))) r) fuel
            (subst (λ z. Contains (rows 0 (grown keys (suc (length keys - 2)) 0 z)) r) last h);
      }
  in_table (left_of {i = i} {a = a} {b = b} {s = s} d e lt) = from_left i a b s e lt (proper keys ok d)
      (range_laws keys ok (range_of_node keys ok d)).within (in_table d)
    where
      from_left : (i a b s : ℕ) → split keys a b ≡ s → a < s → a < b → b < length keys → InTable i a b → InTable s a s
      from_left i a b s e lt proper within p = elim (cases_eq p.fuel 0) [
        | inl z ↦ absurd (omega (arith, p.enough, (split_laws keys ok a b s proper within e).high))
        | inr nz ↦ let f : ℕ = p.fuel - 1 in let e1 : suc f ≡ p.fuel = omega arith in
            record {
              fuel = f;
              enough = omega (arith, p.enough, (split_laws keys ok a b s proper within e).high);
              inside = λ r h. p.inside r (subst (λ xs. Contains xs r) (sym (rows-fork p.fuel i a b proper))
                  (Contains-append_right (row_of i a b ∷ []) _ r (Contains-append_left _ _ r
                  (subst (λ z. Contains (rows z (grown keys p.fuel a z)) r) (sym e)
                  (subst (λ g. Contains (rows s (grown keys g a s)) r) e1 h)))));
            }
      ]
  in_table (right_of {i = i} {a = a} {b = b} {s = s} d e lt) = from_right i a b s e lt (proper keys ok d)
      (range_laws keys ok (range_of_node keys ok d)).within (in_table d)
    where
      from_right : (i a b s : ℕ) → split keys a b ≡ s → suc s < b → a < b → b < length keys → InTable i a b →
          InTable (suc s) (suc s) b
      from_right i a b s e lt proper within p = elim (cases_eq p.fuel 0) [
        | inl z ↦ absurd (omega (arith, p.enough, (split_laws keys ok a b s proper within e).low))
        | inr nz ↦ let f : ℕ = p.fuel - 1 in let e1 : suc f ≡ p.fuel = omega arith in
            record {
              fuel = f;
              enough = omega (arith, p.enough, (split_laws keys ok a b s proper within e).low);
              inside = λ r h. p.inside r (subst (λ xs. Contains xs r) (sym (rows-fork p.fuel i a b proper))
                  (Contains-append_right (row_of i a b ∷ []) _ r (Contains-append_right _ _ r
                  (subst (λ z. Contains (rows (suc z) (grown keys p.fuel (suc z) b)) r) (sym e)
                  (subst (λ g. Contains (rows (suc s) (grown keys g (suc s) b)) r) e1 h)))));
            }
      ]

  -- each node stands in the table under its number
  pub node_in_table : {i a b : ℕ} → IsNode keys i a b → Contains (rows 0 (shape_of keys)) (row_of i a b)
  node_in_table {i} {a} {b} d = let p = in_table d in
      p.inside (row_of i a b)
      (subst (λ xs. Contains xs (row_of i a b)) (sym (rows-fork p.fuel i a b (proper keys ok d)))
      (0, omega arith, refl))

  -- and the table holds nothing else
  pub record Holds (r : Row) : Type 0 where
    pub node : IsNode keys r.number r.first r.last
    pub split_is : r.split ≡ split keys r.first r.last

  -- an empty list contains nothing
  pub empty_has_none : (r : Row) (Q : Type 0) → Contains [] r → Q
  empty_has_none r Q (k, lt, e) = absurd (omega arith)

  -- a list of one row contains that row alone
  one_has_one : (x r : Row) → Contains (x ∷ []) r → x ≡ r
  one_has_one x r (zero, lt, e) = e
  one_has_one x r (suc k, lt, e) = absurd (omega arith)

  -- a leaf has no row
  leaf_has_none : (i p : ℕ) (r : Row) → Contains (rows i (leaf p)) r → Holds r
  unfolding rows
  leaf_has_none i p r h = empty_has_none r (Holds r) h

  -- each row below a node is that of a node
  pub node_from_table : (f i a b : ℕ) → a ≤ b → b < length keys → (a < b → IsNode keys i a b) → (r : Row) →
      Contains (rows i (grown keys f a b)) r → Holds r
  unfolding grown
  node_from_table zero i a b le h d r c = leaf_has_none i a r c
  node_from_table (suc f) i a b le h d r c = elim (cases_eq a b) [
    | inl e ↦ leaf_has_none i a r (subst (λ x. Contains (rows i x) r) (cond-true (a == b) _ _ (eq-eqb a b e)) c)
    | inr ne ↦
        let lt : a < b = omega arith in
        let s : ℕ = split keys a b in
        let q = split_laws keys ok a b s lt h refl in
        let parts = subst (λ xs. Contains xs r) (rows-fork f i a b lt) c in
        elim (Contains-append_cases (row_of i a b ∷ []) _ r parts) [
          | inl here ↦ subst Holds (one_has_one (row_of i a b) r here) (record { node = d lt; split_is = refl })
          | inr below ↦ elim (Contains-append_cases _ _ r below) [
            | inl on_left ↦ node_from_table f s a s q.low (omega (arith, q.high)) (λ more. left_of (d lt) refl more) r
                on_left
            | inr on_right ↦ node_from_table f (suc s) (suc s) b q.high h (λ more. right_of (d lt) refl more) r
                on_right
          ]
        ]
  ]

  -- a tree over fewer than two keys has no row
  no_rows : length keys ≤ 1 → (r : Row) → Contains (rows 0 (shape_of keys)) r → ⊥
  unfolding shape_of shape_in grown rows
  no_rows few r c =
      let none : length keys - 1 - 0 ≡ 0 = omega arith in
      empty_has_none r ⊥ (subst (λ f. Contains (rows 0 (grown keys f 0 (length keys - 1))) r) none c)

  -- every row of the whole tree is a node's
  pub row_in_tree : 1 < length keys → (r : Row) → Contains (rows 0 (shape_of keys)) r → Holds r
  unfolding shape_of shape_in
  row_in_tree more r c = node_from_table (length keys - 1 - 0) 0 0 (length keys - 1) (omega arith) (omega arith)
      (λ lt. root lt (omega arith)) r c

  -- so is each row of the tree
  pub row_in_any_tree : (r : Row) → Contains (rows 0 (shape_of keys)) r → Holds r
  row_in_any_tree r c = elim (cases_lt 1 (length keys)) [
    | inl more ↦ row_in_tree more r c
    | inr few ↦ absurd (no_rows few r c)
  ]

  -- the row at a node's number is the node's
  pub row_at_is : {k a b : ℕ} → IsNode keys k a b → row_at keys k ≡ Some (row_of k a b)
  unfolding row_at
  row_at_is {k} {a} {b} d =
      find_only (rows 0 (shape_of keys)) k (row_of k a b) (node_in_table d) refl
      (λ r c e. only r c e)
    where
      more : 1 < length keys
      more = omega (arith, proper keys ok d, (range_laws keys ok (range_of_node keys ok d)).within)

      only : (r : Row) → Contains (rows 0 (shape_of keys)) r → r.number ≡ k → r ≡ row_of k a b
      only r c e =
          let h = row_in_tree more r c in
          let same = one_range keys ok (subst (λ z. IsNode keys z r.first r.last) e h.node) d in
          same_row r.number r.first r.last r.split k a b (split keys a b) e same.0 same.1
          (h.split_is ∙ (ap (λ z. split keys z r.last) same.0 ∙ ap (split keys a) same.1))

  -- and a row that the function gives is a node's
  pub node_from_row_at : (k : ℕ) (r : Row) → row_at keys k ≡ Some r → Holds r × (r.number ≡ k)
  unfolding row_at
  node_from_row_at k r h = let p = found_in (rows 0 (shape_of keys)) k r h in (row_in_any_tree r p.0, p.1)
