use Rattle.std.proofs.Common.{◌≡◌, List, length, ℕ, suc, zero, ◌+◌, ◌-◌, ◌<◌, ◌≤◌, refl, sym, ◌∙◌, arith, inl, inr, ◌⊎◌}
use Rattle.std.proofs.lemmas.Bool.{cases_eq, cases_lt, cases_order}
use Rattle.morton_key.specs.declared.keys.Key.{Key}
use Rattle.morton_key.specs.Keys.{IsLawful}
use Rattle.morton_key.proofs.Tags.{gap}
use Rattle.morton_key.proofs.GapLaws.{gap_mono}
use Rattle.radix_tree.specs.Split.{split}
use Rattle.radix_tree.specs.Ranges.{IsRange, IsNode}
use Rattle.radix_tree.specs.Ranges.IsRange.{whole, left, right}
use Rattle.radix_tree.specs.Ranges.IsNode.{root, left_of, right_of}
use Rattle.radix_tree.proofs.SplitLaws.{split_laws}
use Rattle.radix_tree.proofs.RangeLaws.{range_laws}

module _ (keys : List Key) (ok : IsLawful keys) where
  -- a node has two keys or more
  pub proper : {i a b : ℕ} → IsNode keys i a b → a < b
  proper (root lt e) = lt
  proper (left_of d e lt) = lt
  proper (right_of d e lt) = lt

  -- its range is one of the recursion
  pub range_of_node : {i a b : ℕ} → IsNode keys i a b → IsRange keys a b
  range_of_node (root lt e) = whole e
  range_of_node (left_of {a = a} {b = b} {s = s} d e lt) = left (range_of_node d) (proper d) e
  range_of_node (right_of {a = a} {b = b} {s = s} d e lt) = right (range_of_node d) (proper d) e

  -- a node that is numbered by its first position: the root, or a right child
  pub record IsFirst (i a b : ℕ) : Type 0 where
    pub number : i ≡ a
    pub top : a ≡ 0 → suc b ≡ length keys
    pub before : 0 < a → gap keys a b < gap keys (a - 1) a
    pub after : 0 < a → suc b < length keys → gap keys (a - 1) a < gap keys b (suc b)

  -- a node that is numbered by its last position: a left child
  pub record IsLast (i a b : ℕ) : Type 0 where
    pub number : i ≡ b
    pub inside : suc b < length keys
    pub after : gap keys a b < gap keys b (suc b)
    pub before : 0 < a → gap keys b (suc b) < gap keys (a - 1) a

  -- its number is the first or the last position of its range
  pub kind : {i a b : ℕ} → IsNode keys i a b → IsFirst i a b ⊎ IsLast i a b
  kind (root lt e) =
      inl (record {
        number = refl;
        top = λ h. e;
        before = λ h. absurd (omega arith);
        after = λ h. absurd (omega arith);
      })
  kind (left_of {a = a} {b = b} {s = s} d e lt) =
      let p = range_laws keys ok (range_of_node d) in
      let q = split_laws keys ok a b s (proper d) p.within e in
      inr (record {
        number = refl;
        inside = omega (arith, q.high, p.within);
        after = omega (arith, q.left_less, q.middle);
        before = λ h. omega (arith, q.middle, p.before h);
      })
  kind (right_of {a = a} {b = b} {s = s} d e lt) =
      let p = range_laws keys ok (range_of_node d) in
      let q = split_laws keys ok a b s (proper d) p.within e in
      let e1 : suc s - 1 ≡ s = omega arith in
      inl (record {
        number = refl;
        top = λ h. absurd (omega arith);
        before = λ h. rw e1 (omega (arith, q.right_less, q.middle));
        after = λ _ h. rw e1 (omega (arith, q.middle, p.after h));
      })

  -- some range has the number
  pub record Range (i : ℕ) : Type 0 where
    pub first : ℕ
    pub last : ℕ
    pub is_node : IsNode keys i first last

  -- below an inner node stand all numbers from its first to its last position but one: the last where it is numbered by
  -- the first, and the first else
  found : (f x a b i : ℕ) → b ≤ a + f → IsNode keys x a b → a ≤ i → i ≤ b → (x ≡ a → i < b) → (x ≡ b → a < i) →
      (x ≡ a) ⊎ (x ≡ b) → Range i
  found zero x a b i le d lo hi at_a at_b k = absurd (omega (arith, proper d))
  found (suc f) x a b i le d lo hi at_a at_b k = elim (cases_eq i x) [
    | inl e ↦ record { first = a; last = b; is_node = rw e d }
    | inr ne ↦
        let s : ℕ = split keys a b in
        let p = range_laws keys ok (range_of_node d) in
        let q = split_laws keys ok a b s (proper d) p.within refl in
        elim (cases_lt s i) [
          | inr le_s ↦ let more : a < i = elim k [ inl e ↦ omega arith | inr e ↦ at_b e ] in
              found f s a s i (omega (arith, q.high)) (left_of d refl (omega arith)) lo le_s (λ e. omega arith)
              (λ e. more) (inr refl)
          | inl lt_s ↦ let less : i < b = elim k [ inl e ↦ at_a e | inr e ↦ omega arith ] in
              found f (suc s) (suc s) b i (omega (arith, q.low)) (right_of d refl (omega arith)) lt_s (omega arith)
              (λ e. less) (λ e. omega arith) (inl refl)
        ]
  ]

  -- each number is that of a node
  pub node_at : (i : ℕ) → suc i < length keys → Range i
  node_at i h = let e : suc (length keys - 1) ≡ length keys = omega arith in
      found (length keys - 1) 0 0 (length keys - 1) i (omega arith) (root (omega arith) e) (omega arith) (omega arith)
      (λ _. omega arith) (λ z. absurd (omega arith)) (inl refl)

  -- each number has one range
  pub one_range : {i a b c d : ℕ} → IsNode keys i a b → IsNode keys i c d → (a ≡ c) × (b ≡ d)
  one_range {i} {a} {b} {c} {d} x y = elim (kind x) [
    | inl k ↦ elim (kind y) [
      | inl l ↦ (
        sym k.number ∙ l.number,
        elim (cases_order b d) [
          | inl e ↦ e
          | inr (inl lt) ↦ absurd (shorter i a b c d x y k l lt)
          | inr (inr lt) ↦ absurd (shorter i c d a b y x l k lt)
        ],
      )
      | inr l ↦ absurd (mixed i a b c d x y k l)
    ]
    | inr k ↦ elim (kind y) [
      | inl l ↦ absurd (mixed i c d a b y x l k)
      | inr l ↦ (
        elim (cases_order a c) [
          | inl e ↦ e
          | inr (inl lt) ↦ absurd (longer i a b c d x y k l lt)
          | inr (inr lt) ↦ absurd (longer i c d a b y x l k lt)
        ],
        sym k.number ∙ l.number,
      )
    ]
  ]
    where
      shorter : (i a b c d : ℕ) → IsNode keys i a b → IsNode keys i c d → IsFirst i a b → IsFirst i c d → b < d → ⊥
      shorter i a b c d x y k l lt =
          let e : a ≡ c = sym k.number ∙ l.number in
          let inside = (range_laws keys ok (range_of_node y)).within in
          let below : 0 < c → gap keys c d < gap keys (a - 1) a = rw e l.before in
          elim (cases_eq a 0) [
            | inl z ↦ omega (arith, k.top z)
            | inr nz ↦ omega (
              arith,
              k.after (omega arith) (omega arith),
              below (omega arith),
              gap_mono keys ok c b (suc b) d (omega (arith, proper x)) (omega arith) lt inside,
            )
          ]

      longer : (i a b c d : ℕ) → IsNode keys i a b → IsNode keys i c d → IsLast i a b → IsLast i c d → a < c → ⊥
      longer i a b c d x y k l lt =
          let e : d ≡ b = sym l.number ∙ k.number in
          let before : 0 < c → gap keys b (suc b) < gap keys (c - 1) c = rw e at l.before in
          omega (
            arith,
            before (omega arith),
            k.after,
            gap_mono keys ok a (c - 1) c b (omega arith) (omega arith) (omega (arith, proper y))
                (omega (arith, k.inside)),
          )

      mixed : (i a b c d : ℕ) → IsNode keys i a b → IsNode keys i c d → IsFirst i a b → IsLast i c d → ⊥
      mixed i a b c d x y k l =
          let e : d ≡ a = sym l.number ∙ k.number in
          let after : gap keys c a < gap keys a (suc a) = rw e at l.after in
          let ordered : c < d = proper y in
          let order : c < a = rw e at ordered in
          let inside = (range_laws keys ok (range_of_node x)).within in
          omega (
            arith,
            after,
            k.before (omega arith),
            gap_mono keys ok c (a - 1) a a (omega arith) (omega arith) (omega arith) (omega (arith, proper x)),
            gap_mono keys ok a a (suc a) b (omega arith) (omega arith) (proper x) inside,
          )
