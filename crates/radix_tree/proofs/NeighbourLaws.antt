use Rattle.std.proofs.Common.{◌≡◌, List, length, ◌≢◌, ℕ, suc, ◌-◌, ◌<◌, ◌≤◌, sym, ap, ◌∙◌, arith, inl, inr, ◌⊎◌, subst}
use Rattle.std.proofs.lemmas.Bool.{cases_eq, cases_lt, cases_order}
use Rattle.morton_key.specs.declared.keys.Key.{Key}
use Rattle.morton_key.specs.Keys.{IsLawful}
use Rattle.morton_key.proofs.Tags.{gap}
use Rattle.morton_key.proofs.GapLaws.{gap_mono}
use Rattle.radix_tree.specs.Ranges.{IsNode}
use Rattle.radix_tree.proofs.RangeLaws.{range_laws}
use Rattle.radix_tree.proofs.NumberLaws.{proper, range_of_node, kind, node_at}

module _ (keys : List Key) (ok : IsLawful keys) where
  -- Karras's law: the range of a number is the longest that goes on from it towards its nearer neighbour with a smaller
  -- gap than that to the other
  pub is_first : (a b : ℕ) → a < b → b < length keys → (a ≡ 0 → suc b ≡ length keys) →
      (0 < a → gap keys a b < gap keys (a - 1) a) →
      (0 < a → suc b < length keys → gap keys (a - 1) a ≤ gap keys a (suc b)) → IsNode keys a a b
  is_first a b lt h top before after =
      let r = node_at keys ok a (omega arith) in
      let inside = (range_laws keys ok (range_of_node keys ok r.is_node)).within in
      let order = proper keys ok r.is_node in
      elim (kind keys ok r.is_node) [
        | inl k ↦
            let same_last : r.last ≡ b = elim (cases_order r.last b) [
              | inl e ↦ e
              | inr (inl shorter) ↦ absurd (elim (cases_eq a 0) [
                | inl z ↦ omega (arith, k.top (sym k.number ∙ z))
                | inr nz ↦ omega (
                  arith,
                  k.after (omega (arith, k.number)) (omega arith),
                  before (omega arith),
                  gap_first k.number,
                  gap_mono keys ok a r.last (suc r.last) b (omega arith) (omega arith) shorter h,
                )
              ])
              | inr (inr longer) ↦ absurd (elim (cases_eq a 0) [
                | inl z ↦ omega (arith, top z)
                | inr nz ↦ omega (
                  arith,
                  k.before (omega (arith, k.number)),
                  after (omega arith) (omega arith),
                  gap_first k.number,
                  ap (λ z. gap keys z r.last) k.number,
                  gap_mono keys ok a a (suc b) r.last (omega arith) (omega arith) longer inside,
                )
              ])
            ] in
            subst (λ z. IsNode keys a a z) same_last (subst (λ z. IsNode keys a z r.last) (sym k.number) r.is_node)
        | inr k ↦ absurd (
            let e1 : r.last ≡ a = sym k.number in
            let away : gap keys r.first a < gap keys a (suc a) = rw e1 at k.after in
            let here : r.first < a = rw e1 at order in
            omega (
              arith,
              before (omega arith),
              gap_mono keys ok r.first (a - 1) a a (omega arith) (omega arith) (omega arith) (omega arith),
              gap_mono keys ok a a (suc a) b (omega arith) (omega arith) lt h,
            ))
      ]
    where
      gap_first : {c : ℕ} → a ≡ c → gap keys (a - 1) a ≡ gap keys (c - 1) c
      gap_first e = ap (λ z. gap keys (z - 1) z) e

  -- the same at the other end
  pub is_last : (a b : ℕ) → a < b → suc b < length keys → gap keys a b < gap keys b (suc b) →
      (0 < a → gap keys b (suc b) ≤ gap keys (a - 1) b) → IsNode keys b a b
  is_last a b lt h after before =
      let r = node_at keys ok b h in
      let order = proper keys ok r.is_node in
      let inside = (range_laws keys ok (range_of_node keys ok r.is_node)).within in
      elim (kind keys ok r.is_node) [
        | inr k ↦
            let e1 : r.last ≡ b = sym k.number in
            let k_after : gap keys r.first b < gap keys b (suc b) = rw e1 at k.after in
            let k_before : 0 < r.first → gap keys b (suc b) < gap keys (r.first - 1) r.first = rw e1 at k.before in
            let k_order : r.first < b = rw e1 at order in
            let same_first : r.first ≡ a = elim (cases_order r.first a) [
              | inl e ↦ e
              | inr (inl longer) ↦
                  absurd (omega (
                    arith,
                    before (omega arith),
                    gap_mono keys ok r.first (a - 1) b b (omega arith) (omega arith) (omega arith) (omega arith),
                  ))
              | inr (inr shorter) ↦
                  absurd (omega (
                    arith,
                    k_before (omega arith),
                    gap_mono keys ok a (r.first - 1) r.first b (omega arith) (omega arith) (omega arith) (omega arith),
                  ))
            ] in
            subst (λ z. IsNode keys b a z) e1 (subst (λ z. IsNode keys b z r.last) same_first r.is_node)
        | inl k ↦ absurd (
            let e1 : r.first ≡ b = sym k.number in
            let here : b < r.last = rw e1 at order in
            let k_before : 0 < b → gap keys b r.last < gap keys (b - 1) b = rw e1 at k.before in
            omega (
              arith,
              k_before (omega arith),
              gap_mono keys ok a (b - 1) b b (omega arith) (omega arith) (omega arith) (omega arith),
              gap_mono keys ok b b (suc b) r.last (omega arith) (omega arith) here inside,
            ))
      ]

  -- the gaps to the two neighbours differ
  pub neighbours : (a : ℕ) → 0 < a → suc a < length keys → gap keys (a - 1) a ≢ gap keys a (suc a)
  neighbours a pos h same =
      let r = node_at keys ok a h in
      let ordered : r.first < r.last = proper keys ok r.is_node in
      let inside = (range_laws keys ok (range_of_node keys ok r.is_node)).within in
      elim (kind keys ok r.is_node) [
        | inl k ↦
            let e : r.first ≡ a = sym k.number in
            let order : a < r.last = rw e at ordered in
            let before : 0 < a → gap keys a r.last < gap keys (a - 1) a = rw e at k.before in
            omega (arith, before pos, gap_mono keys ok a a (suc a) r.last (omega arith) (omega arith) order inside)
        | inr k ↦
            let e : r.last ≡ a = sym k.number in
            let order : r.first < a = rw e at ordered in
            let after : gap keys r.first a < gap keys a (suc a) = rw e at k.after in
            omega (
              arith,
              after,
              gap_mono keys ok r.first (a - 1) a a (omega arith) (omega arith) (omega arith)
                  (omega arith),
            )
      ]

  -- a range of two or more positions is an inner node's where its ends share more than either does with its neighbour
  -- outside (`range_laws` is the other way)
  pub run_is_range : (a b : ℕ) → a < b → b < length keys → (0 < a → gap keys a b < gap keys (a - 1) a) →
      (suc b < length keys → gap keys a b < gap keys b (suc b)) → IsNode keys a a b ⊎ IsNode keys b a b
  run_is_range a b lt h before after = elim (cases_lt (suc b) (length keys)) [
    | inr all ↦ inl (is_first a b lt h (λ _. omega arith) before (λ _ more. absurd (omega arith)))
    | inl more ↦ elim (cases_eq a 0) [
      | inl z ↦ inr (is_last a b lt more (after more) (λ pos. absurd (omega arith)))
      | inr nz ↦ elim (cases_lt (gap keys b (suc b)) (gap keys (a - 1) a)) [
        | inl less ↦
            inr (is_last a b lt more (after more)
            (λ pos. omega (arith, gap_mono keys ok (a - 1) (a - 1) a b (omega arith) (omega arith) (omega arith) h)))
        | inr ge ↦ inl
            (is_first a b lt h (λ z. absurd (nz z)) before
            (λ pos _. omega (
              arith,
              ge,
              gap_mono keys ok a b (suc b) (suc b) (omega arith) (omega arith) (omega arith)
                  more,
            )))
      ]
    ]
  ]
