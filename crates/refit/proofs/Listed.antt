-- A list of positions while it is made.
use Rattle.std.proofs.Common.{◌≡◌, ℕ, ◌+◌, ◌<◌, sym, arith, inl, inr, subst, List, [], ◌∷◌, ◌++◌, Bool, true, false, ◌↔◌}
use Rattle.std.specs.Prelude.{Contains, IsTrue}
use Rattle.std.proofs.lemmas.Bool.{cases_lt}
use Rattle.std.proofs.lemmas.List.Quantifiers.{all_pairs_push}
use Rattle.std.proofs.lemmas.List.Elements.{All-nil, All-push, All-weaker, All-get_or, Contains-append_left, Contains-push}
use Rattle.refit.specs.Listing.{ListsBut}

-- what a test tells of a fact
pub told_false : {P : Type 0} (b : Bool) → (IsTrue b ↔ P) → b ≡ false → P → ⊥
told_false b h e p =
    let t : b ≡ true = h.1 p in
    cc

module _ (P : ℕ → Type 0) where
  -- none yet
  pub lists_none : (list : List ℕ) → list ≡ [] → ListsBut P 0 list
  lists_none list e = subst (ListsBut P 0) (sym e) (record {
    rising = λ i j d before lt. absurd (omega arith);
    below = All-nil (λ p. p < 0);
    alone = All-nil (λ p. P p → ⊥);
    each = λ p lt. absurd (omega arith);
  })

  module _ (upto : ℕ) (list : List ℕ) (so_far : ListsBut P upto list) where
    -- one of which it does not hold
    pub lists_one : (P upto → ⊥) → ListsBut P (upto + 1) (list ++ upto ∷ [])
    lists_one fails = record {
      rising = all_pairs_push (λ p q. p < q) list upto so_far.rising
          (λ k d lt. All-get_or (λ p. p < upto) list k d lt so_far.below);
      below = All-push (λ p. p < upto + 1) list upto
          (All-weaker (λ p. p < upto) (λ p. p < upto + 1) (λ p lt. omega arith) list so_far.below) (omega arith);
      alone = All-push (λ p. P p → ⊥) list upto so_far.alone fails;
      each = λ p lt. elim (cases_lt p upto) [
        | inl before ↦ elim (so_far.each p before) [
          | inl listed ↦ inl (Contains-append_left list (upto ∷ []) p listed)
          | inr holds ↦ inr holds
        ]
        | inr here ↦
            let is : upto ≡ p = omega arith in
            inl (subst (Contains (list ++ upto ∷ [])) is (Contains-push list upto))
      ];
    }

    -- and one of which it does
    pub lists_same : P upto → ListsBut P (upto + 1) list
    lists_same here = record {
      rising = so_far.rising;
      below = All-weaker (λ p. p < upto) (λ p. p < upto + 1) (λ p lt. omega arith) list so_far.below;
      alone = so_far.alone;
      each = λ p lt. elim (cases_lt p upto) [
        | inl before ↦ so_far.each p before
        | inr last ↦
            let is : upto ≡ p = omega arith in
            inr (subst P is here)
      ];
    }
