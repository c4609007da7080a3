-- Which positions are live, where a list of them rises.
use Rattle.std.proofs.Common.{◌≡◌, ℕ, ◌<◌, ◌≤◌, ◌⊎◌, ◌∙◌, inl, inr, sym, ap, arith, subst, List, All, get_or, leb, true, false, ◌&&◌}
use Rattle.std.specs.Prelude.{Contains}
use Rattle.std.specs.List.{AllPairs}
use Rattle.std.specs.List.Sorted.{IsNonDecreasing}
use Rattle.std.proofs.lemmas.Bool.{le-leb, lt-leb, cases_lt}
use Rattle.std.proofs.lemmas.List.Folds.{list_any_at, list_any_none}
use Rattle.std.proofs.lemmas.List.Elements.{All-weaker, at_from_Contains}
use Rattle.arrival_core.specs.Settings.{live_in}

-- a position of the list is live
pub listed_live : (live : List ℕ) (p : ℕ) → Contains live p → live_in live p p ≡ true
unfolding live_in
listed_live live p listed =
    let at = at_from_Contains live p listed in
    let here : leb p p ≡ true = le-leb p p (omega arith) in
    let both : (leb p p && leb p p) ≡ true = ap (λ b. b && leb p p) here ∙ here in
    list_any_at (λ q. leb p q && leb q p) live at.0 0 at.1
    (subst (λ q. (leb p q && leb q p) ≡ true) (sym (at.2 0)) both)

-- where none of the list is in a range no position there is
pub outside_still : (live : List ℕ) (a b p : ℕ) → All (λ q. (q < a) ⊎ (b < q)) live → a ≤ p → p ≤ b →
    live_in live p p ≡ false
unfolding live_in
outside_still live a b p outside low high =
    list_any_none (λ q. leb p q && leb q p) live
    (All-weaker (λ q. (q < a) ⊎ (b < q)) (λ q. (leb p q && leb q p) ≡ false) (λ q side. elim side [
      | inl before ↦ ap (λ t. t && leb q p) (lt-leb p q (omega (arith, before, low)))
      | inr behind ↦
          ap (λ t. t && leb q p) (le-leb p q (omega (arith, behind, high))) ∙ lt-leb q p (omega (arith, behind, high))
    ]) live outside)

-- a list that rises does not fall
pub not_falling : (live : List ℕ) → AllPairs (λ p q. p < q) live → IsNonDecreasing live
not_falling live rising i j d le lt = elim (cases_lt i j) [
  | inl before ↦ let under = rising i j d before lt in omega (arith, under)
  | inr same ↦
      let here : i ≡ j = omega (arith, le, same) in
      let is = ap (λ k. get_or live k d) here in
      omega (arith, is)
]
