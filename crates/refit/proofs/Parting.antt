-- Positions parted at a split.
use Rattle.std.proofs.Common.{◌≡◌, ℕ, ◌+◌, ◌<◌, ◌≤◌, arith, subst, sym, List, length, take, drop, true, false}
use Rattle.std.proofs.Math.Dec.{leb}
use Rattle.std.specs.List.{AllWithin}
use Rattle.std.specs.List.Sorted.{IsNonDecreasing}
use Rattle.std.proofs.lemmas.Bool.{leb-true, leb-false}
use Rattle.std.proofs.lemmas.List.{take-append-drop, length-take, length-drop, get_or-take, get_or-drop}
use Rattle.std.proofs.lemmas.List.Elements.{All-from_get_or}
use Rattle.std.proofs.lemmas.List.Sorted.{IsNonDecreasingBy-take, IsNonDecreasingBy-drop}
use Rattle.refit.specs.Stale.{AreParted}

-- those before the first that is behind the split, and that one and all after it
pub parted_at : (moved : List ℕ) (s n : ℕ) → IsNonDecreasing moved →
    AllWithin (λ x. leb x s ≡ true) moved 0 n → AllWithin (λ x. leb x s ≡ false) moved n (length moved) →
    AreParted moved s (take n moved) (drop n moved)
parted_at moved s n rising front back = record {
  whole = take-append-drop n moved;
  upto = All-from_get_or (λ p. p ≤ s) (take n moved) 0 (λ i lt.
      let below : i < n = omega (arith, lt, length-take n moved) in
      subst (λ p. p ≤ s) (sym (get_or-take n moved i 0 below)) (leb-true _ _ (front i 0 (omega arith) below)));
  behind = All-from_get_or (λ p. s < p) (drop n moved) 0 (λ i lt.
      subst (λ p. s < p) (sym (get_or-drop n moved i 0))
      (leb-false _ _ (back (n + i) 0 (omega arith) (omega (arith, lt, length-drop n moved)))));
  near_rises = IsNonDecreasingBy-take (λ x. x) n moved rising;
  far_rises = IsNonDecreasingBy-drop (λ x. x) n moved rising;
}
