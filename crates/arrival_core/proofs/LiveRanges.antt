-- Whether some live position lies in a range, from the first one that is not below it.
use Rattle.std.proofs.Common.{◌≡◌, ℕ, ◌<◌, true, false, refl, sym, ◌∙◌, arith, inl, inr, List, length, get_or}
use Rattle.std.specs.Prelude.{◌&&◌, nat_le, nat_lt, AllPairs}
use Rattle.std.specs.List.Sorted.{IsNonDecreasingBy, IsPartitionPoint}
use Rattle.std.proofs.lemmas.Bool.{cases_lt, cases_eq, le-leb, lt-leb, ltb-true, ltb-false}
use Rattle.std.proofs.lemmas.List.{get_or_default}
use Rattle.std.proofs.lemmas.List.Folds.{list_any_at, list_any_none}
use Rattle.arrival_core.specs.Settings.{live_in}
use Rattle.std.proofs.Common.{◌≡◌, ℕ, ◌<◌, ◌≤◌, refl, sym, ◌∙◌, arith, inl, inr, subst, List, [], ◌∷◌, length, Bool, true, false}
use Rattle.std.specs.Prelude.{◌&&◌, ◌||◌, nat_le}
use Rattle.std.specs.List.{list_any}
use Rattle.std.proofs.lemmas.Bool.{cases_eq, cases_Bool, le-leb, leb-true, and_parts}
use Rattle.std.proofs.Common.{get_or}

-- positions that rise do not fall
pub rising_sorted : (live : List ℕ) → AllPairs (λ p q. p < q) live → IsNonDecreasingBy (λ q. q) live
rising_sorted live rising i j d le lt = elim (cases_eq i j) [
  | inl e ↦ rw e (omega arith)
  | inr ne ↦ let less : get_or live i d < get_or live j d = rising i j d (omega arith) lt in omega (arith, less)
]

module _ (live : List ℕ) (a b at : ℕ) (rising : AllPairs (λ p q. p < q) live)
    (point : IsPartitionPoint (λ q. nat_lt q a ≡ true) (λ q. nat_lt q a ≡ false) live at) where
  -- where all are below the range, none lies in it
  pub live_none : at ≡ length live → false ≡ live_in live a b
  unfolding live_in
  live_none e = sym (list_any_none (λ q. nat_le a q && nat_le q b) live (λ k d lt.
      let low = ltb-true (get_or live k d) a (point.0 k d (omega arith) (omega (arith, e, lt))) in
      rw (lt-leb a (get_or live k d) low) refl))

  -- else the first that is not below it tells
  pub live_first : at < length live → nat_le (get_or live at 0) b ≡ live_in live a b
  unfolding live_in
  live_first inside = elim (cases_lt b (get_or live at 0)) [
    | inr le ↦ le-leb (get_or live at 0) b (omega (arith, le))
        ∙ sym (list_any_at (λ q. nat_le a q && nat_le q b) live at 0 inside
        (rw (le-leb a (get_or live at 0) (ltb-false (get_or live at 0) a (point.1 at 0 (omega arith) inside)))
        (le-leb (get_or live at 0) b (omega (arith, le)))))
    | inl high ↦ lt-leb (get_or live at 0) b high
        ∙ sym (list_any_none (λ q. nat_le a q && nat_le q b) live (λ k d lt. elim (cases_lt k at) [
          | inl less ↦
              rw (lt-leb a (get_or live k d) (ltb-true (get_or live k d) a (point.0 k d (omega arith) less))) refl
          | inr more ↦
              let least = rising_sorted live rising at k 0 more lt in
              let same = get_or_default live k d 0 lt in
              rw (le-leb a (get_or live k d) (ltb-false (get_or live k d) a (point.1 k d more lt)))
              (lt-leb (get_or live k d) b (omega (arith, least, same, high)))
        ]))
  ]

-- a live position in a part of a range is one of the range
pub live_wider : (xs : List ℕ) (a b c d : ℕ) → a ≤ c → d ≤ b → live_in xs a b ≡ false → live_in xs c d ≡ false
unfolding live_in
live_wider [] a b c d low high h = refl
live_wider (x ∷ xs) a b c d low high h =
    let here = or_off (nat_le a x && nat_le x b) (list_any (λ q. nat_le a q && nat_le q b) xs) h in
    let rest = live_wider xs a b c d low high here.1 in
    let off : (nat_le c x && nat_le x d) ≡ false = elim (cases_Bool (nat_le c x && nat_le x d)) [
      | inr z ↦ z
      | inl z ↦
          let parts = and_parts (nat_le c x) (nat_le x d) z in
          let p : c ≤ x = leb-true c x parts.0 in
          let q : x ≤ d = leb-true x d parts.1 in
          let e : nat_le a x ≡ true = le-leb a x (omega arith) in
          let g : nat_le x b ≡ true = le-leb x b (omega arith) in
          let wrong : (true && true) ≡ false = subst (λ v. (v && true) ≡ false) e
          (subst (λ v. (nat_le a x && v) ≡ false) g here.0) in
          cc
    ] in
    rw off rest
  where
    or_off : (u v : Bool) → (u || v) ≡ false → (u ≡ false) × (v ≡ false)
    or_off true v e = cc
    or_off false v e = (refl, e)
