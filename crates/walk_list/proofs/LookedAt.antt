-- The better of two hits is from 0 to 1 of the way.
use Rattle.std.proofs.Common.{◌≡◌, ℕ, ◌⊎◌, ℤ, pos, ◌≤ℤ◌, inl, inr, sym, subst, Option, Some}
use Rattle.segment_hit.specs.declared.fraction.Frac.{Frac}
use Rattle.walk_list.specs.Reaches.{IsLimit, IsReach}

-- the best hit so far is from 0 to 1 of the way
reach_of : (whole : ℤ) (best : Option (ℕ × Frac)) (most : ℤ) (h : ℕ × Frac) → IsLimit whole best most → best ≡ Some h →
    IsReach whole h most
reach_of whole best most h limit e = subst (λ o. IsLimit whole o most) e limit

module _ (whole : ℤ) (best : Option (ℕ × Frac)) (most : ℤ) (number : ℕ) (at : Frac) (h : ℕ × Frac)
    (limit : IsLimit whole best most) where
  -- so the better of it and a new one is not before the beginning
  pub part_begun : (best ≡ Some h) ⊎ (h ≡ (number, at)) → pos 0 ≤ℤ at.num → pos 0 ≤ℤ h.1.num
  part_begun (inl e) k = (reach_of whole best most h limit e).begun
  part_begun (inr e) k = subst (λ (z : ℕ × Frac). pos 0 ≤ℤ z.1.num) (sym e) k

  -- nor behind the end
  pub part_ended : (best ≡ Some h) ⊎ (h ≡ (number, at)) → at.num ≤ℤ at.den → h.1.num ≤ℤ h.1.den
  part_ended (inl e) k = (reach_of whole best most h limit e).ended
  part_ended (inr e) k = subst (λ (z : ℕ × Frac). z.1.num ≤ℤ z.1.den) (sym e) k
