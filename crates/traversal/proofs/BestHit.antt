-- The best hit, after looks at triangles one by one and in parts.
use Rattle.std.proofs.Common.{◌≡◌, ℕ, ◌<◌, ◌≤◌, ◌⊎◌, refl, sym, inl, inr, subst, List, length, Option, None, Some, IfSome, IsSome, IsSomeAnd}
use Rattle.fixed_box.specs.declared.shapes.Point.{Point}
use Rattle.fixed_box.specs.declared.shapes.Tri.{Tri}
use Rattle.segment_hit.specs.declared.fraction.Frac.{Frac}
use Rattle.segment_hit.specs.FractionOrder.{IsBelow}
use Rattle.segment_hit.specs.Meeting.{IsHit}
use Rattle.traversal.specs.Nearest.{triangle_of, IsMet, IsNearest}
use Rattle.traversal.specs.Nearing.{IsNoFarther, Nears}
use Rattle.traversal.proofs.HitOrder.{no_farther_refl, no_farther_trans, no_farther_at_most, no_farther_number}

-- a hit that is there is no farther than itself
kept_itself : (o : Option (ℕ × Frac)) (h : ℕ × Frac) → o ≡ Some h → IsSomeAnd o (λ k. IsNoFarther k h)
kept_itself o h e = subst (λ z. IsSomeAnd z (λ k. IsNoFarther k h)) (sym e) (no_farther_refl h)

-- what beats a hit goes on to beat it
carried : (middle after : Option (ℕ × Frac)) (x : ℕ × Frac) →
    ((h : ℕ × Frac) → middle ≡ Some h → IsSomeAnd after (λ k. IsNoFarther k h)) →
    IsSomeAnd middle (λ k. IsNoFarther k x) → IsSomeAnd after (λ k. IsNoFarther k x)
carried None after x kept h = absurd h
carried (Some m) None x kept h = absurd (kept m refl)
carried (Some m) (Some a) x kept h = no_farther_trans a m x (kept m refl) h

module _ (tris : List Tri) (p q : Point) where
  -- a look at no triangle that is met
  pub nears_none : (seen : ℕ → Type 0) (best : Option (ℕ × Frac)) →
      ((n : ℕ) (f : Frac) → seen n → IsHit p q (triangle_of tris n) f → ⊥) → Nears tris p q seen best best
  nears_none seen best missed = record {
    taken = own best;
    kept = λ h e. kept_itself best h e;
    beats = λ n f s hit. absurd (missed n f s hit);
  }
    where
      own : (o : Option (ℕ × Frac)) → IfSome o (λ h. (o ≡ Some h) ⊎ IsMet tris p q h.0 h.1)
      own None = tt
      own (Some h) = inl refl

  -- a look at triangles none of which is met as near as the best hit
  pub nears_far : (seen : ℕ → Type 0) (best : Option (ℕ × Frac)) →
      IsSomeAnd best (λ h. (n : ℕ) (f : Frac) → seen n → IsHit p q (triangle_of tris n) f → IsBelow h.1 f) →
      Nears tris p q seen best best
  nears_far seen None far = absurd far
  nears_far seen (Some h) far = record {
    taken = inl refl;
    kept = λ k e. kept_itself (Some h) k e;
    beats = λ n f s hit. inl (far n f s hit);
  }

  -- a look at some triangles and then at others
  pub nears_both : (first then all : ℕ → Type 0) (before middle after : Option (ℕ × Frac)) →
      ((n : ℕ) → all n → first n ⊎ then n) → Nears tris p q first before middle → Nears tris p q then middle after →
      Nears tris p q all before after
  nears_both first then all before middle after parts x y = record {
    taken = both after y.taken;
    kept = λ h e. carried middle after h y.kept (x.kept h e);
    beats = λ n f s hit. elim (parts n s) [
      | inl a ↦ carried middle after (n, f) y.kept (x.beats n f a hit)
      | inr b ↦ y.beats n f b hit
    ];
  }
    where
      one : (m : Option (ℕ × Frac)) (h : ℕ × Frac) → m ≡ Some h →
          IfSome m (λ k. (before ≡ Some k) ⊎ IsMet tris p q k.0 k.1) → (before ≡ Some h) ⊎ IsMet tris p q h.0 h.1
      one m h e t =
          subst (λ z. IfSome z (λ k. (before ≡ Some k) ⊎ IsMet tris p q k.0 k.1)) e t

      both : (o : Option (ℕ × Frac)) → IfSome o (λ h. (middle ≡ Some h) ⊎ IsMet tris p q h.0 h.1) →
          IfSome o (λ h. (before ≡ Some h) ⊎ IsMet tris p q h.0 h.1)
      both None t = tt
      both (Some h) t = elim t [ inl e ↦ one middle h e x.taken | inr met ↦ inr met ]

  -- a look at the same triangles, told otherwise
  pub nears_same : (seen told : ℕ → Type 0) (before after : Option (ℕ × Frac)) → ((n : ℕ) → told n → seen n) →
      Nears tris p q seen before after → Nears tris p q told before after
  nears_same seen told before after same x =
      record { taken = x.taken; kept = x.kept; beats = λ n f s hit. x.beats n f (same n s) hit }

  -- a look at one triangle that is met
  pub nears_met : (n : ℕ) (f : Frac) (best : Option (ℕ × Frac)) (h : ℕ × Frac) → 0 < n → n ≤ length tris →
      IsHit p q (triangle_of tris n) f →
      ((g : Frac) → IsHit p q (triangle_of tris n) g → g ≡ f) → (best ≡ Some h) ⊎ (h ≡ (n, f)) → IsNoFarther h (n, f) →
      ((k : ℕ × Frac) → best ≡ Some k → IsNoFarther h k) → Nears tris p q (λ m. m ≡ n) best (Some h)
  nears_met n f best h low high hit one taken nearer kept = record {
    taken = elim taken [
      | inl e ↦ inl e
      | inr e ↦ inr
          (subst (λ z. IsMet tris p q z.0 z.1) (sym e) (record { from_one = low; to_count = high; hit = hit }))
    ];
    kept = kept;
    beats = λ m g s met.
        let same : g ≡ f = one g (subst (λ z. IsHit p q (triangle_of tris z) g) s met) in
        subst (λ z. IsNoFarther h (z, g)) (sym s) (subst (λ z. IsNoFarther h (n, z)) (sym same) nearer);
  }

  -- after a look at all triangles the best hit is the nearest
  module _ (seen : ℕ → Type 0) (all : (n : ℕ) → 0 < n → n ≤ length tris → seen n) where
    -- it is nearer than all that are met, or as near with a lower number
    pub nearest_of_all : (after : Option (ℕ × Frac)) → Nears tris p q seen None after →
        IfSome after (λ h. IsNearest tris p q h.0 h.1)
    nearest_of_all None x = tt
    nearest_of_all (Some h) x = record {
      met = elim x.taken [ inl e ↦ absurd (cc) | inr met ↦ met ];
      least = λ m g other. no_farther_at_most h (m, g) (x.beats m g (all m other.from_one other.to_count) other.hit);
      lowest = λ m other. no_farther_number h.0 m h.1 (x.beats m h.1 (all m other.from_one other.to_count) other.hit);
    }

    -- and there is one where a triangle is met
    pub some_of_all : (after : Option (ℕ × Frac)) → Nears tris p q seen None after → (n : ℕ) (f : Frac) →
        IsMet tris p q n f → IsSome after
    some_of_all None x n f met = absurd (x.beats n f (all n met.from_one met.to_count) met.hit)
    some_of_all (Some h) x n f met = refl
