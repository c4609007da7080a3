use Rattle.std.proofs.Common.{◌≡◌, ◌≢◌, ℕ, suc, zero, ◌<◌, ◌≤◌, refl, ap, arith, inl, inr}
use Rattle.std.specs.Prelude.{◌==◌, if◌then◌else◌}
use Rattle.std.specs.Int.{bit_at}
use Rattle.std.proofs.lemmas.Bool.{cond_both, eqb-true, eqb-false, cases_eq}
use Rattle.radix_tree.specs.Split.{last_clear}

-- what the last position with a clear bit says
pub record LastClear (t : ℕ → ℕ) (k a b s : ℕ) : Type 0 where
  pub low : a ≤ s
  pub high : s ≤ b
  pub clear : bit_at (t s) k ≡ 0
  pub set_after : (p : ℕ) → s < p → p ≤ b → bit_at (t p) k ≢ 0

-- the search back from the end finds it
pub last_clear_is : (t : ℕ → ℕ) (k a b : ℕ) → a ≤ b → bit_at (t a) k ≡ 0 → LastClear t k a b (last_clear t k b)
unfolding last_clear
last_clear_is t k a zero le clear =
    record {
      low = le;
      high = omega arith;
      clear = (let e : a ≡ 0 = omega arith in rw e at clear);
      set_after = λ p. λ h g. absurd (omega arith);
    }
last_clear_is t k a (suc b) le clear = cond_both (bit_at (t (suc b)) k == 0) (suc b) (last_clear t k b)
    (λ s. LastClear t k a (suc b) s)
    (λ e. record {
      low = le;
      high = omega arith;
      clear = eqb-true _ _ e;
      set_after = λ p. λ h g. absurd (omega arith);
    })
    (λ e. let ne : a ≢ suc b = λ eq. eqb-false _ _ e (rw eq at clear) in
    let h = last_clear_is t k a b (omega arith) clear in
    record {
      low = h.low;
      high = omega (arith, h.high);
      clear = h.clear;
      set_after = λ p. λ lo hi. elim (cases_eq p (suc b)) [
        | inl eq ↦ rw eq (eqb-false _ _ e)
        | inr ne ↦ h.set_after p lo (omega arith)
      ];
    })

-- the last position with a clear bit is fixed by the bits of the positions that are looked at
pub last_clear_same : (t u : ℕ → ℕ) (k l b : ℕ) → ((p : ℕ) → p ≤ b → bit_at (t p) k ≡ bit_at (u p) l) →
    last_clear t k b ≡ last_clear u l b
unfolding last_clear
last_clear_same t u k l zero f = refl
last_clear_same t u k l (suc b) f =
    rw (f (suc b) (omega arith))
    (ap (λ z. if bit_at (u (suc b)) l == 0 then suc b else z) (last_clear_same t u k l b (λ p h. f p (omega arith))))
