-- Which sides are opened for a child that has a slot, and which for one that has none.
use Rattle.std.proofs.Common.{◌≡◌, ◌≢◌, ℕ, ◌+◌, ◌≤◌, ⊎_elim, Bool, true, false, sym, refl, ap, ◌∙◌, arith}
use Rattle.std.specs.Prelude.{◌&&◌, not}
use Rattle.std.proofs.lemmas.Bool.{cases_Bool}
use Rattle.arrival_core.specs.declared.packets.Side.{Side}
use Rattle.arrival_core.specs.declared.packets.Side.TheVariants.{Left, Right}
use Rattle.arrival_core.specs.Frames.{Frame}
use Rattle.arrival_core.specs.Events.{put_side, same}
use Rattle.arrival_core.proofs.PutLaws.{put_side-same, put_side-apart, same-node, same-side}
use Rattle.box_handoff.specs.LiveNodes.{slotted}
use Rattle.box_handoff.specs.Rule.{side_no, opened_bit, by_slot, by_word}

-- of the sides that pass a test, one more is set
among_more : (q bits : ℕ → Side → Bool) (s : ℕ) (d : Side) → q s d ≡ true → (t : ℕ) (e : Side) →
    (put_side bits s d true t e && q t e) ≡ put_side (λ t e. bits t e && q t e) s d true t e
among_more q bits s d on t e = ⊎_elim
    (λ (is : same s d t e ≡ true). ap (λ (b : Bool). b && q t e) (put_side-same bits s d true t e is)
    ∙ sym (ap (λ (x : ℕ). q x d) (same-node s d t e is) ∙ ap (q t) (same-side s d t e is)) ∙ on
    ∙ sym (put_side-same (λ t e. bits t e && q t e) s d true t e is))
    (λ (off : same s d t e ≡ false). ap (λ (b : Bool). b && q t e) (put_side-apart bits s d true t e off)
    ∙ sym (put_side-apart (λ t e. bits t e && q t e) s d true t e off)) (cases_Bool (same s d t e))

-- nothing passes that did not
and_false : (b : Bool) → (b && false) ≡ false
and_false true = refl
and_false false = refl

-- those that pass a test are as before, where the one that is set does not
among_same : (q bits : ℕ → Side → Bool) (s : ℕ) (d : Side) → q s d ≡ false → (t : ℕ) (e : Side) →
    (put_side bits s d true t e && q t e) ≡ (bits t e && q t e)
among_same q bits s d off t e = ⊎_elim
    (λ (is : same s d t e ≡ true).
    let none : q t e ≡ false = sym (ap (λ (x : ℕ). q x d) (same-node s d t e is) ∙ ap (q t) (same-side s d t e is))
    ∙ off in
    ap (λ (b : Bool). put_side bits s d true t e && b) none ∙ and_false (put_side bits s d true t e)
    ∙ sym (ap (λ (b : Bool). bits t e && b) none ∙ and_false (bits t e)))
    (λ (apart : same s d t e ≡ false). ap (λ (b : Bool). b && q t e) (put_side-apart bits s d true t e apart))
    (cases_Bool (same s d t e))

-- the bit that is set where a side is opened is none of the others
pub opened_apart : (b : Bool) (d : Side) (k : ℕ) → 2 ≤ k → k ≤ 6 → k ≢ opened_bit b + side_no d
opened_apart true Left k low high e = omega (arith, e)
opened_apart true Right k low high e = omega (arith, e)
opened_apart false Left k low high e = omega (arith, e)
opened_apart false Right k low high e = omega (arith, e)

module _ (f : Frame) (bits : ℕ → Side → Bool) (s : ℕ) (d : Side) where
  -- a side is opened for a child that has a slot
  pub slot_more : slotted f s d ≡ true → (t : ℕ) (e : Side) →
      by_slot f (put_side bits s d true) t e ≡ put_side (by_slot f bits) s d true t e
  slot_more on = among_more (slotted f) bits s d on

  -- then those for one that has none are as before
  pub word_same : slotted f s d ≡ true → (t : ℕ) (e : Side) →
      by_word f (put_side bits s d true) t e ≡ by_word f bits t e
  word_same on = among_same (λ t e. not (slotted f t e)) bits s d (ap not on)

  -- a side is opened for a child that has none
  pub word_more : slotted f s d ≡ false → (t : ℕ) (e : Side) →
      by_word f (put_side bits s d true) t e ≡ put_side (by_word f bits) s d true t e
  word_more off = among_more (λ t e. not (slotted f t e)) bits s d (ap not off)

  -- then those for one that has a slot are as before
  pub slot_same : slotted f s d ≡ false → (t : ℕ) (e : Side) →
      by_slot f (put_side bits s d true) t e ≡ by_slot f bits t e
  slot_same off = among_same (slotted f) bits s d off
