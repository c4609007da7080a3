-- An axis whose parts are known is that of its way.
use Rattle.std.proofs.Common.{◌≡◌, ◌∙◌, ℤ, pos, ◌+ℤ◌, ◌-ℤ◌, ◌*ℤ◌, ◌<ℤ◌, arith, ap, refl, inl, inr, true, false}
use Rattle.std.proofs.lemmas.Int.{ints}
use Rattle.segment_hit.specs.declared.line.Axis.{Axis}
use Rattle.segment_hit.specs.Lines.{IsWay, IsAxisOf, entry_of, exit_of}
use Rattle.segment_hit.proofs.LineWays.{rising, falling, resting}

-- where an axis with known parts enters and leaves a slab
module _ (a : Axis) (lo hi from scale slack : ℤ) (at : a.from ≡ from) (scale_is : a.scale ≡ scale)
    (slack_is : a.slack ≡ slack) where
  -- where the axis rises
  pub ends_up : a.rises ≡ true →
      (entry_of a lo hi ≡ (lo -ℤ from) *ℤ scale) × (exit_of a lo hi ≡ (hi -ℤ from) *ℤ scale +ℤ slack)
  unfolding entry_of exit_of
  ends_up up = (rw (up, at, scale_is) refl, rw (up, at, scale_is, slack_is) refl)

  -- where it falls
  pub ends_down : a.rises ≡ false →
      (entry_of a lo hi ≡ (from -ℤ hi) *ℤ scale) × (exit_of a lo hi ≡ (from -ℤ lo) *ℤ scale +ℤ slack)
  unfolding entry_of exit_of
  ends_down down = (rw (down, at, scale_is) refl, rw (down, at, scale_is, slack_is) refl)

-- no slack adds nothing
no_more : (z : ℤ) → z +ℤ pos 0 ≡ z
no_more z = omega (arith, ints)

-- once a number is that number
once : (z : ℤ) → pos 1 *ℤ z ≡ z
once z = omega (arith, ints)

-- of two numbers one alone is less, or they are equal
module _ (x y : ℤ) where
  -- not both ways
  not_both : x <ℤ y → y <ℤ x → ⊥
  not_both h k = omega (arith, ints)

  -- nor less and equal
  not_equal : x <ℤ y → x ≡ y → ⊥
  not_equal h k = omega (arith, ints)

  -- nor greater and equal
  not_greater : y <ℤ x → x ≡ y → ⊥
  not_greater h k = omega (arith, ints)

module _ (a : Axis) (from to way others whole : ℤ) (at : a.from ≡ from) (is_way : IsWay from to way)
    (above : pos 0 <ℤ others) (is : whole ≡ way *ℤ others) where
  -- an axis that rises by the whole way over the others
  pub axis_rising : from <ℤ to → a.rises ≡ true → a.scale ≡ others → a.slack ≡ pos 0 → IsAxisOf from to whole a
  axis_rising lt up scale slack lo hi T E part =
      let ends = ends_up a lo hi from others (pos 0) at scale slack up in
      let exit = ends.1 ∙ no_more ((hi -ℤ from) *ℤ others) in
      let long : whole ≡ (to -ℤ from) *ℤ others = is ∙ ap (λ w. w *ℤ others) (own is_way) in
      rw (ends.0, exit, long) (rising from to lo hi others T E above)
    where
      own : IsWay from to way → way ≡ to -ℤ from
      own (inl h) = h.1
      own (inr (inl h)) = absurd (not_both from to lt h.0)
      own (inr (inr h)) = absurd (not_equal from to lt h.0)

  -- one that falls by it
  pub axis_falling : to <ℤ from → a.rises ≡ false → a.scale ≡ others → a.slack ≡ pos 0 → IsAxisOf from to whole a
  axis_falling lt down scale slack lo hi T E part =
      let ends = ends_down a lo hi from others (pos 0) at scale slack down in
      let exit = ends.1 ∙ no_more ((from -ℤ lo) *ℤ others) in
      let long : whole ≡ (from -ℤ to) *ℤ others = is ∙ ap (λ w. w *ℤ others) (own is_way) in
      rw (ends.0, exit, long) (falling from to lo hi others T E above)
    where
      own : IsWay from to way → way ≡ from -ℤ to
      own (inl h) = absurd (not_both from to h.0 lt)
      own (inr (inl h)) = h.1
      own (inr (inr h)) = absurd (not_greater from to lt h.0)

  -- one that rests, and is doubled so that its slack counts once
  pub axis_resting : from ≡ to → a.rises ≡ true → a.scale ≡ pos 2 *ℤ others → a.slack ≡ others →
      IsAxisOf from to whole a
  axis_resting same up scale slack lo hi T E part =
      let ends = ends_up a lo hi from (pos 2 *ℤ others) others at scale slack up in
      let long : whole ≡ others = is ∙ (ap (λ w. w *ℤ others) (own is_way) ∙ once others) in
      rw (ends.0, ends.1, long) (resting from to lo hi others T E same above part)
    where
      own : IsWay from to way → way ≡ pos 1
      own (inl h) = absurd (not_equal from to h.0 same)
      own (inr (inl h)) = absurd (not_greater from to h.0 same)
      own (inr (inr h)) = h.1
