use Rattle.std.proofs.Common.{ℕ, ◌+◌, ◌<◌, sym, arith, inl, inr, subst, List, length, set}
use Rattle.std.proofs.lemmas.List.{get_or-set_same, get_or-set_other}
use Rattle.std.proofs.lemmas.Bool.{cases_eq}
use Rattle.morton_key.specs.declared.keys.Key.{Key}
use Rattle.karras_build.specs.declared.ranges.Span.{Span}
use Rattle.karras_build.specs.Spans.{span_at, IsSpan}

-- the first spans of a list are those of their numbers
pub record AreBegun (keys : List Key) (spans : List Span) (count : ℕ) : Type 0 where
  pub each : (k : ℕ) → k < count → IsSpan keys k (span_at spans k)

-- one more is written
pub one_more : (keys : List Key) (spans : List Span) (k : ℕ) (x : Span) → k < length spans → AreBegun keys spans k →
    IsSpan keys k x → AreBegun keys (set spans k x) (k + 1)
unfolding span_at
one_more keys spans k x lt b r = record {
  each = λ j. λ below. elim (cases_eq j k) [
    | inl e ↦ subst (λ z. IsSpan keys z (span_at (set spans k x) z)) (sym e)
        (subst (λ y. IsSpan keys k y) (sym (get_or-set_same spans k x _ lt)) r)
    | inr ne ↦ subst (λ y. IsSpan keys j y) (sym (get_or-set_other spans k j x _ ne)) (b.each j (omega arith))
  ];
}
