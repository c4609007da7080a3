-- The ends of nodes listed by split, from their spans.
use Rattle.std.proofs.Common.{◌≡◌, ℕ, suc, ◌+◌, ◌<◌, ◌≤◌, List, length, set, get_or, ◌∙◌, sym, subst, arith}
use Rattle.std.proofs.lemmas.List.{get_or_default}
use Rattle.std.proofs.Math.ListN.{length-set}
use Rattle.morton_key.specs.declared.keys.Key.{Key}
use Rattle.morton_key.specs.Keys.{IsLawful}
use Rattle.radix_tree.specs.Ranges.{IsRange, right}
use Rattle.radix_tree.proofs.NumberLaws.{range_of_node, proper}
use Rattle.radix_tree.proofs.NodeLaws.{node_within, split_high}
use Rattle.box_handoff.specs.Ends.{AreEnds}
use Rattle.box_handoff.proofs.EndLaws.{filled, all_filled}
use Rattle.karras_build.specs.declared.ranges.Span.{Span}
use Rattle.karras_build.specs.Spans.{span_at, IsSpan, AreSpans}
use Rattle.karras_build.specs.Linking.{IsLinked}

-- the span at a number is that of the number
pub span_is : (keys : List Key) (spans : List Span) (i : ℕ) (d : Span) → AreSpans keys spans → i < length spans →
    IsSpan keys i (get_or spans i d)
unfolding span_at
span_is keys spans i d are lt = subst (λ y. IsSpan keys i y) (sym (get_or_default spans i d _ lt)) (are.each i lt)

-- its split is a place of a list as long
pub split_fits : (keys : List Key) → IsLawful keys → (spans : List Span) (i : ℕ) (d : Span) (count : ℕ) →
    AreSpans keys spans → i < length spans → count ≡ length spans → (get_or spans i d).split < count
split_fits keys ok spans i d count are lt same =
    let s = span_is keys spans i d are lt in
    omega (arith, s.part, split_high keys ok s.range, node_within keys ok s.range, are.count, same)

-- before the first span nothing is listed
pub none_linked : (spans : List Span) (first last : List ℕ) → length first ≡ length spans → length last ≡ length spans →
    IsLinked spans first last 0
none_linked spans first last a b = record {
  firsts = a;
  lasts = b;
  below = λ keys ok are. record {
    firsts = a ∙ are.count;
    lasts = b ∙ are.count;
    first_is = λ s lt low. absurd (omega arith);
    last_is = λ s lt low. absurd (omega arith);
  };
}

-- one span more
pub one_linked : (spans : List Span) (first last : List ℕ) (i : ℕ) (d : Span) → i < length spans →
    IsLinked spans first last i → let x : Span = get_or spans i d in
    IsLinked spans (set first x.split x.first) (set last x.split x.last) (i + 1)
one_linked spans first last i d lt was = let x : Span = get_or spans i d in record {
  firsts = length-set first x.split x.first ∙ was.firsts;
  lasts = length-set last x.split x.last ∙ was.lasts;
  below = λ keys ok are.
      let s = span_is keys spans i d are lt in
      filled keys ok first last i x.first x.last x.split (was.below keys ok are) s.range s.part;
}

-- all spans
pub all_linked : (spans : List Span) (first last : List ℕ) (i : ℕ) → IsLinked spans first last i → length spans ≤ i →
    (keys : List Key) → IsLawful keys → AreSpans keys spans → AreEnds keys first last
all_linked spans first last i was le keys ok are =
    all_filled keys ok first last i (was.below keys ok are) (omega (arith, are.count, le))

-- the same of lists that have been moved
pub moved : (keys : List Key) (a b c d : List ℕ) → a ≡ c → b ≡ d → AreEnds keys c d → AreEnds keys a b
moved keys a b c d e f h =
    subst (λ x. AreEnds keys x b) (sym e) (subst (λ x. AreEnds keys c x) (sym f) h)

-- the range of a right child, by its parent's span
pub right_range : (keys : List Key) → IsLawful keys → (spans : List Span) (i : ℕ) (d : Span) → AreSpans keys spans →
    i < length spans → IsRange keys ((get_or spans i d).split + 1) (get_or spans i d).last
right_range keys ok spans i d are lt =
    let s = span_is keys spans i d are lt in
    let e : suc (get_or spans i d).split ≡ (get_or spans i d).split + 1 = omega arith in
    subst (λ n. IsRange keys n (get_or spans i d).last) e
    (right (range_of_node keys ok s.range) (proper keys ok s.range) (sym s.part))
