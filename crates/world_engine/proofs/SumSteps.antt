-- The sums of replies, one reply more.
use Rattle.std.proofs.Common.{◌≡◌, ◌<◌, ◌≤◌, ◌+◌, ℕ, Bool, true, false, List, length, take, get_or, refl, ap, arith}
use Rattle.std.specs.Prelude.{count_by}
use Rattle.std.proofs.lemmas.List.Sums.{count_by_more_yes, count_by_more_no, sum_by_more}
use Rattle.query_script.specs.declared.replies.Reply.{Reply}
use Rattle.world_engine.specs.declared.sums.Sums.{Sums}
use Rattle.world_engine.specs.Sums.{is_hit, is_miss, number_hit, boxes_met, work_told, sums_of}
use Rattle.world_engine.specs.Additions.{one_if, added, IsSmall, IsWithin}

-- a count goes up by one where the next element passes
counted_more : (passes : Reply → Bool) (replies : List Reply) (at : ℕ) (none : Reply) → at < length replies
    → count_by passes (take (at + 1) replies)
    ≡ count_by passes (take at replies) + one_if (passes (get_or replies at none))
counted_more passes replies at none some = go (passes (get_or replies at none)) refl
  where
    go : (b : Bool) → passes (get_or replies at none) ≡ b
        → count_by passes (take (at + 1) replies)
        ≡ count_by passes (take at replies) + one_if (passes (get_or replies at none))
    go true e =
        let more = count_by_more_yes passes replies at none some e in
        let one : one_if (passes (get_or replies at none)) ≡ 1 = ap one_if e in
        omega (arith, more, one)
    go false e =
        let more = count_by_more_no passes replies at none some e in
        let no : one_if (passes (get_or replies at none)) ≡ 0 = ap one_if e in
        omega (arith, more, no)

-- the sums of one reply more
pub sums_more : (replies : List Reply) (at : ℕ) (none : Reply) → at < length replies
    → sums_of (take (at + 1) replies) ≡ added (sums_of (take at replies)) (get_or replies at none)
sums_more replies at none some =
    let hits = counted_more is_hit replies at none some in
    let misses = counted_more is_miss replies at none some in
    let numbers = sum_by_more number_hit replies at none some in
    let overlaps = sum_by_more boxes_met replies at none some in
    let work = sum_by_more work_told replies at none some in
    cc

-- a count of one at most
at_most_one : (b : Bool) → one_if b ≤ 1
at_most_one true = omega arith
at_most_one false = omega arith

-- one small reply more
pub within_more : (sums : Sums) (count : ℕ) (reply : Reply) → IsWithin sums count → IsSmall reply
    → IsWithin (added sums reply) (count + 1)
within_more sums count reply within small =
    let hit = at_most_one (is_hit reply) in
    let miss = at_most_one (is_miss reply) in
    record {
      hits = omega (arith, hit, within.hits);
      misses = omega (arith, miss, within.misses);
      numbers = omega (arith, within.numbers, small.number);
      overlaps = omega (arith, within.overlaps, small.boxes);
      work = omega (arith, within.work, small.work);
    }

-- sums of so many are within a greater count
pub within_grows : (sums : Sums) (count most : ℕ) → count ≤ most → IsWithin sums count → IsWithin sums most
within_grows sums count most few within = record {
  hits = omega (arith, within.hits);
  misses = omega (arith, within.misses);
  numbers = omega (arith, within.numbers);
  overlaps = omega (arith, within.overlaps);
  work = omega (arith, within.work);
}
