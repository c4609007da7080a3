-- Sums with one reply more. No public clause cites this module.
use Rattle.std.specs.Prelude.{ℕ, ◌+◌, ◌^◌, ◌<◌, ◌≤◌, ◌*◌, Bool, true, false}
use Rattle.query_script.specs.declared.replies.Reply.{Reply}
use Rattle.world_engine.specs.declared.sums.Sums.{Sums}
use Rattle.world_engine.specs.Sums.{is_hit, is_miss, number_hit, boxes_met, work_told}

-- one for what is so
abbrev pub one_if : Bool → ℕ
one_if true = 1
one_if false = 0

-- the sums with a reply more
abbrev pub added : Sums → Reply → Sums
added sums reply = record {
  hits = sums.hits + one_if (is_hit reply);
  misses = sums.misses + one_if (is_miss reply);
  numbers = sums.numbers + number_hit reply;
  overlaps = sums.overlaps + boxes_met reply;
  work = sums.work + work_told reply;
}

-- a reply has no number of 64 bits or more
pub record IsSmall (reply : Reply) : Type 0 where
  pub number : number_hit reply < 2 ^ 64
  pub boxes : boxes_met reply < 2 ^ 64
  pub work : work_told reply < 2 ^ 64

-- sums of so many such replies
pub record IsWithin (sums : Sums) (count : ℕ) : Type 0 where
  pub hits : sums.hits ≤ count
  pub misses : sums.misses ≤ count
  pub numbers : sums.numbers ≤ count * 2 ^ 64
  pub overlaps : sums.overlaps ≤ count * 2 ^ 64
  pub work : sums.work ≤ count * 2 ^ 64
