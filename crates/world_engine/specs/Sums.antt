-- What is summed of the replies of one pass, and the line that tells it.
use Rattle.std.specs.Prelude.{ℕ, Bool, true, false, List, [], ◌∷◌, length, count_by, sum_by, codes, decimal}
use Rattle.query_script.specs.declared.replies.Reply.{Reply}
use Rattle.query_script.specs.declared.replies.Reply.TheVariants.{Overlaps, Hit, Miss, WorkIs}
use Rattle.query_script.specs.Replies.{line_of}
use Rattle.world_engine.specs.declared.sums.Sums.{Sums}

-- ---- one reply

-- a triangle is struck
abbrev pub is_hit : Reply → Bool
is_hit (Hit tri at) = true
is_hit _ = false

-- none is
abbrev pub is_miss : Reply → Bool
is_miss Miss = true
is_miss _ = false

-- the number of the triangle that is struck
abbrev pub number_hit : Reply → ℕ
number_hit (Hit tri at) = tri
number_hit _ = 0

-- how many triangles' boxes meet a box
abbrev pub boxes_met : Reply → ℕ
boxes_met (Overlaps numbers) = length numbers
boxes_met _ = 0

-- the work that is told
abbrev pub work_told : Reply → ℕ
work_told (WorkIs work) = work
work_told _ = 0

-- ---- all replies

abbrev pub sums_of : List Reply → Sums
sums_of replies = record {
  hits = count_by is_hit replies;
  misses = count_by is_miss replies;
  numbers = sum_by number_hit replies;
  overlaps = sum_by boxes_met replies;
  work = sum_by work_told replies;
}

-- the line of a pass
abbrev pub sums_text : Sums → List ℕ
sums_text sums = line_of (codes "hits")
    (decimal sums.hits ∷ codes "misses" ∷ decimal sums.misses ∷ codes "numbers" ∷ decimal sums.numbers
    ∷ codes "overlaps" ∷ decimal sums.overlaps ∷ codes "work" ∷ decimal sums.work ∷ [])
