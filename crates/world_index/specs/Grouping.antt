-- How a world counts the triangles of its groups in one pass. No public clause cites this module.
use Rattle.std.specs.Prelude.{ℕ, zero, suc, ◌+◌, List, [], ◌∷◌}
use Rattle.query_script.specs.declared.groups.GroupCount.{GroupCount}
use Rattle.world_index.specs.Worlds.{count_in}

-- for so many places from a first one on, how many of the triangles are in the group at each
abbrev pub counts_from : ℕ → ℕ → List ℕ → List ℕ
counts_from place zero group_of = []
counts_from place (suc n) group_of = count_in group_of place ∷ counts_from (place + 1) n group_of

-- names and counts, side by side
abbrev pub side_by_side : List (List ℕ) → List ℕ → List GroupCount
side_by_side [] counts = []
side_by_side (name ∷ names) [] = []
side_by_side (name ∷ names) (count ∷ counts) = record { name = name; count = count } ∷ side_by_side names counts
