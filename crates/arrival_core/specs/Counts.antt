-- Who has what in a state, as counts: each is 1 where something holds and 0 where not, or a sum of such.
-- Public contracts cite it through the lawful state.
use Rattle.std.specs.Prelude.{ℕ, Bool, ◌+◌, ◌*◌, ◌==◌, not, List, [], ◌∷◌}
use Rattle.arrival_core.specs.declared.packets.Side.{Side}
use Rattle.arrival_core.specs.declared.packets.Side.TheVariants.{Left, Right}
use Rattle.arrival_core.specs.declared.packets.Phase.{Phase}
use Rattle.arrival_core.specs.declared.packets.Phase.TheVariants.{Looking, Carry, Opened, Second, Collecting, Ended}
use Rattle.arrival_core.specs.declared.packets.Place.{Place}
use Rattle.arrival_core.specs.declared.packets.Place.TheVariants.{Nothing, Holds, Out}
use Rattle.arrival_core.specs.Sums.{bit, sum_below}
use Rattle.arrival_core.specs.Frames.{Frame, Below, live_at}
use Rattle.arrival_core.specs.Frames.Below.{leaf, inner}
use Rattle.arrival_core.specs.States.{Worker, State}
use Rattle.arrival_core.specs.Events.{same}

-- side d of node s is side e of node t
unfoldable pub at : ℕ → Side → ℕ → Side → ℕ
at s d t e = bit (same s d t e)

-- a worker in a phase carries the child on a side of a node
unfoldable pub carries : Phase → ℕ → Side → ℕ
carries Looking s d = 0
carries (Carry l) s d = at l.split l.side s d
carries (Opened l) s d = 0
carries (Second l) s d = 0
carries (Collecting l found) s d = 0
carries Ended s d = 0

-- it is behind the opening of that side
unfoldable pub opened_at : Phase → ℕ → Side → ℕ
opened_at Looking s d = 0
opened_at (Carry l) s d = 0
opened_at (Opened l) s d = at l.split l.side s d
opened_at (Second l) s d = 0
opened_at (Collecting l found) s d = 0
opened_at Ended s d = 0

-- it came second at a node
unfoldable pub second_at : Phase → ℕ → ℕ
second_at Looking s = 0
second_at (Carry l) s = 0
second_at (Opened l) s = 0
second_at (Second l) s = bit (l.split == s)
second_at (Collecting l found) s = 0
second_at Ended s = 0

-- it collects at a node
unfoldable pub collecting_at : Phase → ℕ → ℕ
collecting_at Looking s = 0
collecting_at (Carry l) s = 0
collecting_at (Opened l) s = 0
collecting_at (Second l) s = 0
collecting_at (Collecting l found) s = bit (l.split == s)
collecting_at Ended s = 0

-- how often the child on a side of a node stands among positions
unfoldable pub times : Frame → List ℕ → ℕ → Side → ℕ
times f [] s d = 0
times f (p ∷ ps) s d = at (f.above_leaf p).split (f.above_leaf p).side s d + times f ps s d

-- how often a worker has that child: pending, carried, or behind the opening of its side
unfoldable pub has : Frame → ℕ → Side → Worker → ℕ
has f s d w = times f w.pending s d + carries w.phase s d + opened_at w.phase s d

-- whether it is the turn of a worker in a phase to hold the place of a side, by the side's collected bit
unfoldable pub turn : Phase → Bool → ℕ → Side → ℕ
turn p collected s d = opened_at p s d + collecting_at p s * bit collected

-- the sum over all workers
unfoldable pub over : Frame → State → (Worker → ℕ) → ℕ
over f s count = sum_below f.workers (λ k. count (s.worker k))

-- how often the child stands in batches that are not claimed
unfoldable pub unclaimed : Frame → State → ℕ → Side → ℕ
unclaimed f s t d = sum_below f.batches (λ j. bit (not (s.claimed j)) * times f (f.batch j) t d)

-- whether what stands below is ready to go up: a leaf, or an inner node that is returned
unfoldable pub ready_below : State → Below → ℕ
ready_below s (leaf p) = 1
ready_below s (inner t) = bit (s.returned t)

-- whether the child on a side of a node is ready
unfoldable pub ready : Frame → State → ℕ → Side → ℕ
ready f s t d = ready_below s (f.child t d)

-- how many workers are behind the opening of a side
unfoldable pub count_opened : Frame → State → ℕ → Side → ℕ
count_opened f s t d = over f s (λ w. opened_at w.phase t d)

-- how many collect at a node
unfoldable pub count_collecting : Frame → State → ℕ → ℕ
count_collecting f s t = over f s (λ w. collecting_at w.phase t)

-- how many are behind the second arrival at a node
unfoldable pub count_met : Frame → State → ℕ → ℕ
count_met f s t = over f s (λ w. second_at w.phase t + collecting_at w.phase t)

-- how many events a side of a node has had, where its child is live
unfoldable pub steps_of_side : Frame → State → Side → ℕ → ℕ
steps_of_side f s d t = bit (live_at f t d) * (bit (s.opened t d) + bit (s.arrived t d))

-- how many a node has had beside those of its sides, where it is live
unfoldable pub steps_of_node : Frame → State → ℕ → ℕ
steps_of_node f s t = bit (f.live_node t) * (bit (s.collected t Left) + bit (s.collected t Right) + bit (s.returned t))

-- how many a node and its sides have had
unfoldable pub steps_at : Frame → State → ℕ → ℕ
steps_at f s t = steps_of_side f s Left t + steps_of_side f s Right t + steps_of_node f s t

-- the place holds nothing
unfoldable pub is_nothing : Place → ℕ
is_nothing Nothing = 1
is_nothing (Holds p) = 0
is_nothing (Out k) = 0

-- the place is out with worker k
unfoldable pub is_out_with : ℕ → Place → ℕ
is_out_with k Nothing = 0
is_out_with k (Holds p) = 0
is_out_with k (Out j) = bit (j == k)
