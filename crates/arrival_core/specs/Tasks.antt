-- What a machine may be set to. Public contracts cite it.
use Rattle.fixed_box.specs.declared.shapes.Box3.{Box3}
use Rattle.morton_key.specs.Keys.{tri_at}
use Rattle.radix_tree.specs.Table.{Contents}
use Rattle.radix_tree.specs.Fit.{IsFitted, box_of_triangle}
use Rattle.std.specs.Prelude.{ℕ, List, false, ◌≡◌, ◌<◌, ◌≤◌, All, AllPairs, length, slice_index_or}
use Rattle.morton_key.specs.Keys.{IsLawful}
use Rattle.arrival_core.specs.declared.packets.TheConstants.{MOST_WORKERS}
use Rattle.arrival_core.specs.Settings.{Setting, live_in}

-- two or more lawful keys, a box for each, one or more live positions that rise, and a worker
pub record IsTask (x : Setting) : Type 0 where
  pub lawful : IsLawful x.keys
  pub two : 1 < length x.keys
  pub boxes_count : length x.boxes ≡ length x.keys
  pub within : All (λ p. p < length x.keys) x.live
  pub rising : AllPairs (λ p q. p < q) x.live
  pub some : 0 < length x.live
  pub one_worker : 0 < x.workers

-- the tree is fitted to some list of boxes that gives the triangle at each position that is not live the same box
pub record FitsButFor (t : Contents) (boxes : List Box3) (live : List ℕ) : Type 0 where
  pub before : List Box3
  pub fitted : IsFitted t before
  pub same : (p : ℕ) → p < length t.keys → live_in live p p ≡ false →
      box_of_triangle before (tri_at t.keys p) ≡ box_of_triangle boxes (tri_at t.keys p)

-- the same where every position is live, with no more workers than there may be
pub record IsWhole (x : Setting) : Type 0 where
  pub lawful : IsLawful x.keys
  pub two : 1 < length x.keys
  pub boxes_count : length x.boxes ≡ length x.keys
  pub live_count : length x.live ≡ length x.keys
  pub live_is : (p : ℕ) → p < length x.live → slice_index_or x.live p 0 ≡ p
  pub one_worker : 0 < x.workers
  pub few : x.workers ≤ MOST_WORKERS
