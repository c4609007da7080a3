-- The vertices that were moved since boxes were fitted. No public clause cites this module.
use Rattle.std.specs.Prelude.{◌≡◌, ℕ, ◌<◌, ◌≤◌, Bool, true, false, List, All, length, slice_index_or, count_by, Vec}
use Rattle.std.specs.List.{Contains}
use Rattle.std.specs.Vec.{vec_capacity}
use Rattle.std.specs.declared.alloc.Global.{Global}

-- how many vertices there are, and which of them were moved
pub record Marked : Type 0 where
  pub vertices : ℕ
  pub moved : List ℕ

-- a flag for each vertex, and a list of those that are flagged, with room for all
pub record IsMarking (flags : List Bool) (list : Vec ℕ Global) : Type 0 where
  pub within : All (λ v. v < length flags) list.items
  pub flagged : All (λ v. slice_index_or flags v false ≡ true) list.items
  pub listed : (v : ℕ) → slice_index_or flags v false ≡ true → Contains list.items v
  pub each_once : count_by (λ flag. flag) flags ≡ length list.items
  pub room : length flags ≤ vec_capacity list
