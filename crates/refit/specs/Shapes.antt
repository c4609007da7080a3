-- What of a tree a refit leaves as it was.
use Rattle.std.specs.Prelude.{ℕ, ◌≡◌, ◌<◌, length}
use Rattle.radix_tree.specs.declared.nodes.Node.{Node}
use Rattle.radix_tree.specs.Table.{Contents, node_at}

-- the nodes have the same range and the same split
pub record IsSameButForFit (old new : Node) : Type 0 where
  pub first : new.first ≡ old.first
  pub last : new.last ≡ old.last
  pub split : new.split ≡ old.split

-- the keys are as before, and so are the nodes of all numbers, but for their boxes
pub record KeepsShape (old new : Contents) : Type 0 where
  pub keys : new.keys ≡ old.keys
  pub count : length new.nodes ≡ length old.nodes
  pub each : (k : ℕ) → k < length old.nodes → IsSameButForFit (node_at old.nodes k) (node_at new.nodes k)
