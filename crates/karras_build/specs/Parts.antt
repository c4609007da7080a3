-- Parts of a list of nodes while they are fitted apart, which the crate's own functions cite.
-- No public clause cites this module.
use Rattle.std.specs.Prelude.{ℕ, ◌≡◌, ◌+◌, ◌-◌, ◌<◌, ◌≤◌, List, length}
use Rattle.morton_key.specs.declared.keys.Key.{Key}
use Rattle.morton_key.specs.Keys.{IsLawful}
use Rattle.radix_tree.specs.declared.nodes.Node.{Node}
use Rattle.radix_tree.specs.Ranges.{IsNode}
use Rattle.radix_tree.specs.Table.{node_at}
use Rattle.radix_tree.specs.Filling.{IsFullRow}
use Rattle.karras_build.specs.declared.inputs.Inputs.{Inputs}
use Rattle.karras_build.specs.Spans.{AreSpans}

-- lawful keys, their spans, and one box for each key
pub record AreInputs (x : Inputs) : Type 0 where
  pub lawful : IsLawful x.keys.now
  pub spans : AreSpans x.keys.now x.spans.now
  pub count : length x.boxes.now ≡ length x.keys.now

-- the nodes are the rows of the numbers from one on, each with the least box
pub record HasRows (x : Inputs) (start : ℕ) (nodes : List Node) : Type 0 where
  pub each : (k : ℕ) → k < length nodes → IsFullRow x.keys.now x.boxes.now (start + k) (node_at nodes k)

-- a range of the keys, a node of that number where it has two or more positions, and room for all nodes of its subtree
pub record IsPart (keys : List Key) (number first last count : ℕ) : Type 0 where
  pub order : first ≤ last
  pub within : last < length keys
  pub node : first < last → IsNode keys number first last
  pub room : count ≡ last - first
