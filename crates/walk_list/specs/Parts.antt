-- A list of records while it is made, and a walk while it goes, which the crate's own functions cite.
-- No public clause cites this module.
use Rattle.std.specs.Prelude.{ℕ, ◌≡◌, ◌<◌, ◌≤◌, ◌+◌, ◌-◌, ◌*◌, List, [], ◌++◌, length, drop}
use Rattle.fixed_box.specs.declared.shapes.Box3.{Box3}
use Rattle.fixed_box.specs.World.{BoxInWorld}
use Rattle.radix_tree.specs.Table.{Contents, node_at}
use Rattle.walk_list.specs.declared.records.Leaf.{Leaf}
use Rattle.walk_list.specs.declared.records.Record.{Record}
use Rattle.walk_list.specs.Leaves.{leaf_at, met_between}
use Rattle.walk_list.specs.Covering.{Bounds, Covers}
use Rattle.walk_list.specs.Records.{record_at}

-- one leaf for each key, the box of each leaf and node in the world, and those of nodes contain those of their leaves
pub record HoldsLeaves (t : Contents) (leaves : List Leaf) : Type 0 where
  pub count : length leaves ≡ length t.keys
  pub world : (p : ℕ) → p < length leaves → BoxInWorld (leaf_at leaves p).fit
  pub each : (k : ℕ) → k < length t.nodes →
      Bounds leaves (node_at t.nodes k).fit (node_at t.nodes k).first ((node_at t.nodes k).last + 1)

-- records of one subtree were added, with the leaves from a up to e, e left out
pub record IsPart (leaves : List Leaf) (a e : ℕ) (before after : List Record) : Type 0 where
  pub part : List Record
  pub grown : after ≡ before ++ part
  pub some : 0 < length part
  pub few : length part < 2 * (e - a)
  pub covers : Covers leaves part a e

-- the records of subtrees, one behind the other, cover the leaves from position a to the last
pub data CoversRest (leaves : List Leaf) : List Record → ℕ → Type 0 where
  done : {a : ℕ} → a ≡ length leaves → CoversRest leaves [] a
  more : {rs : List Record} {a : ℕ} → (part behind : List Record) (b : ℕ) → rs ≡ part ++ behind →
      Covers leaves part a b → CoversRest leaves behind b → CoversRest leaves rs a

-- a walk from left to right stands at the record of number i and the leaf at position a
abbrev pub StandsAt : List Leaf → List Record → ℕ → ℕ → Type 0
StandsAt leaves records i a = CoversRest leaves (drop i records) a

-- a step of a walk took it from record i and position a on, and added what the leaves between gave
pub record Steps (leaves : List Leaf) (records : List Record) (q : Box3) (i a : ℕ) (before after : List ℕ)
    (j b : ℕ) : Type 0 where
  pub on : i < j
  pub order : a ≤ b
  pub stands : StandsAt leaves records j b
  pub added : after ≡ before ++ met_between leaves q a b

-- the record of number i begins the records of a subtree, whose first leaf is at position a
pub record IsSubtreeAt (leaves : List Leaf) (records : List Record) (i a : ℕ) : Type 0 where
  pub part : List Record
  pub behind : List Record
  pub front : drop i records ≡ part ++ behind
  pub inside : (record_at records i).end ≤ length leaves
  pub covers : Covers leaves part a (record_at records i).end
