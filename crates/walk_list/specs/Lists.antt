-- What a contract sees of a walk list, and of which triangles it is.
use Rattle.std.specs.Prelude.{◌≡◌, List, length}
use Rattle.fixed_box.specs.declared.shapes.Box3.{Box3}
use Rattle.morton_key.specs.declared.keys.Key.{Key}
use Rattle.morton_key.specs.Keys.{IsLawful}
use Rattle.walk_list.specs.declared.records.Leaf.{Leaf}
use Rattle.walk_list.specs.declared.records.Record.{Record}
use Rattle.walk_list.specs.Leaves.{leaves_of}

-- the records in depth-first order, and the leaves by position
pub record Contents : Type 0 where
  pub records : List Record
  pub leaves : List Leaf

-- the list is over these boxes: its leaves are those of lawful keys, one for each of them
pub record IsOver (f : Contents) (boxes : List Box3) : Type 0 where
  pub keys : List Key
  pub lawful : IsLawful keys
  pub count : length boxes ≡ length keys
  pub leaves : f.leaves ≡ leaves_of keys boxes
