-- The way up in the tree of keys, by either build. No public clause cites this module.
use Rattle.std.specs.Prelude.{List}
use Rattle.morton_key.specs.declared.keys.Key.{Key}
use Rattle.box_handoff.specs.Ends.{AreEnds}
use Rattle.apetrei_build.specs.Measures.{AreMeasures}
use Rattle.world_index.specs.declared.ways.BuiltWays.{BuiltWays}
use Rattle.world_index.specs.declared.ways.BuiltWays.TheVariants.{Karras, Apetrei}

-- the ends of each node's range, or what each key shares with the next one
abbrev pub IsWayUp : BuiltWays → List Key → Type 0
IsWayUp (Karras ways) keys = AreEnds keys ways.first.items ways.last.items
IsWayUp (Apetrei deltas) keys = AreMeasures keys deltas.measures.items
