-- What the words are cut into.
use Rattle.std.specs.Prelude.{ℕ}
use Rattle.command_line.specs.declared.plan.Build.{Build as PlanBuild}

-- the name of an option
pub data Name : Type 0 where
  Grid : Name
  Workers : Name
  Build : Name
  Unit : Name

-- what stands on the command line once its words are put together: the MESH word at a place, or an option's value
pub data Item : Type 0 where
  Mesh : ℕ → Item
  Grid : ℕ → Item
  Workers : ℕ → Item
  Build : PlanBuild → Item
  Unit : ℕ → Item

-- what one word is, to a reader from left to right: an item or its last word, the name of an option whose value is the
-- next word, or nothing that is accepted
pub data Part : Type 0 where
  Whole : Item → Part
  Front : Name → Part
  Neither : Part
