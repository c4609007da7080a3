use Rattle.std.proofs.Common.{take}
use Rattle.std.specs.Prelude.{codes}
use Rattle.obj_text.specs.Names.{names_or}
use Rattle.obj_text.specs.Parts.{names_of}
use Rattle.obj_text.proofs.Grouping.{IsGrouped}
use Rattle.obj_text.proofs.part.mesh_of_part.Given as goal

abbrev pub invariant-loop-run : goal.invariant-loop-run
invariant-loop-run l = record {
  grouped : IsGrouped (names_or (codes "default") (names_of (take l.run-index l.run-items))) l.groups.keys l.group_of.items;
}
