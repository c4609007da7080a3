use Rattle.std.proofs.Common.{length}
use Rattle.obj_text.proofs.sections.+vertices_of_all.Given as goal

abbrev pub decreases-vertices_of_all : goal.decreases-vertices_of_all
decreases-vertices_of_all l = length l.sections.now
