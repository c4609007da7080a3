use Rattle.karras_build.specs.Linking.{IsLinked}
use Rattle.karras_build.proofs.links.links_of.Given as goal

abbrev pub invariant-loop-i : goal.invariant-loop-i
invariant-loop-i l = IsLinked l.spans l.first.items l.last.items l.i
