use Rattle.std.proofs.Common.{ap, arith, length}
use Rattle.std.proofs.lemmas.Result.{IfOk-weaker}
use Rattle.arrival_core.specs.Settings.{frame_of}
use Rattle.arrival_core.proofs.cores.tests.machine.Goals as goal

pub returns-clause-nodes : goal.returns-clause-nodes
unfolding frame_of
returns-clause-nodes c = IfOk-weaker c.start.result _ _
    (λ s e. let n = ap (λ x. length x.keys) e in omega (arith, n, c.requires.fitted.count, c.requires.two))
    c.start.ensures.setting
