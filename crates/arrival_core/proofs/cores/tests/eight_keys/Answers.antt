use Rattle.std.proofs.Common.{refl}
use Rattle.morton_key.specs.Order.{is_before}
use Rattle.morton_key.proofs.LawfulTest.{lawful_from_test}
use Rattle.arrival_core.proofs.cores.tests.eight_keys.Goals as goal

pub returns : goal.returns
unfolding is_before
returns c = lawful_from_test _ refl
