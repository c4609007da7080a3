use Rattle.std.proofs.Common.{ap, ℕ, eqb}
use Rattle.std.proofs.lemmas.Nat.{and_mask}
use Rattle.box_handoff.specs.Rule.{bit_on}
use Rattle.box_handoff.proofs.words.is_set.Goals as goal

pub returns : goal.returns
unfolding bit_on
returns c = ap (λ (x : ℕ). eqb x 1) (and_mask _ 1)
