use Rattle.std.proofs.Common.{arith, SFits, w32, rules, ◌∙◌}
use Rattle.std.proofs.lemmas.Int.{to_z-of_z}
use Rattle.morton_key.specs.declared.keys.TheConstants.{LEVELS}
use Rattle.morton_key.proofs.CodeLaws.{code_made, code_of_centre}
use Rattle.morton_key.proofs.Weaving.{interleaved_small}
use Rattle.morton_key.proofs.interleaving.code.Goals as goal

pub returns-clause-value : goal.returns-clause-value
returns-clause-value c =
    let x_fits : SFits w32 c.centre-middle.result.x = search rules in
    let y_fits : SFits w32 c.centre-middle.result.y = search rules in
    let z_fits : SFits w32 c.centre-middle.result.z = search rules in
    code_made c.args.b.now c.centre-middle.result _ _ _ _ c.requires c.centre-middle.ensures.middle
    (simp to_z-of_z at c.raise.ensures.value) (simp to_z-of_z at c.raise-2.ensures.value)
    (simp to_z-of_z at c.raise-3.ensures.value) c.interleave.ensures

pub returns-clause-centre : goal.returns-clause-centre
returns-clause-centre c = λ p m. returns-clause-value c ∙ code_of_centre c.args.b.now p c.requires m

pub returns-clause-fits : goal.returns-clause-fits
returns-clause-fits c =
    omega (arith, c.interleave.ensures, interleaved_small c.raise.result c.raise-2.result c.raise-3.result LEVELS)
