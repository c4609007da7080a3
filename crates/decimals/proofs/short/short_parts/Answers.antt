use Rattle.std.proofs.Common.{rules, ◌≡◌, length, subst}
use Rattle.std.proofs.lemmas.List.{nil_from_length}
use Rattle.decimals.specs.Rounding.{IsFront}
use Rattle.decimals.proofs.short.short_parts.Goals as goal

pub returns : goal.returns
returns c =
    let rest = c.in_ok-decimal.rest.now in
    let none : length rest ≡ 0 = search rules in
    let front : IsFront c.args.word.now c.in_ok-decimal.decimal rest = search rules in
    subst (IsFront c.args.word.now c.in_ok-decimal.decimal) (nil_from_length rest none) front
