use Rattle.std.proofs.Common.{rules, ◌≡◌, ◌+◌, ◌*◌, ap, sym, ◌∙◌, to_z, of_z, w64}
use Rattle.decimals.specs.Fractions.{with_sign}
use Rattle.decimals.specs.Rounding.{size_of}
use Rattle.decimals.proofs.Caps.{value_by_size}
use Rattle.decimals.proofs.rounding.grid_steps.Goals as goal

pub returns : goal.returns
returns c =
    let d = c.args.d.now in
    let told : to_z w64 (of_z w64 c.signed.result) ≡ with_sign d.minus c.size-size.result = search rules in
    let size : c.size-size.result ≡ size_of d.minus (d.mantissa * c.args.unit) d.raised (d.places + d.lowered) =
    search rules in
    told ∙ ap (with_sign d.minus) size ∙ sym (value_by_size d.minus d.mantissa c.args.unit d.places d.raised d.lowered)
