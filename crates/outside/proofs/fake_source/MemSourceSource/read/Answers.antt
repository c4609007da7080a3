use Rattle.std.proofs.Common.{◌∙◌, sym, ap, arith}
use Rattle.std.proofs.lemmas.Grind.{common_steps}
use Rattle.outside.proofs.Pieces.{piece_and_rest}
use Rattle.outside.proofs.fake_source.MemSourceSource.read.Goals as goal

pub returns-clause-bytes : goal.returns-clause-bytes
returns-clause-bytes c =
    let at = c.self.inside.at in
    let bytes = c.self.inside.bytes.items in (
      sym (ap (λ s. s.left) c.self.view_is)
          ∙ piece_and_rest at c.min-count.result bytes c.copy_from_slice.new.self _
          (grind (arith, common_steps)) (grind (arith, common_steps)),
      λ none some. grind (arith, common_steps),
    )
