use Rattle.segment_hit.proofs.entering.shared.Goals as goal

pub returns : goal.returns
returns c T D k =
    let from = c.later.ensures T D k in
    let to = c.sooner.ensures T D k in (
      λ x.
          let begun = from.0 x.entered in
          let ended = to.0 x.left in
          (record { entered = begun.0; left = ended.0 }, record { entered = begun.1; left = ended.1 }),
      λ x. record { entered = from.1 (x.0.entered, x.1.entered); left = to.1 (x.0.left, x.1.left) },
    )
