use Rattle.std.proofs.Common.{◌≡◌, arith, ap, ◌∙◌, ℕ, ◌++◌, List, replicate}
use Rattle.arrival_core.specs.Settings.{batch_count}
use Rattle.box_handoff.specs.LiveNodes.{splits_of}
use Rattle.box_handoff.specs.Laying.{over, words_of}
use Rattle.box_handoff.proofs.LayLaws.{from_root}
use Rattle.box_handoff.proofs.laying.lay_down.Goals as goal

pub returns-clause-spots : goal.returns-clause-spots
returns-clause-spots c = (from_root c.args.m.now c.requires.moves _ _ c.in_ok-lay_under.ensures).spots
    ∙ ap (λ (l : List ℕ). l ++ splits_of (over c.args.m.now)) c.new.ensures.items

pub returns-clause-words : goal.returns-clause-words
returns-clause-words c = (from_root c.args.m.now c.requires.moves _ _ c.in_ok-lay_under.ensures).words
    ∙ ap (λ (l : List ℕ). l ++ words_of (over c.args.m.now) (splits_of (over c.args.m.now)))
    (c.in_ok-zeros.ensures ∙ ap (λ (n : ℕ). replicate n 0)
    (let e : c.div_ceil.result ≡ batch_count c.args.m.now.live.now = omega (arith, c.div_ceil.ensures) in e))
