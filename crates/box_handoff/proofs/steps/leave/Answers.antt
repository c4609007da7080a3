use Rattle.box_handoff.specs.Slots.{packed}
use Rattle.box_handoff.specs.Rule.{slot}
use Rattle.arrival_core.specs.Frames.{other}
use Rattle.std.proofs.Common.{[], rules, arith, sym, ap, ◌∙◌, ℕ, Bool}
use Rattle.arrival_core.specs.declared.packets.Load.{Load}
use Rattle.box_handoff.specs.declared.views.Given.{Given}
use Rattle.box_handoff.specs.declared.views.View.{View}
use Rattle.box_handoff.specs.LiveNodes.{slotted}
use Rattle.box_handoff.specs.Entries.{frame, given_of}
use Rattle.box_handoff.specs.Plays.{Mine, load_of, lent, without}
use Rattle.box_handoff.proofs.Lending.{without_lent}
use Rattle.box_handoff.proofs.Dids.{did, moved_so}
use Rattle.box_handoff.proofs.steps.leave.Goals as goal
use Rattle.box_handoff.proofs.LeaveLaws.{leaving}

pub fetch_or-requires : goal.fetch_or-requires
fetch_or-requires c = (
  search rules,
  omega arith,
  leaving _ _ _ c.requires.one _ _ c.requires.place.seen _
      c.requires.phase (c.requires.out ∙ ap (λ (b : Bool). lent b (slot c.args.place (other c.args.load.now.side))
      (packed (other c.args.load.now.side) c.args.found.now) []) c.requires.handed
      ∙ ap (λ (k : ℕ). lent (slotted (frame (given_of c.args.table.now.key.value)) c.args.load.now.split
      (other c.args.load.now.side)) (slot k (other c.args.load.now.side))
      (packed (other c.args.load.now.side) c.args.found.now) []) c.requires.place.number) _ _
      (let p = c.requires.place.number in let b = c.requires.words.0 in omega arith) c.mask.ensures,
)

pub returns-clause-did : goal.returns-clause-did
returns-clause-did c = did _ _ _ _ _ _ c.requires.one c.fetch_or.ensures.2.0 c.fetch_or.ensures.2.1 c.requires.phase tt

pub returns-clause-out : goal.returns-clause-out
returns-clause-out c = ap (λ (x : Mine). x.1) c.fetch_or.ensures.2.0
    ∙ ap (λ (x : Load). without (slotted (frame c.args.seat.now.me.0.given) x.split (other x.side))
    c.args.seat.now.me.1) (ap load_of c.requires.phase)
    ∙ ap (λ (x : Given). without (slotted (frame x) c.args.load.now.split (other c.args.load.now.side))
    c.args.seat.now.me.1) (ap (λ (v : View). v.given) c.requires.one)
    ∙ ap (λ (b : Bool). without b c.args.seat.now.me.1) (sym c.requires.handed)
    ∙ ap (without c.args.handed) c.requires.out
    ∙ without_lent c.args.handed (slot c.args.place (other c.args.load.now.side))
    (packed (other c.args.load.now.side) c.args.found.now)

pub returns-clause-worker : goal.returns-clause-worker
returns-clause-worker c = moved_so _ _ _ _ _ (returns-clause-did c) c.requires.phase
