use Rattle.std.proofs.Common.{[], rules, ◌^◌, arith, ap, ◌∙◌, sym, subst, ◌≡◌, ◌+◌, ℕ, Bool}
use Rattle.arrival_core.specs.declared.packets.Load.{Load}
use Rattle.arrival_core.specs.declared.packets.Side.{Side}
use Rattle.arrival_core.specs.declared.packets.Phase.TheVariants.{Opened}
use Rattle.arrival_core.specs.Frames.{other}
use Rattle.box_handoff.specs.declared.views.Given.{Given}
use Rattle.box_handoff.specs.declared.views.View.{View}
use Rattle.box_handoff.specs.LiveNodes.{slotted}
use Rattle.box_handoff.specs.declared.views.Event.TheVariants.{Arrive}
use Rattle.box_handoff.specs.Slots.{packed}
use Rattle.box_handoff.specs.Rule.{slot, side_no, bit_on}
use Rattle.box_handoff.specs.Plays.{load_of, lent, without}
use Rattle.box_handoff.specs.Entries.{worker_of, frame, given_of, moved}
use Rattle.box_handoff.specs.Plays.{Mine, mine}
use Rattle.box_handoff.specs.Climbs.{Did}
use Rattle.box_handoff.proofs.Lending.{without_lent}
use Rattle.box_handoff.proofs.Dids.{did, moved_so}
use Rattle.box_handoff.proofs.steps.arrive.Goals as goal
use Rattle.box_handoff.proofs.ArriveLaws.{arriving}

pub fetch_or-found-requires : goal.fetch_or-found-requires
fetch_or-found-requires c = (
  search rules,
  omega arith,
  arriving _ _ _ c.requires.one _ _ c.requires.place.seen
      c.requires.phase (c.requires.out ∙ ap (λ (b : Bool). lent b (slot c.args.place c.args.load.now.side)
      (packed c.args.load.now.side c.args.load.now.packet) []) c.requires.handed
      ∙ ap (λ (k : ℕ). lent (slotted (frame (given_of c.args.table.now.key.value)) c.args.load.now.split
      c.args.load.now.side) (slot k c.args.load.now.side)
      (packed c.args.load.now.side c.args.load.now.packet) []) c.requires.place.number) _ _
      (let p = c.requires.place.number in let b = c.requires.words.0 in
      omega arith) (c.mask.ensures ∙ ap (λ (n : ℕ). 2 ^ n) c.bit_of-bit.ensures),
)

-- the bit of the other side, as the step tells it
tells : (c : goal.After-is_set-2) → c.is_set.result ≡ bit_on c.fetch_or-found.result
    (2 + side_no (other (load_of (mine c.args.seat.now.me).phase).side))
tells c = c.is_set.ensures ∙ ap (bit_on c.fetch_or-found.result) (c.bit_of.ensures
    ∙ ap (λ (d : Side). 2 + side_no d) (c.across-theirs.ensures
    ∙ ap (λ (x : Load). other x.side) (sym (ap load_of c.requires.phase))))

pub returns-clause-did : goal.returns-clause-did
returns-clause-did c = subst (λ (b : Bool). Did (given_of c.args.table.now.key.value) c.args.seat.now.me
    c.fetch_or-found.new.seat.me (Arrive b)) (sym (tells c))
    (did _ _ _ _ _ _ c.requires.one c.fetch_or-found.ensures.2.0 c.fetch_or-found.ensures.2.1 c.requires.phase tt)

pub returns-clause-out : goal.returns-clause-out
returns-clause-out c = ap (λ (x : Mine). x.1) c.fetch_or-found.ensures.2.0
    ∙ ap (λ (x : Load). without (slotted (frame c.args.seat.now.me.0.given) x.split x.side) c.args.seat.now.me.1)
    (ap load_of c.requires.phase)
    ∙ ap (λ (x : Given). without (slotted (frame x) c.args.load.now.split c.args.load.now.side) c.args.seat.now.me.1)
    (ap (λ (v : View). v.given) c.requires.one)
    ∙ ap (λ (b : Bool). without b c.args.seat.now.me.1) (sym c.requires.handed)
    ∙ ap (without c.args.handed) c.requires.out
    ∙ without_lent c.args.handed (slot c.args.place c.args.load.now.side)
    (packed c.args.load.now.side c.args.load.now.packet)

pub returns-clause-other : goal.returns-clause-other
returns-clause-other c came = c.is_set-2.ensures ∙ ap (bit_on c.fetch_or-found.result) (c.bit_of-2.ensures
    ∙ ap (λ (d : Side). 7 + side_no d) c.across-theirs.ensures)
    ∙ subst (λ (x : Given). bit_on c.fetch_or-found.result (7 + side_no (other c.args.load.now.side))
    ≡ slotted (frame x) c.args.load.now.split (other c.args.load.now.side))
    (ap (λ (v : View). v.given) c.requires.one)
    (subst (λ (x : Load). bit_on c.fetch_or-found.result (7 + side_no (other x.side))
    ≡ slotted (frame c.args.seat.now.me.0.given) x.split (other x.side)) (ap load_of c.requires.phase)
    (c.fetch_or-found.ensures.2.2 (sym (tells c) ∙ came)))

pub returns-clause-second : goal.returns-clause-second
returns-clause-second c is = moved_so _ _ _ _ _ (returns-clause-did c) c.requires.phase
    ∙ ap (λ (b : Bool). moved (frame (given_of c.args.table.now.key.value)) (worker_of (mine c.args.seat.now.me))
    (Arrive b) (Opened c.args.load.now)) is

pub returns-clause-first : goal.returns-clause-first
returns-clause-first c is = moved_so _ _ _ _ _ (returns-clause-did c) c.requires.phase
    ∙ ap (λ (b : Bool). moved (frame (given_of c.args.table.now.key.value)) (worker_of (mine c.args.seat.now.me))
    (Arrive b) (Opened c.args.load.now)) is
