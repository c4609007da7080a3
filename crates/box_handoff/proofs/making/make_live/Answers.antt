use Rattle.std.proofs.Common.{◌≡◌, arith, ap, ◌∙◌, sym, subst, ◌+◌, List, ℕ, length, replicate}
use Rattle.morton_key.specs.declared.keys.Key.{Key}
use Rattle.arrival_core.specs.Settings.{setting}
use Rattle.box_handoff.specs.declared.views.About.{About}
use Rattle.box_handoff.specs.declared.views.Given.{Given}
use Rattle.box_handoff.specs.declared.laying.Moves.{Moves}
use Rattle.box_handoff.specs.Entries.{IsGiven, given_of, frame, numbers, setting_of}
use Rattle.box_handoff.specs.Starting.{Starts}
use Rattle.box_handoff.specs.Laying.{AreMoves, over}
use Rattle.box_handoff.specs.Slots.{blank}
use Rattle.box_handoff.specs.LiveNodes.{splits_of}
use Rattle.box_handoff.proofs.StartLaws.{given_is, live_given, live_starts}
use Rattle.box_handoff.proofs.making.make_live.Goals as goal

pub lay_down-requires : goal.lay_down-requires
lay_down-requires c = record {
  moves = record {
    table = c.keys-keys.ensures.table;
    task = c.requires.task;
    few = c.requires.few;
    rest = c.requires.rest;
  };
}

pub make-requires-clause-given : goal.make-requires-clause-given
make-requires-clause-given c =
    let m : Moves = record { tree = c.args.tree; boxes = c.args.boxes; live = c.args.live; seats = c.args.seats } in
    let ok : AreMoves m = record {
      table = c.keys-keys.ensures.table;
      task = c.requires.task;
      few = c.requires.few;
      rest = c.requires.rest;
    } in
    subst (λ (g : Given). IsGiven g)
    (sym (given_is m c.keys-keys.result.now c.in-Ok.live.items c.in_ok-spots.field-0.spots.items c.keys-keys.ensures.keys
    c.in-Ok.ensures.items c.in_ok-spots.ensures.spots))
    (live_given m ok)

pub make-requires-clause-start : goal.make-requires-clause-start
make-requires-clause-start c =
    let m : Moves = record { tree = c.args.tree; boxes = c.args.boxes; live = c.args.live; seats = c.args.seats } in
    let ok : AreMoves m = record {
      table = c.keys-keys.ensures.table;
      task = c.requires.task;
      few = c.requires.few;
      rest = c.requires.rest;
    } in
    subst (λ (g : Given). Starts (frame g) (numbers g) c.in_ok-spots.field-0.words.items c.in_ok-slots.slots.items)
    (sym (given_is m c.keys-keys.result.now c.in-Ok.live.items c.in_ok-spots.field-0.spots.items c.keys-keys.ensures.keys
    c.in-Ok.ensures.items c.in_ok-spots.ensures.spots))
    (live_starts m ok c.in_ok-spots.field-0.words.items c.in_ok-slots.slots.items c.in_ok-spots.ensures.words
    (c.in_ok-slots.ensures ∙ ap (λ (n : ℕ). replicate n blank)
    (let n = ap (λ (l : List ℕ). length l) c.in_ok-spots.ensures.spots in
    let e : c.len.result + 1 ≡ length (splits_of (over m)) + 1 = omega (arith, n, c.len.ensures) in e)))

pub returns-clause-setting : goal.returns-clause-setting
returns-clause-setting c = ap (λ (a : About). setting_of (given_of a)) c.in_ok-handoff.ensures.about
    ∙ ap (λ (x : List Key). setting x c.args.boxes.now c.in-Ok.live.items c.args.seats) c.keys-keys.ensures.keys
    ∙ ap (λ (x : List ℕ). setting c.args.tree.now.keys c.args.boxes.now x c.args.seats) c.in-Ok.ensures.items
