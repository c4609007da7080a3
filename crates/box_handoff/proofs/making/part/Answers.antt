use Rattle.std.proofs.Common.{ap, ◌∙◌, subst, suc, [], List}
use Rattle.box_handoff.specs.declared.views.Entry.{Entry}
use Rattle.box_handoff.specs.declared.views.View.{View}
use Rattle.box_handoff.specs.Entries.{In, given_of, unbegun, unbegun_below, front_of, last_of}
use Rattle.box_handoff.specs.Plays.{Mine}
use Rattle.box_handoff.specs.Cuts.{left_view, right_view}
use Rattle.box_handoff.proofs.Cutting.{cuts, front_is, last_is, below_step}
use Rattle.box_handoff.proofs.Opening.{in_below}
use Rattle.box_handoff.proofs.making.part.Goals as goal

pub split_seat-requires : goal.split_seat-requires
split_seat-requires c = (
  c.requires.table,
  c.requires.words,
  cuts (given_of c.args.table.now.key.value) _ c.args.seat.now.me.0 (unbegun_below c.args.last) (unbegun c.args.last)
      (ap (λ (x : Mine). x.0) c.requires.view
      ∙ ap (λ (x : List Entry). let w : View = record { given = given_of c.args.table.now.key.value; entries = x } in
      w) (below_step c.args.last))
      (λ e is. ap (λ (x : Entry). x.events) (in_below (suc c.args.last) e
      (subst (λ (x : Mine). In e x.0.entries) c.requires.view is)).2),
)

pub returns-clause-view : goal.returns-clause-view
returns-clause-view c = c.split_seat.ensures.2 ∙ ap (λ (x : Mine). let y : Mine = (left_view x.0, x.1) in
    y) c.requires.view
    ∙ ap (λ (x : List Entry). let y : Mine = (
      record { given = given_of c.args.table.now.key.value; entries = x },
      [],
    ) in y)
    (ap front_of (below_step c.args.last) ∙ front_is (unbegun_below c.args.last) (unbegun c.args.last))

pub returns-clause-other : goal.returns-clause-other
returns-clause-other c = (
  c.split_seat.ensures.3,
  c.split_seat.ensures.4 ∙ ap (λ (x : Mine). let y : Mine = (right_view x.0, []) in y) c.requires.view
      ∙ ap (λ (x : List Entry). let y : Mine = (
        record { given = given_of c.args.table.now.key.value; entries = x },
        [],
      ) in y)
      (ap last_of (below_step c.args.last) ∙ last_is (unbegun_below c.args.last) (unbegun c.args.last)),
)
