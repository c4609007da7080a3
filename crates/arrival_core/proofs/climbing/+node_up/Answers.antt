use Rattle.std.proofs.Common.{◌≢◌, arith, ◌∙◌, ap}
use Rattle.arrival_core.proofs.Descending.{read, inner_on_left, inner_on_right, above_inner_left, above_inner_right}
use Rattle.arrival_core.proofs.climbing.+node_up.Goals as goal

pub node_of-requires : goal.node_of-requires
node_of-requires t c = (inner_on_left c.args.t.now c.requires.table c.args.number c.requires.number
    c.node_of-node.result c.node_of-node.ensures.value c.left.result c.in-Inner.below c.in-Inner.is
    c.left.ensures).inside

pub node_of-requires-in-Inner-right : goal.node_of-requires-in-Inner-right
node_of-requires-in-Inner-right t c = (inner_on_right c.args.t.now c.requires.table c.args.number c.requires.number
    c.node_of-node.result c.node_of-node.ensures.value c.right.result c.in-Inner-right.below c.in-Inner-right.is
    c.right.ensures).inside

pub node_up-requires : goal.node_up-requires
node_up-requires t c =
    let x = read c.args.t.now c.requires.table c.args.number c.requires.number c.node_of-node.result
    c.node_of-node.ensures.value in
    let r = inner_on_left c.args.t.now c.requires.table c.args.number c.requires.number c.node_of-node.result
    c.node_of-node.ensures.value c.left.result c.in-Inner.below c.in-Inner.is c.left.ensures in (
      omega (arith, r.first_is, r.last_is, x.low, x.high, x.first_is, x.last_is),
      (
        r.inside,
        (
          omega (arith, r.first_is, x.first_is),
          (
            omega (arith, r.last_is),
            ((λ e. c.if-node_of-s.false (ap (λ y. y.split) c.node_of.ensures.value ∙ e)), c.requires.table),
          ),
        ),
      ),
    )

pub node_up-requires-else-node_of-s-2 : goal.node_up-requires-else-node_of-s-2
node_up-requires-else-node_of-s-2 t c =
    let x = read c.args.t.now c.requires.table c.args.number c.requires.number c.node_of-node.result
    c.node_of-node.ensures.value in
    let r = inner_on_right c.args.t.now c.requires.table c.args.number c.requires.number c.node_of-node.result
    c.node_of-node.ensures.value c.right.result c.in-Inner-right.below c.in-Inner-right.is c.right.ensures in
    let ne : c.node_of-node.result.split ≢ c.args.s = λ e. c.requires.other (x.part_is ∙ e) in (
      omega (arith, r.first_is, r.last_is, x.low, x.high, x.first_is, x.last_is),
      (
        r.inside,
        (
          omega (arith, r.first_is, ne),
          (
            omega (arith, r.last_is, x.last_is),
            (
              (λ e. c.if-node_of-s-2.false (ap (λ y. y.split) c.node_of-in-Inner-right.ensures.value ∙ e)),
              c.requires.table,
            ),
          ),
        ),
      ),
    )

pub returns-then-node_of-s : goal.returns-then-node_of-s
returns-then-node_of-s t c =
    let r = inner_on_left c.args.t.now c.requires.table c.args.number c.requires.number c.node_of-node.result
    c.node_of-node.ensures.value c.left.result c.in-Inner.below c.in-Inner.is c.left.ensures in
    above_inner_left c.args.t.now c.requires.table c.args.number c.requires.number c.node_of-node.result
    c.node_of-node.ensures.value c.in-Inner.below c.args.s c.node_of.result r c.node_of.ensures.value
    c.if-node_of-s.true

pub returns-then-node_of-s-2 : goal.returns-then-node_of-s-2
returns-then-node_of-s-2 t c =
    let r = inner_on_right c.args.t.now c.requires.table c.args.number c.requires.number c.node_of-node.result
    c.node_of-node.ensures.value c.right.result c.in-Inner-right.below c.in-Inner-right.is c.right.ensures in
    above_inner_right c.args.t.now c.requires.table c.args.number c.requires.number c.node_of-node.result
    c.node_of-node.ensures.value c.in-Inner-right.below c.args.s c.node_of-in-Inner-right.result r
    c.node_of-in-Inner-right.ensures.value c.if-node_of-s-2.true
