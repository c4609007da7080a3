use Rattle.std.proofs.Common.{◌≡◌, arith, rules, inl, inr, refl, length}
use Rattle.radix_tree.proofs.FitLaws.{least_of_leaf_at}
use Rattle.radix_tree.proofs.NodeLaws.{node_below, node_end, left_node, right_node, full_row}
use Rattle.radix_tree.proofs.FillLaws.{below_cases, none_below, row_here, row_kept}
use Rattle.radix_tree.proofs.building.+fill.Goals as goal

pub returns-then-first-last-clause-fit : goal.returns-then-first-last-clause-fit
returns-then-first-last-clause-fit t c =
    least_of_leaf_at c.args.boxes.now c.args.keys.now c.args.first c.args.last c.box_at.result c.if-first-last.true
    (omega arith) c.box_at.ensures

pub returns-then-first-last-clause-made : goal.returns-then-first-last-clause-made
returns-then-first-last-clause-made t c = λ k b. none_below c.args.number c.args.first c.args.last k _
    c.if-first-last.true c.requires.end b

pub fill-left-requires : goal.fill-left-requires
fill-left-requires t c = (
  omega (arith, c.split_of-split.ensures.high),
  (
    c.requires.lawful,
    (
      c.requires.count,
      (
        search rules,
        (
          c.split_of-split.ensures.low,
          (
            omega (arith, c.split_of-split.ensures.high),
            (
              inr refl,
              λ lt. left_node c.args.keys.now c.requires.lawful (c.requires.node (omega arith)) c.split_of-split.result
                  c.split_of-split.ensures.value lt,
            ),
          ),
        ),
      ),
    ),
  ),
)

pub fill-right-requires : goal.fill-right-requires
fill-right-requires t c = (
  omega (arith, c.split_of-split.ensures.high, c.split_of-split.ensures.low),
  (
    c.requires.lawful,
    (
      c.requires.count,
      (
        search rules,
        (
          omega (arith, c.split_of-split.ensures.high),
          (
            c.requires.within,
            (
              inl refl,
              λ lt. right_node c.args.keys.now c.requires.lawful (c.requires.node (omega arith))
                  c.split_of-split.result c.split_of-split.ensures.value lt,
            ),
          ),
        ),
      ),
    ),
  ),
)

pub bounds-nodes-number : goal.bounds-nodes-number
bounds-nodes-number t c =
    let room : length c.fill-right.new.nodes ≡ length c.args.nodes.now = search rules in
    omega (arith, node_below c.args.keys.now c.requires.lawful (c.requires.node (omega arith)))

pub returns-clause-fit : goal.returns-clause-fit
returns-clause-fit t c =
    (full_row c.args.keys.now c.requires.lawful c.args.boxes.now (c.requires.node (omega arith))
    c.split_of-split.result c.fill-left.result c.fill-right.result c.union-fit.result
    c.split_of-split.ensures.value c.fill-left.ensures.fit c.fill-right.ensures.fit c.union-fit.ensures.least).fit

pub returns-clause-kept : goal.returns-clause-kept
returns-clause-kept t c = λ k h.
    row_kept c.args.keys.now c.args.boxes.now c.fill-right.new.nodes c.args.number k _
    (full_row c.args.keys.now c.requires.lawful c.args.boxes.now (c.requires.node (omega arith))
    c.split_of-split.result c.fill-left.result c.fill-right.result c.union-fit.result
    c.split_of-split.ensures.value c.fill-left.ensures.fit c.fill-right.ensures.fit c.union-fit.ensures.least)
    (c.fill-right.ensures.kept k (c.fill-left.ensures.kept k h))

pub returns-clause-made : goal.returns-clause-made
returns-clause-made t c = λ k b.
    let row = full_row c.args.keys.now c.requires.lawful c.args.boxes.now (c.requires.node (omega arith))
    c.split_of-split.result c.fill-left.result c.fill-right.result c.union-fit.result
    c.split_of-split.ensures.value c.fill-left.ensures.fit c.fill-right.ensures.fit c.union-fit.ensures.least in
    let end = node_end c.args.keys.now c.requires.lawful (c.requires.node (omega arith)) in
    elim (below_cases c.args.number c.args.first c.args.last c.split_of-split.result k c.split_of-split.ensures.low
    c.split_of-split.ensures.high end b) [
      | inl own ↦ row_here c.args.keys.now c.args.boxes.now c.fill-right.new.nodes c.args.number k _ own row
      | inr (inl left) ↦ row_kept c.args.keys.now c.args.boxes.now c.fill-right.new.nodes c.args.number k _ row
          (c.fill-right.ensures.kept k (c.fill-left.ensures.made k left))
      | inr (inr right) ↦ row_kept c.args.keys.now c.args.boxes.now c.fill-right.new.nodes c.args.number k _ row
          (c.fill-right.ensures.made k right)
    ]
