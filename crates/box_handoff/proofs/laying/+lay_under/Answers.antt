use Rattle.std.proofs.Common.{arith, ap, ◌∙◌, sym, subst, ◌<◌, length}
use Rattle.radix_tree.specs.declared.nodes.Child.{Child}
use Rattle.radix_tree.specs.Ranges.{HasRange}
use Rattle.radix_tree.specs.Filling.{IsChild, span_of}
use Rattle.radix_tree.proofs.DescentLaws.{low_at, high_at, last_at, child_from_range, span_from_range}
use Rattle.box_handoff.proofs.LayLaws.{under_leaf, under_still, under_live}
use Rattle.box_handoff.proofs.laying.+lay_under.Goals as goal

pub returns-in_default : goal.returns-in_default
returns-in_default t c = λ a b range. under_leaf c.args.m.now c.requires.moves c.in_default.field-0 a b
    (subst (λ (x : Child). HasRange c.args.m.now.tree.now.keys x a b) c.in_default.is range) c.args.laid.now

pub returns-then-not-is_live : goal.returns-then-not-is_live
returns-then-not-is_live t c = λ a b range. under_still c.args.m.now c.requires.moves c.in-Inner.number
    (subst (λ (x : Child). IsChild c.args.m.now.tree.now x) c.in-Inner.is c.requires.child) c.node_of-node.result
    c.node_of-node.ensures.value (sym c.is_live.ensures ∙ c.if-not-is_live.true) c.args.laid.now a b
    (subst (λ (x : Child). HasRange c.args.m.now.tree.now.keys x a b) c.in-Inner.is range)

pub lay_under-requires : goal.lay_under-requires
lay_under-requires t c =
    let lt : c.in-Inner.number < length c.args.m.now.tree.now.nodes = subst
    (λ (x : Child). IsChild c.args.m.now.tree.now x) c.in-Inner.is c.requires.child in (
      omega (
        arith,
        ap (span_of c.args.m.now.tree.now) c.in-Inner.is,
        low_at c.args.m.now.tree.now c.requires.moves.table c.in-Inner.number lt,
        high_at c.args.m.now.tree.now c.requires.moves.table c.in-Inner.number lt,
        span_from_range c.args.m.now.tree.now c.requires.moves.table c.left.result _ _ c.left.ensures,
      ),
      (
        c.requires.moves,
        child_from_range c.args.m.now.tree.now c.requires.moves.table c.left.result _ _ (omega (
          arith,
          high_at c.args.m.now.tree.now c.requires.moves.table c.in-Inner.number lt,
          last_at c.args.m.now.tree.now c.requires.moves.table c.in-Inner.number lt,
        )) c.left.ensures,
      ),
    )

pub lay_under-requires-2 : goal.lay_under-requires-2
lay_under-requires-2 t c =
    let lt : c.in-Inner.number < length c.args.m.now.tree.now.nodes = subst
    (λ (x : Child). IsChild c.args.m.now.tree.now x) c.in-Inner.is c.requires.child in (
      omega (
        arith,
        ap (span_of c.args.m.now.tree.now) c.in-Inner.is,
        low_at c.args.m.now.tree.now c.requires.moves.table c.in-Inner.number lt,
        high_at c.args.m.now.tree.now c.requires.moves.table c.in-Inner.number lt,
        span_from_range c.args.m.now.tree.now c.requires.moves.table c.right.result _ _ c.right.ensures,
      ),
      (
        c.requires.moves,
        child_from_range c.args.m.now.tree.now c.requires.moves.table c.right.result _ _
            (last_at c.args.m.now.tree.now c.requires.moves.table c.in-Inner.number lt) c.right.ensures,
      ),
    )

pub returns : goal.returns
returns t c = λ a b range.
    let lt : c.in-Inner.number < length c.args.m.now.tree.now.nodes = subst
    (λ (x : Child). IsChild c.args.m.now.tree.now x) c.in-Inner.is c.requires.child in
    under_live c.args.m.now c.requires.moves c.in-Inner.number lt c.node_of-node.result c.node_of-node.ensures.value
    c.left.result c.right.result c.left.ensures c.right.ensures (sym c.is_live.ensures ∙ c.if-not-is_live.false)
    c.args.laid.now c.lay_under.new.laid c.lay_node.new.laid c.lay_under-2.new.laid c.in_ok-lay_under.ensures
    c.in_ok-lay_node.ensures c.lay_under-2.result c.lay_under-2.ensures a b
    (subst (λ (x : Child). HasRange c.args.m.now.tree.now.keys x a b) c.in-Inner.is range)
