use Rattle.std.proofs.Common.{ℕ, length, ap, arith, sym, ◌∙◌, subst}
use Rattle.std.proofs.lemmas.Bool.Decides.{nat_tests}
use Rattle.std.proofs.lemmas.List.{nil_from_length}
use Rattle.radix_tree.specs.Ranges.{HasRange}
use Rattle.refit.specs.Stale.{AreFittedBut, AreParted}
use Rattle.refit.proofs.StaleParts.{none_stale, none_stale_fit, near_stale, later_stale}
use Rattle.radix_tree.specs.Filling.{HasRow, IsChild, span_of}
use Rattle.refit.specs.Subtrees.{IsUnder}
use Rattle.refit.proofs.Subtrees.{children, first_child, first_smaller, second_child, second_smaller}
use Rattle.refit.proofs.FittedRows.{HasUnion, round_there, IsRound, round_node, put_table, put_kept, put_made}
use Rattle.refit.proofs.refitting.+fit_under.Goals.{After-put}
use Rattle.refit.proofs.refitting.+fit_under.Goals as goal

pub fit_under-round_first-requires : goal.fit_under-round_first-requires
fit_under-round_first-requires t c =
    let tree = c.args.tree.now in
    let kids = children tree c.in-Inner.number c.args.child c.left-first.result c.right-second.result c.in-Inner.is
    c.requires.child c.left-first.ensures c.right-second.ensures in (
      omega (
        arith,
        ap (span_of tree) c.in-Inner.is,
        first_smaller tree c.requires.table c.in-Inner.number c.left-first.result c.right-second.result kids,
      ),
      (
        c.requires.table,
        (
          c.requires.count,
          (
            first_child tree c.requires.table c.in-Inner.number c.left-first.result c.right-second.result kids,
            (
              c.parted.ensures.near_rises,
              near_stale tree c.requires.table c.args.boxes.now c.in-Inner.number c.left-first.result
                  c.right-second.result kids c.args.moved.now c.parted.result.0.now c.parted.result.1.now
                  (subst (λ s. AreParted c.args.moved.now s c.parted.result.0.now c.parted.result.1.now)
                  (ap (λ n. n.split) c.node_of-node.ensures.value) c.parted.ensures)
                  (subst (AreFittedBut c.args.moved.now tree.keys c.args.boxes.now tree.nodes) c.in-Inner.is
                  c.requires.stale),
            ),
          ),
        ),
      ),
    )

pub fit_under-round_second-requires : goal.fit_under-round_second-requires
fit_under-round_second-requires t c =
    let tree = c.args.tree.now in
    let later = c.fit_under-round_first.new.tree in
    let table = c.fit_under-round_first.ensures.table in
    let keys = c.fit_under-round_first.ensures.keys in
    let kids = children tree c.in-Inner.number c.args.child c.left-first.result c.right-second.result c.in-Inner.is
    c.requires.child c.left-first.ensures c.right-second.ensures in (
      omega (
        arith,
        ap (span_of tree) c.in-Inner.is,
        second_smaller tree c.requires.table c.in-Inner.number c.left-first.result c.right-second.result kids later table
            keys,
      ),
      (
        table,
        (
          omega (arith, c.requires.count, ap length keys),
          (
            second_child tree c.requires.table c.in-Inner.number c.left-first.result c.right-second.result kids later table
                keys,
            (
              c.parted.ensures.far_rises,
              later_stale tree c.requires.table c.args.boxes.now c.in-Inner.number c.left-first.result
                  c.right-second.result kids c.args.moved.now c.parted.result.0.now c.parted.result.1.now
                  (subst (λ s. AreParted c.args.moved.now s c.parted.result.0.now c.parted.result.1.now)
                  (ap (λ n. n.split) c.node_of-node.ensures.value) c.parted.ensures)
                  (subst (AreFittedBut c.args.moved.now tree.keys c.args.boxes.now tree.nodes) c.in-Inner.is
                  c.requires.stale) later keys c.fit_under-round_first.ensures.kept,
            ),
          ),
        ),
      ),
    )

-- a node whose sides are fitted has the union of their boxes
after : (t : ℕ) (c : After-put t) →
    HasUnion c.args.tree.now c.fit_under-round_second.new.tree c.put.new.self c.args.boxes.now c.in-Inner.number
    c.left-first.result c.right-second.result c.fit_under-round_first.result c.fit_under-round_second.result
    c.union-fit.result
after t c = record {
  table = c.requires.table;
  kids = children c.args.tree.now c.in-Inner.number c.args.child c.left-first.result c.right-second.result c.in-Inner.is
      c.requires.child c.left-first.ensures c.right-second.ensures;
  round_first = c.fit_under-round_first.ensures.fit;
  round_second = round_there c.args.tree.now c.fit_under-round_first.new.tree c.args.boxes.now c.right-second.result
      c.fit_under-round_second.result c.fit_under-round_first.ensures.keys c.fit_under-round_second.ensures.fit;
  join = c.union-fit.ensures.least;
  later = c.fit_under-round_second.ensures.table;
  keys = c.fit_under-round_second.ensures.keys ∙ c.fit_under-round_first.ensures.keys;
  same = c.put.ensures.keys;
  put = c.put.ensures.nodes;
}

pub returns-else-is_empty-clause-table : goal.returns-else-is_empty-clause-table
returns-else-is_empty-clause-table t c = put_table (after t c)

pub returns-else-is_empty-clause-fit : goal.returns-else-is_empty-clause-fit
returns-else-is_empty-clause-fit t c =
    subst (λ child. IsRound c.args.tree.now c.args.boxes.now child c.union-fit.result) (sym c.in-Inner.is)
    (round_node (after t c))

-- what the second fit keeps, over the keys of the tree
second_kept : (t : ℕ) (c : After-put t) (k : ℕ) →
    HasRow c.args.tree.now.keys c.args.boxes.now c.fit_under-round_first.new.tree.nodes k →
    HasRow c.args.tree.now.keys c.args.boxes.now c.fit_under-round_second.new.tree.nodes k
second_kept t c k =
    subst (λ ks. HasRow ks c.args.boxes.now c.fit_under-round_first.new.tree.nodes k →
    HasRow ks c.args.boxes.now c.fit_under-round_second.new.tree.nodes k) c.fit_under-round_first.ensures.keys
    (c.fit_under-round_second.ensures.kept k)

pub returns-else-is_empty-clause-kept : goal.returns-else-is_empty-clause-kept
returns-else-is_empty-clause-kept t c = λ k row.
    put_kept (after t c) k (second_kept t c k (c.fit_under-round_first.ensures.kept k row))

pub returns-else-is_empty-clause-made : goal.returns-else-is_empty-clause-made
returns-else-is_empty-clause-made t c = λ k under.
    put_made (after t c) (λ j in_first. second_kept t c j (c.fit_under-round_first.ensures.made j in_first))
    (λ j. subst (λ ks. IsUnder ks c.right-second.result j →
    HasRow ks c.args.boxes.now c.fit_under-round_second.new.tree.nodes j) c.fit_under-round_first.ensures.keys
    (c.fit_under-round_second.ensures.made j)) k
    (subst (λ child. IsUnder c.args.tree.now.keys child k) c.in-Inner.is under)

pub returns-then-is_empty-clause-fit : goal.returns-then-is_empty-clause-fit
returns-then-is_empty-clause-fit t c = λ a b range.
    let tree = c.args.tree.now in
    let inside = subst (IsChild tree) c.in-Inner.is c.requires.child in
    let stale = subst (AreFittedBut c.args.moved.now tree.keys c.args.boxes.now tree.nodes) c.in-Inner.is
    c.requires.stale in
    none_stale_fit tree c.requires.table c.args.boxes.now c.args.moved.now c.in-Inner.number
    c.node_of-node.result a b inside (nil_from_length c.args.moved.now (grind (arith, nat_tests, c.is_empty.ensures))) c.node_of-node.ensures.value stale
    (subst (λ child. HasRange tree.keys child a b) c.in-Inner.is range)

pub returns-then-is_empty-clause-made : goal.returns-then-is_empty-clause-made
returns-then-is_empty-clause-made t c = λ k under.
    none_stale c.args.tree.now c.requires.table c.args.boxes.now c.args.moved.now c.args.child k (nil_from_length c.args.moved.now (grind (arith, nat_tests, c.is_empty.ensures)))
    c.requires.stale under
