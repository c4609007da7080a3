use Rattle.std.proofs.Common.{◌<◌, ap, sym, ◌∙◌, arith, subst, inl, inr, length}
use Rattle.std.proofs.lemmas.Bool.{cases_eq}
use Rattle.radix_tree.specs.Table.{node_at}
use Rattle.radix_tree.proofs.DescentLaws.{high_at, last_at}
use Rattle.arrival_core.specs.Forks.{fork_at}
use Rattle.arrival_core.specs.Terrains.{IsStartFork, frame_at}
use Rattle.arrival_core.proofs.StartLaws.{start_more, number_of}
use Rattle.arrival_core.proofs.starting.start_forks.Goals as goal

pub bounds-forks-split : goal.bounds-forks-split
bounds-forks-split c =
    let tree = c.args.g.now.tree.now in
    let inside : c.loop-number.number < length tree.nodes = omega (arith, c.requires.nodes, c.loop-number-test.true) in
    let h = high_at c.args.g.now.tree.now c.requires.terrain.table c.loop-number.number inside in
    let l = last_at c.args.g.now.tree.now c.requires.terrain.table c.loop-number.number inside in
    omega (
      arith,
      h,
      l,
      ap (λ x. x.split) c.node_of-split.ensures.value,
      c.loop-number.auto.forks,
      c.requires.nodes,
      c.requires.terrain.table.count,
    )

pub loop-number-preserved : goal.loop-number-preserved
loop-number-preserved c = λ workers j some less.
    let e = ap (λ x. x.split) c.node_of-split.ensures.value in
    start_more (frame_at c.args.g.now workers) c.loop-number.forks c.node_of-split.result.split
    (node_at c.args.g.now.tree.now.nodes j).split c.fork_of-fork.result (bounds-forks-split c)
    (subst (λ s. IsStartFork (frame_at c.args.g.now workers) s c.fork_of-fork.result) (sym e)
    (c.fork_of-fork.ensures workers some))
    (λ ne. c.loop-number.invariant workers j some (elim (cases_eq j c.loop-number.number) [
      | inl z ↦ absurd (ne (e ∙ ap (λ k. (node_at c.args.g.now.tree.now.nodes k).split) (sym z)))
      | inr z ↦ omega arith
    ]))

pub returns : goal.returns
returns c = λ workers t some less.
    let n = number_of c.args.g.now.tree.now c.requires.terrain.table t
    (omega (arith, c.loop-number.auto.forks, c.requires.nodes)) in
    subst (λ t. IsStartFork (frame_at c.args.g.now workers) t (fork_at c.loop-number.forks t)) n.2
    (c.loop-number.invariant workers n.0 some (omega (arith, n.1, c.loop-number-test.false, c.requires.nodes)))
