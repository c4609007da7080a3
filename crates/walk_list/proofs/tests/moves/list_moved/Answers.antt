use Rattle.std.proofs.Common.{◌+◌, ◌∙◌, ℕ, subst, sym, ap, arith}
use Rattle.walk_list.specs.declared.records.Leaf.{Leaf}
use Rattle.walk_list.specs.Leaves.{leaf_at}
use Rattle.walk_list.specs.Stale.{IsFitTo, ListsMoved}
use Rattle.refit.proofs.Listed.{told_false, lists_none, lists_one, lists_same}
use Rattle.walk_list.proofs.Moved.{leaf_read}
use Rattle.walk_list.proofs.tests.moves.list_moved.Goals as goal
use Rattle.walk_list.proofs.tests.moves.list_moved.Goals.{then-not-has_box+in_ok-push, else-not-has_box}

pub loop-position-init : goal.loop-position-init
loop-position-init c =
    lists_none (λ p. IsFitTo c.args.boxes.now (leaf_at c.args.leaves.now p)) c.args.moved.now.items c.requires.empty

pub overflow_sub-leaf : goal.overflow_sub-leaf
overflow_sub-leaf c =
    let r = leaf_read c.loop-position.position c.index-leaves-position.result c.requires.boxes
    (omega (arith, c.loop-position-test.true)) c.index-leaves-position.is in
    omega (arith, r.from_one)

pub bounds-boxes-leaf : goal.bounds-boxes-leaf
bounds-boxes-leaf c =
    let r = leaf_read c.loop-position.position c.index-leaves-position.result c.requires.boxes
    (omega (arith, c.loop-position-test.true)) c.index-leaves-position.is in
    r.inside

pub loop-position-preserved : goal.loop-position-preserved
loop-position-preserved c =
    let leaves = c.args.leaves.now in
    let p : ℕ = c.loop-position.position in
    let fits : ℕ → Type 0 = λ q. IsFitTo c.args.boxes.now (leaf_at leaves q) in
    let r = leaf_read c.loop-position.position c.index-leaves-position.result c.requires.boxes
    (omega (arith, c.loop-position-test.true)) c.index-leaves-position.is in
    let boxed = r.own c.index-boxes-leaf.is in
    elim c.if-not-has_box.branch [
      | then-not-has_box+in_ok-push w ↦
          subst (ListsMoved leaves c.args.boxes.now (p + 1))
          (sym (ap (λ v. v.items) w.moved-is ∙ w.in_ok-push.ensures.items))
          (lists_one fits p c.loop-position.moved.items c.loop-position.invariant
          (subst (λ (l : Leaf). IsFitTo c.args.boxes.now l → ⊥) r.is
          (λ fit. told_false c.has_box.result c.has_box.ensures w.if-not-has_box.true (fit ∙ sym boxed))))
      | else-not-has_box w ↦
          subst (ListsMoved leaves c.args.boxes.now (p + 1)) (sym (ap (λ v. v.items) w.moved-is))
          (lists_same fits p c.loop-position.moved.items c.loop-position.invariant
          (subst (IsFitTo c.args.boxes.now) r.is (c.has_box.ensures.0 w.if-not-has_box.false ∙ boxed)))
    ]
