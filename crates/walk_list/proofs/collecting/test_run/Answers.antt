use Rattle.std.proofs.Common.{◌≡◌, ℕ, ◌<◌, ◌++◌, [], ◌∷◌, length, ap, sym, ◌∙◌, arith, append-nil}
use Rattle.std.proofs.lemmas.List.{get_or_default}
use Rattle.fixed_box.specs.Extent.{boxes_meet}
use Rattle.walk_list.specs.declared.records.Leaf.{Leaf}
use Rattle.walk_list.specs.Leaves.{leaf_at, no_leaf}
use Rattle.walk_list.proofs.Meetings.{met_between-none, with_leaf, without_leaf}
use Rattle.walk_list.proofs.collecting.test_run.Goals as goal
use Rattle.walk_list.proofs.collecting.test_run.Goals.{then-meet+in_ok-push, else-meet}

pub loop-position-init : goal.loop-position-init
loop-position-init c =
    sym (ap (λ xs. c.args.numbers.now.items ++ xs)
    (met_between-none c.args.leaves.now c.args.q.now c.args.first c.args.first (omega arith)) ∙ append-nil _)

pub loop-position-preserved : goal.loop-position-preserved
unfolding leaf_at
loop-position-preserved c =
    let x = c.index-leaves-position.result in
    let p : ℕ = c.loop-position.position in
    let within : p < length c.args.leaves.now = omega (arith, c.loop-position-test.true, c.requires.within) in
    let read : x ≡ leaf_at c.args.leaves.now p = c.index-leaves-position.is
    ∙ get_or_default c.args.leaves.now p x no_leaf within in
    elim c.if-meet.branch [
      | then-meet+in_ok-push w ↦
          ap (λ v. v.items) w.numbers-is
          ∙ (w.in_ok-push.ensures.items
          ∙ (ap (λ (l : Leaf). c.loop-position.numbers.items ++ l.number ∷ []) read
          ∙ with_leaf c.args.leaves.now c.args.q.now c.args.first p c.args.numbers.now.items
          c.loop-position.numbers.items c.loop-position.auto.position within
          (ap (λ (l : Leaf). boxes_meet l.fit c.args.q.now) (sym read) ∙ (sym c.meet.ensures ∙ w.if-meet.true))
          c.loop-position.invariant))
      | else-meet w ↦
          ap (λ v. v.items) w.numbers-is
          ∙ without_leaf c.args.leaves.now c.args.q.now c.args.first p c.args.numbers.now.items
          c.loop-position.numbers.items c.loop-position.auto.position within
          (ap (λ (l : Leaf). boxes_meet l.fit c.args.q.now) (sym read) ∙ (sym c.meet.ensures ∙ w.if-meet.false))
          c.loop-position.invariant
    ]
