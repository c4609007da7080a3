use Rattle.std.proofs.Common.{◌+◌, ◌∙◌, arith, ap, subst, sym}
use Rattle.morton_key.specs.Keys.{key_at, tri_at}
use Rattle.refit.specs.Listing.{ListsBut}
use Rattle.refit.proofs.Listed.{lists_one, lists_same}
use Rattle.world_index.specs.Live.{StandsStill}
use Rattle.world_index.proofs.live.by_pass.Goals as goal
use Rattle.world_index.proofs.live.by_pass.Goals.{then-uses_marked+in_ok-push, else-uses_marked}

pub overflow_sub-keys : goal.overflow_sub-keys
unfolding tri_at key_at
overflow_sub-keys c = c.requires.lawful.from_one c.loop-position.position c.loop-position-test.true

pub bounds-faces-keys : goal.bounds-faces-keys
unfolding tri_at key_at
bounds-faces-keys c =
    let p = c.loop-position.position in
    let lt = c.loop-position-test.true in
    omega (arith, c.requires.lawful.from_one p lt, c.requires.lawful.to_count p lt, c.requires.faces)

pub uses_marked-requires : goal.uses_marked-requires
unfolding tri_at key_at
uses_marked-requires c =
    let p = c.loop-position.position in
    let lt = c.loop-position-test.true in
    c.requires.named _ _
    (omega (arith, c.requires.lawful.from_one p lt, c.requires.lawful.to_count p lt, c.requires.faces))

pub loop-position-preserved : goal.loop-position-preserved
unfolding tri_at key_at
loop-position-preserved c =
    let p = c.loop-position.position in
    let stands = StandsStill c.args.faces.now c.args.keys.now c.args.marks.now.moved in
    elim c.if-uses_marked.branch [
      | then-uses_marked+in_ok-push w ↦
          subst (ListsBut stands (p + 1)) (sym (ap (λ v. v.items) w.live-is ∙ w.in_ok-push.ensures.items))
          (lists_one stands p c.loop-position.live.items c.loop-position.invariant
          (c.uses_marked.ensures.moved w.if-uses_marked.true))
      | else-uses_marked w ↦
          subst (ListsBut stands (p + 1)) (sym (ap (λ v. v.items) w.live-is))
          (lists_same stands p c.loop-position.live.items c.loop-position.invariant
          (c.uses_marked.ensures.still w.if-uses_marked.false))
    ]
