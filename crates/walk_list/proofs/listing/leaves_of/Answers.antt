use Rattle.std.proofs.Common.{◌++◌, [], ◌∷◌, map, take, ap, sym, ◌∙◌, arith}
use Rattle.std.proofs.lemmas.List.{map_more, take_all}
use Rattle.walk_list.specs.Leaves.{leaf_of, leaves_of}
use Rattle.morton_key.specs.Keys.{key_at}
use Rattle.walk_list.proofs.listing.leaves_of.Goals as goal

pub loop-position-preserved : goal.loop-position-preserved
unfolding key_at
loop-position-preserved c =
    c.in_ok-push.ensures.items
    ∙ (ap (λ xs. xs ++ c.leaf_of.result ∷ []) c.loop-position.invariant
    ∙ (ap (λ x. map (leaf_of c.args.boxes.now) (take c.loop-position.position c.args.keys.now) ++ x ∷ [])
    c.leaf_of.ensures
    ∙ sym (map_more (leaf_of c.args.boxes.now) c.args.keys.now c.loop-position.position _
    (omega (arith, c.loop-position-test.true)))))

pub returns : goal.returns
unfolding leaves_of
returns c =
    c.loop-position.invariant
    ∙ ap (map (leaf_of c.args.boxes.now))
    (take_all c.loop-position.position c.args.keys.now (omega (arith, c.loop-position-test.false)))
