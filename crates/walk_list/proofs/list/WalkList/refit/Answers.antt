use Rattle.std.proofs.Common.{refl, sym, ap, subst, rules}
use Rattle.walk_list.specs.Lists.{Contents}
use Rattle.walk_list.specs.Stale.{AreInWorld}
use Rattle.walk_list.proofs.Refits.{after_moves, lent_within, lent_stale, root_mended}
use Rattle.walk_list.proofs.list.WalkList.refit.Goals as goal

pub mend-requires-clause-world : goal.mend-requires-clause-world
mend-requires-clause-world c =
    let l = after_moves c.self.inside.leaves c.as_mut_slice.ensures.value c.move_leaves.ensures
    (ap (λ (f : Contents). f.leaves) c.self.view_is) c.requires.over c.requires.world in
    subst AreInWorld (sym c.as_slice.ensures.value) l.world

pub mend-requires-clause-within : goal.mend-requires-clause-within
mend-requires-clause-within c =
    let l = after_moves c.self.inside.leaves c.as_mut_slice.ensures.value c.move_leaves.ensures
    (ap (λ (f : Contents). f.leaves) c.self.view_is) c.requires.over c.requires.world in
    lent_within l c.self.inside.records c.self.invariant (search (rules, c.self.inside.records.ok.0))
    c.as_slice.ensures.value c.as_mut_slice-then-not-is_empty.ensures.value

pub mend-requires-clause-stale : goal.mend-requires-clause-stale
mend-requires-clause-stale c =
    let l = after_moves c.self.inside.leaves c.as_mut_slice.ensures.value c.move_leaves.ensures
    (ap (λ (f : Contents). f.leaves) c.self.view_is) c.requires.over c.requires.world in
    lent_stale l c.self.inside.records c.self.invariant (search (rules, c.self.inside.records.ok.0))
    c.as_slice.ensures.value c.as_mut_slice-then-not-is_empty.ensures.value

pub invariant_of-self : goal.invariant_of-self
invariant_of-self c =
    let l = after_moves c.self.inside.leaves c.as_mut_slice.ensures.value c.move_leaves.ensures
    (ap (λ (f : Contents). f.leaves) c.self.view_is) c.requires.over c.requires.world in
    root_mended l c.self.inside.records c.self.invariant (search (rules, c.self.inside.records.ok.0))
    c.as_slice.ensures.value c.as_mut_slice-then-not-is_empty.ensures.value c.mend.new.records (search rules)
    c.mend.ensures.covers

pub returns-then-not-is_empty-clause-over : goal.returns-then-not-is_empty-clause-over
returns-then-not-is_empty-clause-over c =
    let l = after_moves c.self.inside.leaves c.as_mut_slice.ensures.value c.move_leaves.ensures
    (ap (λ (f : Contents). f.leaves) c.self.view_is) c.requires.over c.requires.world in
    l.over _ refl

pub returns-else-not-is_empty-clause-over : goal.returns-else-not-is_empty-clause-over
returns-else-not-is_empty-clause-over c =
    let l = after_moves c.self.inside.leaves c.as_mut_slice.ensures.value c.move_leaves.ensures
    (ap (λ (f : Contents). f.leaves) c.self.view_is) c.requires.over c.requires.world in
    l.over _ refl
