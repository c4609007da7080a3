use Rattle.std.proofs.Common.{◌∙◌}
use Rattle.karras_build.proofs.LinkLaws.{split_fits, none_linked, one_linked, all_linked, moved}
use Rattle.karras_build.proofs.links.links_of.Goals as goal

pub loop-i-init : goal.loop-i-init
loop-i-init c = none_linked _ _ _ c.in_ok-first.ensures c.in_ok-last.ensures

pub index_mut-requires : goal.index_mut-requires
index_mut-requires c = let s = c.requires.spans in
    split_fits s.0 s.1 _ _ _ _ s.2 c.loop-i-test.true
    (c.loop-i.first.ok.0 ∙ c.loop-i.invariant.firsts)

pub index_mut-requires-in-loop-i : goal.index_mut-requires-in-loop-i
index_mut-requires-in-loop-i c = let s = c.requires.spans in
    split_fits s.0 s.1 _ _ _ _ s.2 c.loop-i-test.true
    (c.loop-i.last.ok.0 ∙ c.loop-i.invariant.lasts)

pub loop-i-preserved : goal.loop-i-preserved
loop-i-preserved c = one_linked _ _ _ _ _ c.loop-i-test.true c.loop-i.invariant

pub returns : goal.returns
returns c keys ok are = moved keys _ _ _ _ c.by_split.ensures.first c.by_split.ensures.last
    (all_linked _ _ _ _ c.loop-i.invariant c.loop-i-test.false keys ok are)
