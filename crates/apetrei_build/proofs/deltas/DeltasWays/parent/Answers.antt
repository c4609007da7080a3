use Rattle.std.proofs.Common.{arith, sym}
use Rattle.radix_tree.proofs.RangeLaws.{range_laws}
use Rattle.apetrei_build.proofs.OneTree.{same_range}
use Rattle.apetrei_build.proofs.ParentLaws.{left_told, right_told, none_told}
use Rattle.apetrei_build.proofs.deltas.DeltasWays.parent.Goals as goal

pub is_nearer_behind-requires : goal.is_nearer_behind-requires
is_nearer_behind-requires c = (range_laws c.requires.0 c.requires.1.lawful c.requires.2).order

pub returns-then-is_nearer_behind : goal.returns-then-is_nearer_behind
returns-then-is_nearer_behind c = λ keys is. sym (left_told keys c.args.self.now.measures.items is c.args.first
    c.args.last (same_range c.requires.0 keys _ c.requires.1 is c.requires.2)
    (c.is_nearer_behind.ensures.yes c.if-is_nearer_behind.true))

pub returns-then-first-eq0 : goal.returns-then-first-eq0
returns-then-first-eq0 c = λ keys is. sym (none_told keys c.args.self.now.measures.items is c.args.first c.args.last
    (same_range c.requires.0 keys _ c.requires.1 is c.requires.2) c.if-first-eq0.true
    (c.is_nearer_behind.ensures.no c.if-is_nearer_behind.false))

pub returns : goal.returns
returns c = λ keys is. sym (right_told keys c.args.self.now.measures.items is c.args.first c.args.last
    (same_range c.requires.0 keys _ c.requires.1 is c.requires.2) (omega arith)
    (c.is_nearer_behind.ensures.no c.if-is_nearer_behind.false))
