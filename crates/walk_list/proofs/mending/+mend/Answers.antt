use Rattle.std.proofs.Common.{◌≡◌, subst, ap, ◌∙◌, arith, rules}
use Rattle.walk_list.specs.declared.records.Record.{Record}
use Rattle.walk_list.specs.Records.{record_at}
use Rattle.walk_list.specs.Stale.{IsMovedBetween}
use Rattle.walk_list.proofs.Halving.{first_read, halved, cut_within, kept_covers, run_mended, run_fit, fork_mended, joined_fit}
use Rattle.walk_list.proofs.mending.+mend.Goals as goal

pub returns-then-not-holds : goal.returns-then-not-holds
returns-then-not-holds t c =
    let rs = c.args.records.now in
    let own : c.index-records-0.result ≡ record_at rs 0 =
    c.index-records-0.is ∙ first_read rs c.index-records-0.result c.requires.some in
    let none = subst (λ (r : Record). IsMovedBetween c.args.moved.now c.args.position r.end → ⊥) own
    (c.holds.ensures c.if-not-holds.true) in
    record {
      covers = kept_covers rs c.args.position (record_at rs 0).end c.requires.stale none;
      fit = ap (λ (r : Record). r.fit) own;
    }

pub returns-then-own-eq1 : goal.returns-then-own-eq1
returns-then-own-eq1 t c = record {
  covers = run_mended c.index-records-0-then-own-eq1.result c.requires.stale c.index-records-0.is c.if-own-eq1.true
      c.around-fit.ensures;
  fit = run_fit c.args.records.now _ c.requires.some;
}

pub split_at_mut-front-requires : goal.split_at_mut-front-requires
split_at_mut-front-requires t c =
    cut_within c.requires.stale c.index-records-0.is c.if-own-eq1.false c.index-records-1.is

pub mend-near-requires : goal.mend-near-requires
mend-near-requires t c =
    let h = halved c.requires.stale c.index-records-0.is c.if-own-eq1.false c.index-records-1.is
    c.split_at_mut-front.ensures.front c.split_at_mut-front.ensures.back c.split_at_mut-first.ensures.front
    c.split_at_mut-first.ensures.back in (
      omega (arith, h.cut, h.right_some),
      (
        h.left_some,
        (
          c.requires.rising,
          (
            c.requires.world,
            (omega (arith, h.left_end, h.middle, c.requires.within), h.left_covers),
          ),
        ),
      ),
    )

pub mend-far-requires : goal.mend-far-requires
mend-far-requires t c =
    let h = halved c.requires.stale c.index-records-0.is c.if-own-eq1.false c.index-records-1.is
    c.split_at_mut-front.ensures.front c.split_at_mut-front.ensures.back c.split_at_mut-first.ensures.front
    c.split_at_mut-first.ensures.back in (
      omega (arith, h.cut, h.left_some),
      (
        h.right_some,
        (
          c.requires.rising,
          (
            c.requires.world,
            (omega (arith, h.right_end, c.requires.within), h.right_covers),
          ),
        ),
      ),
    )

pub returns : goal.returns
returns t c =
    let h = halved c.requires.stale c.index-records-0.is c.if-own-eq1.false c.index-records-1.is
    c.split_at_mut-front.ensures.front c.split_at_mut-front.ensures.back c.split_at_mut-first.ensures.front
    c.split_at_mut-first.ensures.back in record {
      covers = fork_mended h c.union-fit.result c.mend-near.new.records c.mend-far.new.records c.index-first-0.result
          (search rules) (search rules) c.mend-near.ensures.covers c.mend-far.ensures.covers c.mend-near.ensures.fit
          c.mend-far.ensures.fit c.union-fit.ensures.least;
      fit = joined_fit h c.union-fit.result c.mend-near.new.records c.mend-far.new.records c.index-first-0.result;
    }
