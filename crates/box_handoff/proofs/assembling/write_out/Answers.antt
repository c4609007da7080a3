use Rattle.std.proofs.Common.{arith, refl, sym, subst, ◌∙◌, ◌<◌, ◌-◌, length}
use Rattle.box_handoff.specs.Entries.{given_of}
use Rattle.box_handoff.specs.Gathering.{AreFlags, IsTaken}
use Rattle.box_handoff.proofs.FrameOf.{live_few}
use Rattle.box_handoff.proofs.ReadLaws.{has_before}
use Rattle.arrival_core.specs.declared.packets.Side.TheVariants.{Left, Right}
use Rattle.radix_tree.proofs.OneTable.{table_is}
use Rattle.box_handoff.proofs.WholeFrame.{whole_count, whole_split}
use Rattle.box_handoff.proofs.AssembleLaws.{none_written, rows_written, rows_count, all_out}
use Rattle.box_handoff.proofs.assembling.write_out.Goals as goal

pub loop-t-init : goal.loop-t-init
loop-t-init c = (
  record {
    taking = has_before _ _ _ _ _ _ _ _ _ c.requires.taking c.take-here.ensures.others.0 c.take-here.ensures.others.1
        c.take-here.ensures.others.2 c.take-here.ensures.value;
    count = c.requires.room ∙ whole_count _ c.requires.given c.requires.whole;
    written = none_written c.args.about.now.keys.now c.requires.whole.lawful c.args.about.now.boxes.now _;
  },
  c.take-here.ensures.others.3,
)

pub batches_of-base-requires : goal.batches_of-base-requires
batches_of-base-requires c = let l = live_few _ c.requires.given in omega (arith, l, c.requires.given.task.lawful.few)

pub take-here-requires : goal.take-here-requires
take-here-requires c =
    let t = c.requires.taking in
    (omega (arith, t.places), t.full 0 (omega arith) (omega (arith, t.places)))

pub take_slots-left-requires-clause-flags : goal.take_slots-left-requires-clause-flags
take_slots-left-requires-clause-flags c = subst (λ w. AreFlags (given_of c.args.about.now) w.items w.filled w.len)
    (sym c.loop-t.invariant.1) c.requires.flags

pub put_taken-requires-clause-left : goal.put_taken-requires-clause-left
put_taken-requires-clause-left c =
    let n = whole_count _ c.requires.given c.requires.whole in
    let lt : c.loop-t.t < length c.args.about.now.keys.now - 1
    = omega (arith, c.loop-t-test.true, c.len-t-end.ensures, c.args.nodes.ok, c.requires.room, n) in
    subst (λ s. IsTaken (given_of c.args.about.now) s Left c.take_slots-left.result.0)
    (whole_split _ c.requires.given c.requires.whole c.loop-t.t lt) c.take_slots-left.ensures.left

pub put_taken-requires-clause-right : goal.put_taken-requires-clause-right
put_taken-requires-clause-right c =
    let n = whole_count _ c.requires.given c.requires.whole in
    let lt : c.loop-t.t < length c.args.about.now.keys.now - 1
    = omega (arith, c.loop-t-test.true, c.len-t-end.ensures, c.args.nodes.ok, c.requires.room, n) in
    subst (λ s. IsTaken (given_of c.args.about.now) s Right c.take_slots-left.result.1)
    (whole_split _ c.requires.given c.requires.whole c.loop-t.t lt) c.take_slots-left.ensures.right

pub loop-t-preserved : goal.loop-t-preserved
loop-t-preserved c =
    let n = whole_count _ c.requires.given c.requires.whole in
    let lt : c.loop-t.t < length c.args.about.now.keys.now - 1
    = omega (arith, c.loop-t-test.true, c.len-t-end.ensures, c.args.nodes.ok, c.requires.room, n) in (
      record {
        taking = c.take_slots-left.ensures.taking;
        count = rows_count _ _ c.loop-t.t _ _ c.put_taken.ensures ∙ c.loop-t.invariant.0.count;
        written = rows_written _ c.requires.whole.lawful _ _ lt _ _ refl refl _ _ c.loop-t.invariant.0.count
            c.put_taken.ensures c.loop-t.invariant.0.written;
      },
      c.take_slots-left.ensures.flags ∙ c.loop-t.invariant.1,
    )

pub returns-clause-table : goal.returns-clause-table
returns-clause-table c =
    let n = whole_count _ c.requires.given c.requires.whole in
    (all_out _ c.requires.whole _ _ _ _ _ _ c.loop-t.invariant.0 (omega (
      arith,
      c.loop-t-test.false,
      c.len-t-end.ensures,
      c.args.nodes.ok,
      c.requires.room,
      n,
    ))).table

pub returns-clause-fitted : goal.returns-clause-fitted
returns-clause-fitted c =
    let n = whole_count _ c.requires.given c.requires.whole in
    (all_out _ c.requires.whole _ _ _ _ _ _ c.loop-t.invariant.0 (omega (
      arith,
      c.loop-t-test.false,
      c.len-t-end.ensures,
      c.args.nodes.ok,
      c.requires.room,
      n,
    ))).fitted

pub returns-clause-value : goal.returns-clause-value
returns-clause-value c =
    table_is (record { keys = c.args.about.now.keys.now; nodes = c.loop-t.nodes.items }) c.args.about.now.boxes.now
    (returns-clause-table c) (returns-clause-fitted c)
