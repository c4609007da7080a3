use Rattle.std.proofs.Common.{◌≡◌, arith, sym, ap, ◌∙◌, subst, ℕ, List, length}
use Rattle.arrival_core.specs.declared.packets.Packet.{Packet}
use Rattle.arrival_core.specs.declared.packets.Side.TheVariants.{Left, Right}
use Rattle.box_handoff.specs.LiveNodes.{splits_of}
use Rattle.box_handoff.specs.Entries.{given_of, frame}
use Rattle.box_handoff.specs.Packets.{ArePacketsOf, child_packet}
use Rattle.box_handoff.proofs.NumberLaws.{counted}
use Rattle.box_handoff.proofs.FrameOf.{live_few}
use Rattle.box_handoff.specs.Gathering.{AreFlags}
use Rattle.box_handoff.proofs.ReadLaws.{one_more, has_before, listed_low}
use Rattle.box_handoff.proofs.gathering.read_out.Goals as goal

pub batches_of-base-requires : goal.batches_of-base-requires
batches_of-base-requires c = let l = live_few _ c.requires.given in omega (arith, l, c.requires.given.task.lawful.few)

pub take-here-requires : goal.take-here-requires
take-here-requires c =
    let t = c.requires.taking in
    (omega (arith, t.places), t.full 0 (omega arith) (omega (arith, t.places)))

pub loop-i-init : goal.loop-i-init
loop-i-init c = (
  record {
    taking = has_before _ _ _ _ _ _ _ _ _ c.requires.taking c.take-here.ensures.others.0 c.take-here.ensures.others.1
        c.take-here.ensures.others.2 c.take-here.ensures.value;
    lefts = record {
      count_is = ap (λ (l : List Packet). length l) c.requires.left_empty;
      each = λ i p lt. absurd (omega arith);
    };
    rights = record {
      count_is = ap (λ (l : List Packet). length l) c.requires.right_empty;
      each = λ i p lt. absurd (omega arith);
    };
  },
  c.requires.left_room,
  c.requires.right_room,
  c.take-here.ensures.others.3,
)

pub loop-i-preserved : goal.loop-i-preserved
loop-i-preserved c =
    let i = c.loop-i.invariant.0 in (
      record {
        taking = c.take_slots-on_left.ensures.taking;
        lefts = one_more _ _ _ _ _ _ _ _ i.lefts (c.taken_or_told.ensures
            ∙ ap (λ n. child_packet c.args.about.now.keys.now c.args.about.now.boxes.now n Left) c.spot_of-split.ensures)
            c.push_reserved.ensures.items;
        rights = one_more _ _ _ _ _ _ _ _ i.rights (c.taken_or_told-in-loop-i.ensures
            ∙ ap (λ n. child_packet c.args.about.now.keys.now c.args.about.now.boxes.now n Right) c.spot_of-split.ensures)
            c.push_reserved-in-loop-i.ensures.items;
      },
      omega (arith, c.push_reserved.ensures.capacity, c.loop-i.invariant.1),
      omega (arith, c.push_reserved-in-loop-i.ensures.capacity, c.loop-i.invariant.2),
      c.take_slots-on_left.ensures.flags ∙ c.loop-i.invariant.3,
    )

pub take_slots-on_left-requires-clause-flags : goal.take_slots-on_left-requires-clause-flags
take_slots-on_left-requires-clause-flags c = subst (λ w. AreFlags (given_of c.args.about.now) w.items w.filled w.len)
    (sym c.loop-i.invariant.3) c.requires.flags

pub taken_or_told-requires-clause-within : goal.taken_or_told-requires-clause-within
taken_or_told-requires-clause-within c = listed_low _ c.requires.given c.loop-i.i _
    (omega (arith, c.loop-i-test.true, c.loop-i.auto.i-end, c.requires.count)) c.spot_of-split.ensures

pub taken_or_told-requires-in-loop-i-clause-within : goal.taken_or_told-requires-in-loop-i-clause-within
taken_or_told-requires-in-loop-i-clause-within c = listed_low _ c.requires.given c.loop-i.i _
    (omega (arith, c.loop-i-test.true, c.loop-i.auto.i-end, c.requires.count)) c.spot_of-split.ensures

pub returns-clause-left : goal.returns-clause-left
returns-clause-left c =
    let k = counted _ c.requires.given in
    let end : c.loop-i.i ≡ length (splits_of (frame (given_of c.args.about.now))) = omega
    (arith, c.loop-i-test.false, c.loop-i.auto.i-end, c.requires.count, k) in
    subst (λ (n : ℕ). ArePacketsOf c.args.about.now.keys.now c.args.about.now.boxes.now
    (splits_of (frame (given_of c.args.about.now))) Left n c.loop-i.left.items) end c.loop-i.invariant.0.lefts

pub returns-clause-right : goal.returns-clause-right
returns-clause-right c =
    let k = counted _ c.requires.given in
    let end : c.loop-i.i ≡ length (splits_of (frame (given_of c.args.about.now))) = omega
    (arith, c.loop-i-test.false, c.loop-i.auto.i-end, c.requires.count, k) in
    subst (λ (n : ℕ). ArePacketsOf c.args.about.now.keys.now c.args.about.now.boxes.now
    (splits_of (frame (given_of c.args.about.now))) Right n c.loop-i.right.items) end c.loop-i.invariant.0.rights
