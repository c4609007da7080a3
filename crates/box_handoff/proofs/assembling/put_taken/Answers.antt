use Rattle.std.proofs.Common.{arith, inr, refl, ◌∙◌, ◌<◌}
use Rattle.arrival_core.specs.declared.packets.Side.TheVariants.{Left, Right}
use Rattle.box_handoff.specs.Entries.{given_of, frame}
use Rattle.box_handoff.proofs.FrameOf.{nodes_is}
use Rattle.box_handoff.proofs.TakenLaws.{slot_count, puts_both, puts_child, right_room, first_there, last_there}
use Rattle.box_handoff.proofs.assembling.put_taken.Goals as goal

pub put_slot-requires-2 : goal.put_slot-requires-2
put_slot-requires-2 c =
    let n = slot_count _ _ _ _ c.put_slot.ensures in record {
      within = right_room _ c.requires.given c.requires.whole c.args.split _ _ (n ∙ c.requires.count)
          (omega (arith, n, c.requires.within)) c.requires.right;
    }

pub taken_or_told-on_left-requires-clause-within : goal.taken_or_told-on_left-requires-clause-within
taken_or_told-on_left-requires-clause-within c =
    let n = nodes_is _ c.requires.given in omega (arith, n, c.requires.count, c.requires.within)

pub taken_or_told-on_right-requires-clause-within : goal.taken_or_told-on_right-requires-clause-within
taken_or_told-on_right-requires-clause-within c =
    let n = nodes_is _ c.requires.given in omega (arith, n, c.requires.count, c.requires.within)

pub returns-then-first_of-ne0 : goal.returns-then-first_of-ne0
returns-then-first_of-ne0 c =
    let n = nodes_is _ c.requires.given in
    let lt : c.args.split < (frame (given_of c.args.about.now)).nodes
    = omega (arith, n, c.requires.count, c.requires.within) in
    let there = first_there _ c.requires.given c.requires.whole c.args.split _
    (omega (arith, c.requires.count, c.requires.within)) c.requires.left in (
      c.put_slot.new.nodes.items,
      c.put_slot-2.new.nodes.items,
      puts_child _ c.requires.given c.requires.whole c.args.split _ Left _ lt c.requires.left _ _ c.put_slot.ensures,
      puts_child _ c.requires.given c.requires.whole c.args.split _ Right _ lt c.requires.right _ _
          c.put_slot-2.ensures,
      inr (λ is. absurd (omega (arith, c.if-first_of-ne0.true, c.first_of.ensures, there, is.0)), refl),
    )

pub returns-then-last_of-len : goal.returns-then-last_of-len
returns-then-last_of-len c =
    let n = nodes_is _ c.requires.given in
    let lt : c.args.split < (frame (given_of c.args.about.now)).nodes
    = omega (arith, n, c.requires.count, c.requires.within) in
    let there = last_there _ c.requires.given c.requires.whole c.args.split _
    (omega (arith, c.requires.count, c.requires.within)) c.requires.right in (
      c.put_slot.new.nodes.items,
      c.put_slot-2.new.nodes.items,
      puts_child _ c.requires.given c.requires.whole c.args.split _ Left _ lt c.requires.left _ _ c.put_slot.ensures,
      puts_child _ c.requires.given c.requires.whole c.args.split _ Right _ lt c.requires.right _ _
          c.put_slot-2.ensures,
      inr (
        λ is. absurd (omega (
          arith,
          c.if-last_of-len.true,
          c.last_of.ensures,
          c.len.ensures,
          there,
          is.1,
        )),
        refl,
      ),
    )

pub returns : goal.returns
returns c =
    let n = nodes_is _ c.requires.given in
    let lt : c.args.split < (frame (given_of c.args.about.now)).nodes
    = omega (arith, n, c.requires.count, c.requires.within) in (
      c.put_slot.new.nodes.items,
      c.put_slot-2.new.nodes.items,
      puts_child _ c.requires.given c.requires.whole c.args.split _ Left _ lt c.requires.left _ _ c.put_slot.ensures,
      puts_child _ c.requires.given c.requires.whole c.args.split _ Right _ lt c.requires.right _ _
          c.put_slot-2.ensures,
      puts_both _ _ _ _ _ _ _ c.taken_or_told-on_left.ensures c.taken_or_told-on_right.ensures c.put_root.ensures,
    )
