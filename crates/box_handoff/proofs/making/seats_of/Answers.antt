use Rattle.std.proofs.Common.{rules, arith, sym, ap, ◌∙◌, subst, ◌≡◌, ◌+◌, ◌-◌, ◌∷◌, ℕ, List, length}
use Rattle.box_handoff.specs.declared.seats.HandSeat.{HandSeat}
use Rattle.box_handoff.specs.Seats.{given_by, id_of}
use Rattle.box_handoff.specs.Gathering.{AreUnbegun}
use Rattle.box_handoff.proofs.Parting.{all_parted, unbegun_is}
use Rattle.box_handoff.proofs.FrameOf.{frame_is}
use Rattle.box_handoff.proofs.making.seats_of.Goals as goal

pub returns-clause-fresh : goal.returns-clause-fresh
returns-clause-fresh c =
    let e : c.insert-2.new.self.items ≡ c.unbegun_seat-2.result ∷ c.loop-number.seats.items = search rules in
    let s = c.unbegun_seat-2.ensures in
    subst (λ (l : List HandSeat). AreUnbegun (given_by c.args.handoff.now) (id_of c.args.handoff.now) 0 l) (sym e)
    (all_parted _ _ _ _ _ _ c.unbegun_seat-2.result c.loop-number.invariant
    (omega arith) s.seat s.number s.unbegun s.tally)

pub part-seat-requires-clause-words : goal.part-seat-requires-clause-words
part-seat-requires-clause-words c =
    let b = (frame_is _ c.requires.made.given).some_batch in omega (arith, b, c.requires.made.words)

pub loop-number-preserved : goal.loop-number-preserved
loop-number-preserved c =
    let i = c.loop-number.invariant in
    let s = c.unbegun_seat.ensures in
    let e : c.insert.new.self.items ≡ c.unbegun_seat.result ∷ c.loop-number.seats.items = search rules in
    let n : c.loop-number.number ≡ c.loop-number.number - 1 + 1 = omega arith in record {
      some = omega arith;
      table = c.part-seat.ensures.table ∙ i.table;
      view = search rules;
      fresh = subst (λ (l : List HandSeat). AreUnbegun (given_by c.args.handoff.now) (id_of c.args.handoff.now)
          (c.loop-number.number - 1) l) (sym e) (
            unbegun_is _ _ _ c.unbegun_seat.result (search rules) (search rules) s.number s.unbegun s.tally,
            subst (λ (k : ℕ). AreUnbegun (given_by c.args.handoff.now)
                (id_of c.args.handoff.now) k c.loop-number.seats.items) n i.fresh,
          );
      count = (let l = ap (λ (x : List HandSeat). length x) e in omega (arith, l, i.count, i.some));
    }
