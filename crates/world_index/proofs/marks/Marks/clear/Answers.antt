use Rattle.std.proofs.Common.{◌≡◌, drop, arith, length, subst, sym}
use Rattle.std.proofs.lemmas.List.{take_at}
use Rattle.world_index.specs.Marks.{IsMarking}
use Rattle.world_index.proofs.Marking.{marked_none}
use Rattle.world_index.proofs.marks.Marks.clear.Goals as goal

pub invariant_of-self : goal.invariant_of-self
invariant_of-self c =
    let old = c.self.inside.flags in
    let flags = c.unflag.new.flags in
    let count : length flags ≡ old.len = omega (arith, c.unflag.auto.flags, c.deref_mut.ensures.len, old.ok) in
    let same = take_at flags (drop (length flags) old.items) old.len count in
    subst (λ fs. IsMarking fs c.clear.new.self) (sym same)
    (marked_none flags c.clear.new.self c.clear.ensures.items
    (omega (arith, count, old.ok, c.self.invariant.room, c.clear.ensures.capacity)) c.unflag.ensures)
