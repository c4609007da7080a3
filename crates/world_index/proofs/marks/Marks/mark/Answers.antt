use Rattle.std.proofs.Common.{◌≡◌, ◌<◌, false, ap, arith, length, get_or, subst, sym}
use Rattle.world_index.proofs.Marking.{one_is_not, marked_more}
use Rattle.world_index.proofs.marks.Marks.mark.Goals as goal

pub unreachable-requires : goal.unreachable-requires
unreachable-requires c =
    let flags = c.self.inside.flags.items in
    let v = c.args.vertex in
    let there : v < length flags = omega (arith, c.requires, ap (λ m. m.vertices) c.self.view_is) in
    let off : get_or flags v false ≡ false =
    sym (subst (λ z. z ≡ get_or flags v z) c.if-index.false c.index.ensures) in
    omega (
      arith,
      one_is_not flags v there off,
      c.self.invariant.each_once,
      c.self.invariant.room,
      c.in_default.ensures.full,
      c.self.inside.list.ok,
    )

pub invariant_of-self : goal.invariant_of-self
invariant_of-self c =
    let flags = c.self.inside.flags.items in
    let v = c.args.vertex in
    let there : v < length flags = omega (arith, c.requires, ap (λ m. m.vertices) c.self.view_is) in
    let off : get_or flags v false ≡ false =
    sym (subst (λ z. z ≡ get_or flags v z) c.if-index.false c.index.ensures) in
    marked_more flags c.self.inside.list c.push.new.self v c.self.invariant there off c.in-Ok.ensures.items
    c.in-Ok.ensures.capacity
