use Rattle.std.proofs.Common.{Some, None}
use Rattle.segment_hit.proofs.Axes.{span_as_passed}
use Rattle.segment_hit.proofs.Chains.{fails}
use Rattle.segment_hit.proofs.Entries.{part_of, all_shared, entry_found, none_shared}
use Rattle.segment_hit.proofs.entering.entry.Goals as goal

pub returns-in_err-on_x-clause-only : goal.returns-in_err-on_x-clause-only
returns-in_err-on_x-clause-only c T D h =
    let x = span_as_passed None c.args.p.x c.args.q.x c.args.b.now.lo.x c.args.b.now.hi.x c.requires.p.x
    c.requires.q.x c.requires.b.lo.x c.requires.b.hi.x c.in_err-on_x.ensures in
    absurd ((x T D (part_of c.args.p c.args.q c.args.b.now T D h)).1 h.on_x)

pub returns-in_err-on_y-clause-only : goal.returns-in_err-on_y-clause-only
returns-in_err-on_y-clause-only c T D h =
    let y = span_as_passed None c.args.p.y c.args.q.y c.args.b.now.lo.y c.args.b.now.hi.y c.requires.p.y
    c.requires.q.y c.requires.b.lo.y c.requires.b.hi.y c.in_err-on_y.ensures in
    absurd ((y T D (part_of c.args.p c.args.q c.args.b.now T D h)).1 h.on_y)

pub returns-in_err-on_z-clause-only : goal.returns-in_err-on_z-clause-only
returns-in_err-on_z-clause-only c T D h =
    let z = span_as_passed None c.args.p.z c.args.q.z c.args.b.now.lo.z c.args.b.now.hi.z c.requires.p.z
    c.requires.q.z c.requires.b.lo.z c.requires.b.hi.z c.in_err-on_z.ensures in
    absurd ((z T D (part_of c.args.p c.args.q c.args.b.now T D h)).1 h.on_z)

pub returns-then-is_before-clause-only : goal.returns-then-is_before-clause-only
returns-then-is_before-clause-only c T D h =
    let x = span_as_passed (Some c.in_ok-on_x.on_x) c.args.p.x c.args.q.x c.args.b.now.lo.x c.args.b.now.hi.x c.requires.p.x
    c.requires.q.x c.requires.b.lo.x c.requires.b.hi.x c.in_ok-on_x.ensures in
    let y = span_as_passed (Some c.in_ok-on_y.on_y) c.args.p.y c.args.q.y c.args.b.now.lo.y c.args.b.now.hi.y c.requires.p.y
    c.requires.q.y c.requires.b.lo.y c.requires.b.hi.y c.in_ok-on_y.ensures in
    let z = span_as_passed (Some c.in_ok-on_z.on_z) c.args.p.z c.args.q.z c.args.b.now.lo.z c.args.b.now.hi.z c.requires.p.z
    c.requires.q.z c.requires.b.lo.z c.requires.b.hi.z c.in_ok-on_z.ensures in
    let inside = all_shared c.args.p c.args.q c.args.b.now c.in_ok-on_x.on_x c.in_ok-on_y.on_y c.in_ok-on_z.on_z
    c.shared.result c.shared-inside.result x y z c.shared.ensures c.shared-inside.ensures in
    absurd (none_shared c.args.p c.args.q c.args.b.now c.shared-inside.result T D inside
    (c.is_before.ensures.0 c.if-is_before.true) h)

pub returns-clause-found : goal.returns-clause-found
returns-clause-found c =
    let x = span_as_passed (Some c.in_ok-on_x.on_x) c.args.p.x c.args.q.x c.args.b.now.lo.x c.args.b.now.hi.x c.requires.p.x
    c.requires.q.x c.requires.b.lo.x c.requires.b.hi.x c.in_ok-on_x.ensures in
    let y = span_as_passed (Some c.in_ok-on_y.on_y) c.args.p.y c.args.q.y c.args.b.now.lo.y c.args.b.now.hi.y c.requires.p.y
    c.requires.q.y c.requires.b.lo.y c.requires.b.hi.y c.in_ok-on_y.ensures in
    let z = span_as_passed (Some c.in_ok-on_z.on_z) c.args.p.z c.args.q.z c.args.b.now.lo.z c.args.b.now.hi.z c.requires.p.z
    c.requires.q.z c.requires.b.lo.z c.requires.b.hi.z c.in_ok-on_z.ensures in
    let inside = all_shared c.args.p c.args.q c.args.b.now c.in_ok-on_x.on_x c.in_ok-on_y.on_y c.in_ok-on_z.on_z
    c.shared.result c.shared-inside.result x y z c.shared.ensures c.shared-inside.ensures in
    entry_found c.args.p c.args.q c.args.b.now c.shared-inside.result inside
    (fails _ _ c.is_before.result c.if-is_before.false c.is_before.ensures)
