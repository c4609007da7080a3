use Rattle.segment_hit.proofs.Passed.{coordinate_passed}
use Rattle.segment_hit.proofs.Passages.{passage_of}
use Rattle.segment_hit.proofs.lines.passage.Goals as goal

pub returns : goal.returns
returns c = λ p q line.
    let b = c.args.b.now in
    let lx = coordinate_passed b.lo.x c.requires.lo.x in
    let ly = coordinate_passed b.lo.y c.requires.lo.y in
    let lz = coordinate_passed b.lo.z c.requires.lo.z in
    let hx = coordinate_passed b.hi.x c.requires.hi.x in
    let hy = coordinate_passed b.hi.y c.requires.hi.y in
    let hz = coordinate_passed b.hi.z c.requires.hi.z in
    passage_of p q b c.args.l.now c.beginning.result c.entry_at-x.result c.entry_at-y.result c.entry_at-z.result
    c.exit_at-to_x.result c.exit_at-to_y.result c.exit_at-to_z.result c.later.result c.later-2.result c.later-3.result
    c.sooner.result c.sooner-2.result line c.beginning.ensures (rw (lx, hx) at c.entry_at-x.ensures)
    (rw (ly, hy) at c.entry_at-y.ensures) (rw (lz, hz) at c.entry_at-z.ensures)
    (rw (lx, hx) at c.exit_at-to_x.ensures) (rw (ly, hy) at c.exit_at-to_y.ensures)
    (rw (lz, hz) at c.exit_at-to_z.ensures) c.later.ensures c.later-2.ensures c.later-3.ensures c.sooner.ensures
    c.sooner-2.ensures
