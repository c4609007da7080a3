use Rattle.std.proofs.Common.{◌≡◌, ◌+◌, ◌∙◌, drop, arith, length, ap, subst, sym}
use Rattle.std.proofs.lemmas.List.{take_at}
use Rattle.world_index.specs.Fans.{AreFansTo, latest_at}
use Rattle.world_index.proofs.FanLaws.{one_more}
use Rattle.world_index.proofs.fans.chained.Goals as goal

pub loop-triangle-preserved : goal.loop-triangle-preserved
loop-triangle-preserved c =
    let old = c.loop-triangle.latest in
    let new = c.relink-links.new.latest in
    let lent = c.deref_mut.result.now in
    let n = c.loop-triangle.triangle in
    let count : length new ≡ length old.items =
    omega (arith, c.relink-links.auto.latest, ap length c.deref_mut.ensures.value) in
    let next = one_more old.items new c.loop-triangle.earlier.items c.relink-links.result c.args.faces.now
    c.args.vertices n c.loop-triangle.invariant count
    (λ v has. c.relink-links.ensures.links v has ∙ ap (λ xs. latest_at xs v) c.deref_mut.ensures.value)
    (λ v has. c.relink-links.ensures.here v has)
    (λ v hasnt. c.relink-links.ensures.elsewhere v hasnt ∙ ap (λ xs. latest_at xs v) c.deref_mut.ensures.value) in
    let same = take_at new (drop (length new) old.items) old.len (omega (arith, count, old.ok)) in
    subst (λ ls. AreFansTo ls c.push.new.self.items c.args.faces.now c.args.vertices (n + 1)) (sym same)
    (subst (λ es. AreFansTo new es c.args.faces.now c.args.vertices (n + 1)) (sym c.in_ok-push.ensures.items) next)
