use Rattle.std.proofs.Common.{rules, subst}
use Rattle.world_index.specs.Live.{ArePositions, AreSortedFans}
use Rattle.world_index.proofs.LivePositions.{fans_live}
use Rattle.world_index.proofs.live.live_of.Goals as goal
use Rattle.world_index.proofs.live.live_of.Goals.{in-Some-take, in-None+in_ok-known-in-None}

pub returns-in_ok-live-in-Some-clause-live : goal.returns-in_ok-live-in-Some-clause-live
returns-in_ok-live-in-Some-clause-live c =
    let faces = c.args.faces.now in
    let keys = c.args.keys.now in
    let known : ArePositions c.match-take.known.items keys = elim c.match-take.branch [
      | in-Some-take w ↦ search rules
      | in-None+in_ok-known-in-None w ↦ search rules
    ] in
    let live = c.in_ok-live-in-Some.field-0.items in
    let listed : AreSortedFans faces c.match-take.known.items c.args.marks.now.moved live =
    subst (λ moved. AreSortedFans faces c.match-take.known.items moved live) c.moved-in-Some.ensures.moved
    (subst (λ known. AreSortedFans faces known c.moved-in-Some.result.now live) c.deref.ensures.value
    c.in_ok-live-in-Some.ensures) in
    fans_live faces keys c.requires.lawful c.requires.faces c.match-take.known.items known c.args.marks.now.moved live
    listed
