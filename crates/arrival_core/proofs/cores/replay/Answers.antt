use Rattle.std.proofs.Common.{◌≡◌, refl, ap, subst, ◌∙◌, arith, get_or, inl, inr}
use Rattle.std.proofs.lemmas.Bool.{cases_Bool}
use Rattle.std.proofs.lemmas.List.{get_or_default}
use Rattle.arrival_core.specs.Sums.{bit}
use Rattle.arrival_core.specs.Cores.{IsCore}
use Rattle.arrival_core.proofs.PutLaws.{bit_le}
use Rattle.arrival_core.proofs.CoreLaws.{core_frame, workers_are}
use Rattle.arrival_core.proofs.Schedules.{passes_lawful, collects_once}
use Rattle.arrival_core.proofs.Replaying.{replay_more, replay_done, replay_complete}
use Rattle.arrival_core.proofs.cores.replay.Goals as goal

pub loop-worker-preserved : goal.loop-worker-preserved
loop-worker-preserved c =
    let one : c.from-count.result ≡ bit c.step.result = elim (cases_Bool c.step.result) [
      | inl h ↦ c.from-count.ensures ∙ rw h refl
      | inr h ↦ c.from-count.ensures ∙ rw h refl
    ] in
    replay_more c.args.s.now c.loop-worker.s c.step.new.s c.args.schedule.now c.loop-worker.worker-index
    (get_or c.args.schedule.now c.loop-worker.worker-index 0) c.loop-worker.count _ c.loop-worker-test.true
    (get_or_default c.args.schedule.now c.loop-worker.worker-index 0 _ c.loop-worker-test.true)
    c.loop-worker.invariant c.step.ensures.setting c.step.ensures.event
    (omega (arith, one, ap bit c.step.ensures.answer))
    (omega (arith, one, bit_le c.step.result, c.loop-worker.invariant.most))

pub returns-clause-played : goal.returns-clause-played
returns-clause-played c = (replay_done c.args.s.now c.loop-worker.s c.args.schedule.now c.loop-worker.count
    c.loop-worker.worker-index c.loop-worker-test.false c.loop-worker.invariant).0

pub returns-clause-counted : goal.returns-clause-counted
returns-clause-counted c = (replay_done c.args.s.now c.loop-worker.s c.args.schedule.now c.loop-worker.count
    c.loop-worker.worker-index c.loop-worker-test.false c.loop-worker.invariant).1

pub returns-clause-passes : goal.returns-clause-passes
returns-clause-passes c =
    let ok : IsCore c.args.s.now = subst IsCore c.s.view_is c.s.invariant.1 in
    passes_lawful _ (core_frame _ ok) c.args.schedule.now _ (λ k d lt. workers_are c.args.s.now _ (c.requires k d lt))
    ok.lawful

pub returns-clause-once : goal.returns-clause-once
returns-clause-once c =
    let ok : IsCore c.args.s.now = subst IsCore c.s.view_is c.s.invariant.1 in
    collects_once _ (core_frame _ ok) c.args.schedule.now _ (λ k d lt. workers_are c.args.s.now _ (c.requires k d lt))
    ok.lawful

pub returns-clause-complete : goal.returns-clause-complete
returns-clause-complete c =
    let done = replay_done c.args.s.now c.loop-worker.s c.args.schedule.now c.loop-worker.count
    c.loop-worker.worker-index c.loop-worker-test.false c.loop-worker.invariant in
    replay_complete c.args.s.now c.loop-worker.s (subst IsCore c.s.view_is c.s.invariant.1) c.args.schedule.now
    c.requires
    c.loop-worker.invariant.setting done.0
