use Rattle.std.proofs.Common.{◌≡◌, ◌<◌, ◌++◌, refl, ap, sym, ◌∙◌, length, take, drop, subst}
use Rattle.std.proofs.lemmas.List.{take_at}
use Rattle.arrival_core.specs.Cores.{IsCore, state_of, frame_of_core}
use Rattle.arrival_core.proofs.CoreLaws.{workers_are, core_after_call}
use Rattle.arrival_core.proofs.Excluding.{lawful_exclusive, second_met}
use Rattle.arrival_core.proofs.cores.step.Goals as goal

-- the lists that were lent are written whole
claims : (c : goal.After-s-3-1) → take c.s.inside.claimed.len
    (c.advance.new.claimed ++ drop (length c.advance.new.claimed) c.s.inside.claimed.items) ≡ c.advance.new.claimed
claims c = take_at _ _ _ (c.advance.auto.claimed ∙ c.as_mut_slice.ensures.len)

forks : (c : goal.After-s-3-1) → take c.s.inside.forks.len
    (c.advance.new.forks ++ drop (length c.advance.new.forks) c.s.inside.forks.items) ≡ c.advance.new.forks
forks c = take_at _ _ _ (c.advance.auto.forks ∙ c.as_mut_slice-2.ensures.len)

climbers : (c : goal.After-s-3-1) → take c.s.inside.climbers.len
    (c.advance.new.climbers ++ drop (length c.advance.new.climbers) c.s.inside.climbers.items) ≡ c.advance.new.climbers
climbers c = take_at _ _ _ (c.advance.auto.climbers ∙ c.as_mut_slice-3.ensures.len)

pub invariant_of-s : goal.invariant_of-s
invariant_of-s c = rw (claims c) (rw (forks c) (rw (climbers c) (
  c.s.invariant.0 ∙ sym (c.advance.ensures.batches ∙ ap length c.as_mut_slice.ensures.value),
  core_after_call _ c.s.inside.terrain.boxes.now c.s.inside.terrain.live.now
      c.as_mut_slice.result.now c.advance.new.claimed c.as_mut_slice-2.result.now c.advance.new.forks
      c.as_mut_slice-3.result.now c.advance.new.climbers c.s.invariant.1 refl refl
      c.as_mut_slice.ensures.value c.as_mut_slice-2.ensures.value c.as_mut_slice-3.ensures.value
      c.advance.ensures.batches c.advance.ensures.nodes c.advance.ensures.climbers c.advance.ensures.parts c.args.worker
      (subst (λ v. c.args.worker < length v.climbers) (sym c.s.view_is) c.requires) c.advance.ensures.state,
)))

pub returns-clause-lawful : goal.returns-clause-lawful
returns-clause-lawful c = (invariant_of-s c).1.lawful

pub returns-clause-exclusive : goal.returns-clause-exclusive
returns-clause-exclusive c = lawful_exclusive _ _ (invariant_of-s c).1.lawful

pub returns-clause-met : goal.returns-clause-met
returns-clause-met c = second_met (frame_of_core c.args.s.now) (state_of c.args.s.now)
    (subst IsCore c.s.view_is c.s.invariant.1).lawful c.args.worker (workers_are c.args.s.now c.args.worker c.requires)

pub returns-clause-stays : goal.returns-clause-stays
returns-clause-stays c = λ ended. rw (claims c) (rw (forks c) (rw (climbers c)
    (rw (c.advance.ensures.stays_claimed ended ∙ c.as_mut_slice.ensures.value)
    (rw (c.advance.ensures.stays_forks ended ∙ c.as_mut_slice-2.ensures.value)
    (rw (c.advance.ensures.stays_climbers ended ∙ c.as_mut_slice-3.ensures.value) c.s.view_is)))))
