use Rattle.std.proofs.Common.{rules}
use Rattle.world_engine.proofs.StageEnds.{stopped_first, refused_first, fetched_mesh, or_memory}
use Rattle.world_engine.proofs.runs.answer_file.Goals as goal

pub returns-in-Ok-Whole : goal.returns-in-Ok-Whole
returns-in-Ok-Whole g c = record {
  ends = fetched_mesh c.args.plan.unit _ _ _ _ _ _ _ _ _ _ c.args.name.now c.in-Ok-Whole.field-0 c.in-Ok-Whole.text _
      c.in-Ok-Whole.field-0-is c.in-Ok-Whole.ensures.whole c.answer_mesh.ensures;
  absent = search rules;
  silent = search rules;
  shelf = search rules;
  shelf_kept = search rules;
}

pub returns-in-Ok-TooLong : goal.returns-in-Ok-TooLong
returns-in-Ok-TooLong g c = record {
  ends = refused_first _ _ _ _ _ _ _ _ _ _ _ _ _ (search rules) c.say.ensures.output.front (search rules)
      (or_memory c.say.ensures.answers) c.say.ensures.sink c.say.ensures.sink_kept;
  absent = search rules;
  silent = search rules;
  shelf = search rules;
  shelf_kept = search rules;
}

pub returns-in-Err-Read : goal.returns-in-Err-Read
returns-in-Err-Read g c = record {
  ends = stopped_first _ _ _ _ _ _ _ _ _ _ (λ w. w) (λ w. w) (λ e. cc) (λ e. search rules);
  absent = search rules;
  silent = search rules;
  shelf = search rules;
  shelf_kept = search rules;
}

pub returns-in-Err-Memory : goal.returns-in-Err-Memory
returns-in-Err-Memory g c = record {
  ends = stopped_first _ _ _ _ _ _ _ _ _ _ (λ w. w) (λ w. w) (λ e. cc) (λ e. let clash : ⊥ = cc in absurd clash);
  absent = search rules;
  silent = search rules;
  shelf = search rules;
  shelf_kept = search rules;
}
