use Rattle.command_line.specs.Items.{texts_of}
use Rattle.world_engine.proofs.StageEnds.{of_words, output_of_words}
use Rattle.world_engine.proofs.Stops.{stopped_told}
use Rattle.world_engine.proofs.runs.run.Goals as goal

pub returns-in-Err-Memory-clause-output : goal.returns-in-Err-Memory-clause-output
returns-in-Err-Memory-clause-output g c = stopped_told _ _ _ (λ w. w)

pub returns-in-File-clause-output : goal.returns-in-File-clause-output
returns-in-File-clause-output g c =
    output_of_words (texts_of c.args.words.now) c.named-name.ensures.opens c.answer_file.ensures c.named-name.ensures.no_grid

pub returns-in-File-clause-mesh : goal.returns-in-File-clause-mesh
returns-in-File-clause-mesh g c = (of_words (texts_of c.args.words.now) c.named-name.ensures.opens c.answer_file.ensures).ends.mesh

pub returns-in-File-clause-absent : goal.returns-in-File-clause-absent
returns-in-File-clause-absent g c = (of_words (texts_of c.args.words.now) c.named-name.ensures.opens c.answer_file.ensures).absent

pub returns-in-File-clause-partial : goal.returns-in-File-clause-partial
returns-in-File-clause-partial g c = (of_words (texts_of c.args.words.now) c.named-name.ensures.opens c.answer_file.ensures).ends.partial

pub returns-in-File-clause-prompt : goal.returns-in-File-clause-prompt
returns-in-File-clause-prompt g c = (of_words (texts_of c.args.words.now) c.named-name.ensures.opens c.answer_file.ensures).ends.prompt
