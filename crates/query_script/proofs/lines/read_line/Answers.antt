use Rattle.std.proofs.Common.{sym, subst}
use Rattle.text_words.specs.Lines.{words_of}
use Rattle.query_script.proofs.LineFaults.{IsKnown, known_counted}
use Rattle.query_script.proofs.lines.read_line.Goals as goal

pub returns-clause-faults : goal.returns-clause-faults
returns-clause-faults c =
    subst (λ r. IsKnown r) (sym c.asked.ensures.ask)
    (known_counted c.args.unit c.keyword.result (words_of c.in-Some.behind.now))
