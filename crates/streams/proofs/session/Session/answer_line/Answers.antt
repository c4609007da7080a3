use Rattle.streams.proofs.Debts.{owes_all}
use Rattle.streams.proofs.session.Session.answer_line.Goals as goal

pub returns-in_default-clause-front : goal.returns-in_default-clause-front
returns-in_default-clause-front g c = (_, owes_all _ _)
