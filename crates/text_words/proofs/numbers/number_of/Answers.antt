use Rattle.std.proofs.Common.{sym, subst}
use Rattle.text_words.specs.ThreeNumbers.{IsSmallNumber}
use Rattle.text_words.proofs.Fronts.{front_all}
use Rattle.text_words.proofs.numbers.number_of.Goals as goal

pub returns-in_default : goal.returns-in_default
returns-in_default c = λ p.
    c.in_default.ensures.none (subst IsSmallNumber (sym (front_all c.args.word.now p.digits)) p)
