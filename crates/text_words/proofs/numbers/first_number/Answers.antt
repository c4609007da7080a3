use Rattle.std.proofs.Common.{rules, sym, subst}
use Rattle.text_words.specs.ThreeNumbers.{BeginSmall}
use Rattle.text_words.proofs.Spaces.{words_word}
use Rattle.text_words.proofs.Fronts.{small_front, refuted}
use Rattle.text_words.proofs.numbers.first_number.Goals as goal

pub returns-clause-words : goal.returns-clause-words
returns-clause-words c = search (rules, words_word)

pub returns-clause-none : goal.returns-clause-none
returns-clause-none c =
    let rest = c.past_blanks.result.now in
    refuted _ c.cut_number.result _ _
    (λ p. small_front rest c.past_blanks.ensures.past (subst (BeginSmall 1) (sym c.past_blanks.ensures.words) p))
    c.cut_number.ensures.none
