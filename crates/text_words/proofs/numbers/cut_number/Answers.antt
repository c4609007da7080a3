use Rattle.std.proofs.Common.{rules, ◌≡◌, false, IsTrue, sym, subst}
use Rattle.text_words.specs.Cuts.{IsBroken}
use Rattle.text_words.specs.ThreeNumbers.{IsNumber, IsSmallNumber}
use Rattle.text_words.proofs.DigitWords.{digits_unbroken}
use Rattle.text_words.proofs.DigitRuns.{front_digits}
use Rattle.text_words.proofs.numbers.cut_number.Goals as goal

pub returns-in_default-clause-none : goal.returns-in_default-clause-none
returns-in_default-clause-none c = λ p.
    c.in_default.ensures.none (subst IsSmallNumber (sym (front_digits c.args.line.now p.digits).0) p)

pub returns-then-not-is_broken-clause-none : goal.returns-then-not-is_broken-clause-none
returns-then-not-is_broken-clause-none c = λ p.
    let ends = subst IsBroken (sym c.in-Some.ensures.rest) (front_digits c.args.line.now p.digits).1 in
    let yes : IsTrue c.is_broken.result = c.is_broken.ensures.1 ends in
    let no : c.is_broken.result ≡ false = search rules in
    cc

pub returns-clause-cut : goal.returns-clause-cut
returns-clause-cut c =
    let number : IsNumber c.in-Some.word.now c.in-Some.value = search rules in
    let yes : IsTrue c.is_broken.result = search rules in
    record {
      whole = search rules;
      unbroken = digits_unbroken c.in-Some.word.now number.digits;
      some = number.some;
      ends = c.is_broken.ensures.0 yes;
    }
