use Rattle.std.proofs.Common.{◌<◌, ◌≡◌, false, length, arith, rules, subst, Some, string_bytes}
use Rattle.std.proofs.lemmas.List.{length-map}
use Rattle.clap.specs.Words.{found_of, rows_of}
use Rattle.command_line.specs.declared.limits.TheConstants.{MOST_WORDS}
use Rattle.command_line.specs.Items.{texts_of}
use Rattle.command_line.specs.Plans.{IsInBounds}
use Rattle.command_line.specs.Uses.{mesh_from, row_plan}
use Rattle.command_line.proofs.Few.{many_refused}
use Rattle.command_line.proofs.Dashes.{dashes_refused}
use Rattle.command_line.proofs.Bounds.{in_bounds}
use Rattle.command_line.proofs.read.read_words.Goals as goal

pub returns-then-words-gt-MOST_WORDS-clause-usage : goal.returns-then-words-gt-MOST_WORDS-clause-usage
returns-then-words-gt-MOST_WORDS-clause-usage c = λ _.
    let many : MOST_WORDS < length (texts_of c.args.words.now) = rw length-map (omega arith) in many_refused _ many

pub returns-then-has_dashes-clause-usage : goal.returns-then-has_dashes-clause-usage
returns-then-has_dashes-clause-usage c = λ _. dashes_refused (texts_of c.args.words.now) (search rules)

pub returns-in-Some-clause-bounds : goal.returns-in-Some-clause-bounds
returns-in-Some-clause-bounds c =
    let words = texts_of c.args.words.now in
    let rs = rows_of (found_of c.in_ok-matches.matches) in
    let is : row_plan (mesh_from false 0 words) rs ≡ Some c.in-Some.plan = search rules in
    subst (λ k. IsInBounds k c.in-Some.plan) (length-map c.args.words.now string_bytes)
    (in_bounds words rs c.in-Some.plan is)
