use Rattle.std.proofs.Common.{◌≡◌, ◌++◌, take, drop}
use Rattle.text_words.specs.Joins.{said, joins}
use Rattle.text_words.proofs.joins.said.Given as goal

abbrev pub invariant-loop-at : goal.invariant-loop-at
invariant-loop-at l = record {
  said : said l.line ≡ take l.at l.line ++ said (drop l.at l.line);
  joins : joins l.line ≡ joins (drop l.at l.line);
}
