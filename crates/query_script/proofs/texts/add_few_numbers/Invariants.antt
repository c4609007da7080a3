use Rattle.std.proofs.Common.{◌≡◌, ◌≤◌, ◌*◌, drop, map, decimal, length}
use Rattle.query_script.specs.Replies.{spaced}
use Rattle.query_script.proofs.texts.add_few_numbers.Given as goal

abbrev pub invariant-loop-left : goal.invariant-loop-left
invariant-loop-left l = record {
  written : drop l.at l.words ≡ spaced (map decimal (drop l.left l.numbers));
  room : 11 * l.left ≤ l.at;
  within : l.at ≤ 176;
  left : l.left ≤ length l.numbers;
  long : length l.words ≡ 176;
}

abbrev pub decreases-loop-left : goal.decreases-loop-left
decreases-loop-left l = l.left
