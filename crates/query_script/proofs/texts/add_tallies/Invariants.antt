use Rattle.std.proofs.Common.{◌≡◌, ◌++◌, drop}
use Rattle.query_script.specs.Replies.{spaced, tally_words}
use Rattle.query_script.proofs.texts.add_tallies.Given as goal

abbrev pub invariant-loop-group : goal.invariant-loop-group
invariant-loop-group l =
    l.text.items ++ spaced (tally_words (drop l.group-index l.groups))
    ≡ l.initial.text.items ++ spaced (tally_words l.groups)
