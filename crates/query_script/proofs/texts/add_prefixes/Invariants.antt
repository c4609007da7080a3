use Rattle.std.proofs.Common.{◌≡◌, ◌++◌, drop, map, decimal}
use Rattle.query_script.specs.Replies.{spaced, prefixes}
use Rattle.query_script.proofs.texts.add_prefixes.Given as goal

abbrev pub invariant-loop-cell : goal.invariant-loop-cell
invariant-loop-cell l =
    l.text.items ++ spaced (map decimal (prefixes (drop l.cell-index l.cells)))
    ≡ l.initial.text.items ++ spaced (map decimal (prefixes l.cells))
