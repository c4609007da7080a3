use Rattle.std.proofs.Common.{◌≡◌, ◌++◌, map, take}
use Rattle.obj_text.specs.Parts.{run_behind}
use Rattle.obj_text.proofs.split.add_runs.Given as goal

abbrev pub invariant-loop-run : goal.invariant-loop-run
invariant-loop-run l = record {
  runs : l.runs.items ≡ l.fn.runs.items ++ map (run_behind l.name) (take l.run-index l.later);
}
