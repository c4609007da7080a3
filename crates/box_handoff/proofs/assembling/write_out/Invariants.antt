use Rattle.std.specs.Prelude.{◌≡◌}
use Rattle.box_handoff.specs.Entries.{given_of}
use Rattle.box_handoff.specs.Assembling.{IsWritingOut}
use Rattle.box_handoff.proofs.assembling.write_out.Given as goal

abbrev pub invariant-loop-t : goal.invariant-loop-t
invariant-loop-t l = IsWritingOut (given_of l.about) l.closed.slots.items l.closed.slots.filled l.closed.slots.len
    l.here l.t l.nodes.items × (l.closed.words ≡ l.fn.closed.words)
