use Rattle.std.specs.Prelude.{◌≡◌, ◌≤◌, vec_capacity}
use Rattle.box_handoff.specs.Entries.{given_of}
use Rattle.box_handoff.specs.Gathering.{IsReading}
use Rattle.box_handoff.proofs.gathering.read_out.Given as goal

abbrev pub invariant-loop-i : goal.invariant-loop-i
invariant-loop-i l = IsReading (given_of l.about) l.closed.slots.items l.closed.slots.filled l.closed.slots.len
    l.here l.left.items l.right.items l.i
    × (l.count ≤ vec_capacity l.left) × (l.count ≤ vec_capacity l.right)
    × (l.closed.words ≡ l.fn.closed.words)
