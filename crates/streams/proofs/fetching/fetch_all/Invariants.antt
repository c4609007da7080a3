use Rattle.std.proofs.Common.{◌≡◌, ◌≤◌, vec_len, ◌-◌}
use Rattle.outside.specs.Files.{FileIs}
use Rattle.streams.proofs.Fetches.{IsFront}
use Rattle.streams.proofs.fetching.fetch_all.Given as goal

abbrev pub invariant-loop-count : goal.invariant-loop-count
invariant-loop-count g l = record {
  few : vec_len l.all ≤ l.limit;
  same : g.H.Shelf.holds l.shelf ≡ g.H.Shelf.holds l.initial.shelf;
  front : FileIs (g.H.Shelf.holds l.initial.shelf) l.name (λ file. IsFront file l.all.items);
  kept : g.H.Shelf.faults l.shelf ≡ g.H.Shelf.faults l.initial.shelf;
}

abbrev pub decreases-loop-count : goal.decreases-loop-count
decreases-loop-count g l = l.limit - vec_len l.all
