use Rattle.std.proofs.Common.{subst}
use Rattle.box_handoff.specs.declared.views.About.{About}
use Rattle.box_handoff.specs.Entries.{frame, given_of, setting_of}
use Rattle.box_handoff.specs.Packets.{AreLiveFitted}
use Rattle.box_handoff.specs.Seats.{setting_by}
use Rattle.box_handoff.proofs.WholeFrame.{fitted_all, counted_all}
use Rattle.box_handoff.proofs.handoffs.Handoff.close.Goals as goal

pub returns-clause-live : goal.returns-clause-live
unfolding frame
returns-clause-live c = subst (λ (a : About). AreLiveFitted (setting_of (given_of a)) (record {
  left = c.read_out-left.result.0;
  right = c.read_out-left.result.1;
  tally = c.finish-closed.result.2;
})) c.finish-closed.ensures.about (record {
  left = c.read_out-left.ensures.left;
  right = c.read_out-left.ensures.right;
})

pub returns-clause-packets : goal.returns-clause-packets
returns-clause-packets c whole = fitted_all (setting_by c.args.self) whole _ (returns-clause-live c)

pub returns-clause-counts : goal.returns-clause-counts
returns-clause-counts c whole = counted_all (setting_by c.args.self) whole _ c.finish-closed.ensures.live_counts
