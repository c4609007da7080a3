use Rattle.std.proofs.Common.{subst}
use Rattle.radix_tree.specs.Table.{IsTable}
use Rattle.box_handoff.specs.declared.views.About.{About}
use Rattle.box_handoff.specs.Packets.{over_keys}
use Rattle.box_handoff.specs.Seats.{setting_by}
use Rattle.box_handoff.proofs.WholeFrame.{counted_all}
use Rattle.box_handoff.proofs.handoffs.Handoff.close_nodes.Goals as goal

pub returns-clause-table : goal.returns-clause-table
returns-clause-table c = subst (λ (a : About). IsTable (over_keys a.keys.now c.write_out-nodes.result.items))
    c.finish-closed.ensures.about c.write_out-nodes.ensures.table

pub returns-clause-counts : goal.returns-clause-counts
returns-clause-counts c = counted_all (setting_by c.args.self) c.requires.whole _ c.finish-closed.ensures.live_counts
