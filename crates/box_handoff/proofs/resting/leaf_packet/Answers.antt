use Rattle.std.proofs.Common.{ap, ◌≡◌}
use Rattle.arrival_core.specs.declared.packets.Packet.{Packet}
use Rattle.arrival_core.specs.Settings.{frame_of}
use Rattle.fixed_box.specs.declared.shapes.Box3.{Box3}
use Rattle.morton_key.specs.Keys.{tri_at}
use Rattle.radix_tree.specs.Fit.{box_of_triangle}
use Rattle.box_handoff.specs.Entries.{frame}
use Rattle.box_handoff.proofs.resting.leaf_packet.Goals as goal

pub returns : goal.returns
unfolding frame frame_of
returns c = let e : c.box_at-fit.result ≡ box_of_triangle c.args.about.now.boxes.now
    (tri_at c.args.about.now.keys.now c.args.position) = cc in
    ap (λ (x : Box3). let p : Packet = record {
      first = c.args.position;
      last = c.args.position;
      split =
          c.args.position;
      fit = x;
    } in p) e
