-- What the core's crate says of a handoff over all keys.
use Rattle.std.proofs.Common.{◌≡◌, sym, subst, ap, ◌∙◌, ℕ, ◌+◌, ◌-◌, ◌/◌, ◌<◌, length, List, arith, true, refl, ◌*◌, None}
use Rattle.std.specs.Prelude.{slice_index}
use Rattle.arrival_core.specs.declared.packets.Packet.{Packet}
use Rattle.arrival_core.specs.declared.packets.Side.{Side}
use Rattle.arrival_core.specs.declared.packets.Side.TheVariants.{Left, Right}
use Rattle.arrival_core.specs.declared.packets.Tally.{Tally}
use Rattle.arrival_core.specs.Frames.{live_at}
use Rattle.arrival_core.specs.Settings.{Setting, frame_of, batch_count}
use Rattle.arrival_core.specs.Tasks.{IsWhole}
use Rattle.arrival_core.proofs.WholeLaws as core
use Rattle.box_handoff.specs.declared.views.Given.{Given}
use Rattle.box_handoff.specs.declared.fitted.Fitted.{Fitted}
use Rattle.box_handoff.specs.LiveNodes.{AreSpots, splits_of}
use Rattle.box_handoff.specs.Entries.{IsGiven, Rests, setting_of, frame, numbers}
use Rattle.box_handoff.specs.Packets.{child_packet, ArePackets, ArePacketsOf, AreFitted, AreLiveFitted}
use Rattle.box_handoff.specs.Counts.{IsCounted, IsLiveCounted}
use Rattle.box_handoff.proofs.SplitLists.{splits_all}
use Rattle.box_handoff.proofs.NumberLaws.{counted}

module _ (g : Given) (ok : IsWhole (setting_of g)) where
  -- every child is live
  pub all_live : (t : ℕ) (d : Side) → t < (frame g).nodes → live_at (frame g) t d ≡ true
  unfolding frame
  all_live t d lt = core.all_live (setting_of g) ok t d lt

  -- and every inner node
  pub all_live_nodes : (t : ℕ) → t < (frame g).nodes → (frame g).live_node t ≡ true
  unfolding frame
  all_live_nodes t lt = core.all_live_nodes (setting_of g) ok t lt

  -- keys whose leaves are all live may be given, with no list of splits
  pub whole_given : g.spots ≡ None → g.tree ≡ None → IsGiven g
  whole_given none tree = record {
    task = core.whole_task (setting_of g) ok;
    few = ok.few;
    spots = subst (AreSpots (frame g)) (sym none) all_live_nodes;
    rests = subst (Rests g) (sym tree) tt;
  }

-- where all leaves are live, the splits of the live nodes are all numbers below the count of nodes
module _ (g : Given) (given : IsGiven g) (ok : IsWhole (setting_of g)) where
  -- as many, and each at its own place
  all_splits : (length (splits_of (frame g)) ≡ length g.keys - 1) ×
      ((i : ℕ) → i < length g.keys - 1 → slice_index (splits_of (frame g)) i ≡ 0 + i)
  unfolding frame frame_of
  all_splits = splits_all (frame_of (setting_of g)) 0 (frame_of (setting_of g)).nodes
      (λ t l u. core.all_live_nodes (setting_of g) ok t (omega (arith, u)))

  -- so there are that many
  pub whole_count : (numbers g).count ≡ length g.keys - 1
  whole_count = counted g given ∙ all_splits.0

  -- and each stands at its own place
  pub whole_split : (i : ℕ) → i < length g.keys - 1 → slice_index (splits_of (frame g)) i ≡ i
  whole_split i lt = all_splits.1 i lt ∙ (let z : 0 + i ≡ i = omega arith in z)

-- the packets and the counts where all leaves are live
module _ (x : Setting) (ok : IsWhole x) where
  -- the frame has a node fewer than keys
  nodes_are : (frame_of x).nodes ≡ length x.keys - 1
  unfolding frame_of
  nodes_are = refl

  -- the packets of the live nodes are those of all nodes
  packets_all : (d : Side) (packets : List Packet) →
      ArePacketsOf x.keys x.boxes (splits_of (frame_of x)) d (length (splits_of (frame_of x))) packets →
      ArePackets x.keys x.boxes d (length x.keys - 1) packets
  packets_all d packets h =
      let s = splits_all (frame_of x) 0 (frame_of x).nodes (λ t l u. core.all_live_nodes x ok t (omega (arith, u))) in
      record {
        count_is = h.count_is ∙ s.0 ∙ nodes_are;
        each = λ i p lt. h.each i p (omega (arith, lt, s.0, nodes_are))
            ∙ ap (λ (n : ℕ). child_packet x.keys x.boxes n d)
            (s.1 i (omega (arith, lt, nodes_are)) ∙ (let z : 0 + i ≡ i = omega arith in z));
      }

  -- those of all inner nodes, each at its split
  pub fitted_all : (r : Fitted) → AreLiveFitted x r → AreFitted x.keys x.boxes r
  fitted_all r h = record {
    left = packets_all Left r.left.items h.left;
    right = packets_all Right r.right.items h.right;
  }

  -- and so many
  pub counted_all : (t : Tally) → IsLiveCounted x t → IsCounted (length x.keys) x.workers t
  counted_all t h =
      let n = core.live_nodes_is x ok in
      let k = core.live_children_is x ok in
      let product : x.workers * batch_count x.live ≡ x.workers * ((length x.keys + 63) / 64)
      = ap (λ (l : ℕ). x.workers * ((l + 63) / 64)) ok.live_count in
      record {
        fits = omega (arith, h.fits, n, nodes_are);
        steps = omega (arith, h.steps, product, n, k, nodes_are, ok.two);
      }
