-- The load of a leaf.
use Rattle.std.proofs.Common.{Bool, true, false, ◌≡◌, ℕ, suc, ◌-◌, ◌<◌, length, sym, refl, ap, ◌∙◌, subst, Option, Some, None}
use Rattle.std.specs.Prelude.{◌||◌}
use Rattle.arrival_core.specs.declared.packets.Side.{Side}
use Rattle.arrival_core.specs.declared.packets.Side.TheVariants.{Left, Right}
use Rattle.arrival_core.specs.declared.packets.Load.{Load}
use Rattle.arrival_core.specs.declared.packets.Packet.{Packet}
use Rattle.arrival_core.specs.declared.packets.Up.{Up}
use Rattle.arrival_core.specs.Frames.{Frame, packet_at, packet_below, live_at, live_below}
use Rattle.arrival_core.specs.Frames.Below.{leaf}
use Rattle.arrival_core.specs.Settings.{frame_of, above}
use Rattle.arrival_core.specs.FrameLaws.{IsFrame}
use Rattle.box_handoff.specs.declared.views.Given.{Given}
use Rattle.box_handoff.specs.Entries.{frame}
use Rattle.box_handoff.specs.Climbs.{IsCarried}
use Rattle.box_handoff.proofs.FrameOf.{FrameLaws}

-- one inner node fewer than keys
pub nodes_are : (g : Given) → (frame g).nodes ≡ length g.keys - 1
unfolding frame frame_of
nodes_are g = refl

-- a leaf's way up is the frame's
pub up_is : (g : Given) (laws : FrameLaws g) (p : ℕ) (w : Option Up) (u : Up) → p < suc (frame g).nodes →
    w ≡ above g.keys p p → w ≡ Some u → (frame g).above_leaf p ≡ u
up_is g laws p w u in_ tells is = let l = laws.leaf_up p in_ in
    let e : Some l.0 ≡ Some u = sym l.1 ∙ sym tells ∙ is in l.2 ∙ (let h : l.0 ≡ u = cc in h)

-- a leaf has a way up
pub some_up : (g : Given) (laws : FrameLaws g) (p : ℕ) (w : Option Up) → p < suc (frame g).nodes →
    w ≡ above g.keys p p → w ≡ None → ⊥
some_up g laws p w in_ tells is = let l = laws.leaf_up p in_ in let e : Some l.0 ≡ None = sym l.1 ∙ sym tells ∙ is in cc

-- the load of a leaf, by what it is made of
pub load_is : (f : Frame) (p : ℕ) (u : Up) (packet : Packet) → f.above_leaf p ≡ u → packet ≡ f.leaf_packet p
    → ◌≡◌ {A = Load} (record { split = u.split; side = u.side; packet = packet })
    (record { split = (f.above_leaf p).split; side = (f.above_leaf p).side; packet = f.leaf_packet p })
load_is f p u packet a b = ap (λ (x : Packet). let l : Load = record { split = u.split; side = u.side; packet = x } in
    l) b ∙ ap (λ (x : Up). let l : Load = record { split = x.split; side = x.side; packet = f.leaf_packet p } in
    l) (sym a)

-- one of two is enough
or_right : (b : Bool) → (b || true) ≡ true
or_right true = refl
or_right false = refl

-- a node with a live child is live
pub live_up : (f : Frame) (laws : IsFrame f) (t : ℕ) (d : Side) → t < f.nodes → live_at f t d ≡ true →
    f.live_node t ≡ true
live_up f laws t Left l h = laws.live t l ∙ ap (λ (b : Bool). b || live_at f t Right) h
live_up f laws t Right l h = laws.live t l ∙ ap (λ (b : Bool). live_at f t Left || b) h ∙ or_right (live_at f t Left)

-- a leaf's load is for a live node of the tree
pub carried_leaf : (f : Frame) (laws : IsFrame f) (p : ℕ) (u : Up) (packet : Packet) → p < suc f.nodes →
    f.live_leaf p ≡ true → f.above_leaf p ≡ u → packet ≡ f.leaf_packet p →
    IsCarried f (record { split = u.split; side = u.side; packet = packet })
unfolding packet_at packet_below live_at live_below
carried_leaf f laws p u packet in_ live a b = let node : u.split < f.nodes = subst (λ (x : Up). x.split < f.nodes) a
    (laws.leaf_node p in_) in let child : f.child u.split u.side ≡ leaf p = subst
    (λ (x : Up). f.child x.split x.side ≡ leaf p) a (laws.leaf_child p in_) in record {
      node = node;
      live = live_up f laws u.split u.side node (ap (live_below f) child ∙ live);
      own = ap (live_below f) child ∙ live;
      packet = b ∙ sym (ap (packet_below f) child);
    }
