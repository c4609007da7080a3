-- What a passage of a node makes of a worker, and what it carries up.
use Rattle.std.proofs.Common.{◌≡◌, ℕ, ◌+◌, ◌-◌, ◌<◌, List, sym, refl, ap, ◌∙◌, arith, Option, Some}
use Rattle.arrival_core.specs.declared.packets.Packet.{Packet}
use Rattle.arrival_core.specs.declared.packets.Tally.{Tally}
use Rattle.arrival_core.specs.declared.packets.Side.{Side}
use Rattle.arrival_core.specs.declared.packets.Side.TheVariants.{Left, Right}
use Rattle.arrival_core.specs.declared.packets.Load.{Load}
use Rattle.arrival_core.specs.declared.packets.Up.{Up}
use Rattle.arrival_core.specs.Frames.{Frame, other, packet_at, packet_below, live_at, live_below}
use Rattle.arrival_core.specs.Settings.{frame_of, above}
use Rattle.arrival_core.specs.Events.{resume, join}
use Rattle.box_handoff.specs.declared.views.Given.{Given}
use Rattle.box_handoff.specs.declared.views.Entry.{Entry}
use Rattle.box_handoff.specs.Entries.{frame}
use Rattle.box_handoff.specs.Climbs.{IsCarried, came_first, came_second, takes_up}
use Rattle.box_handoff.proofs.FrameOf.{FrameLaws}
use Rattle.box_handoff.proofs.LeafLaws.{live_up}

-- ---- the packet of a node and what is above it
packet_of_node : (f : Frame) (l : Load) (found : Packet) → l.packet ≡ packet_at f l.split l.side →
    found ≡ packet_at f l.split (other l.side)
    → f.node_packet l.split ≡ join l.split Left (packet_at f l.split Left) (packet_at f l.split Right) →
    join l.split l.side l.packet found ≡ f.node_packet l.split
packet_of_node f l found own theirs law = sides l.side own theirs ∙ sym law
  where
    sides : (d : Side) → l.packet ≡ packet_at f l.split d → found ≡ packet_at f l.split (other d) →
        join l.split d l.packet found ≡ join l.split Left (packet_at f l.split Left) (packet_at f l.split Right)
    sides Left a b = ap (λ (x : Packet). join l.split Left x found) a
        ∙ ap (λ (x : Packet). join l.split Left (packet_at f l.split Left) x) b
    sides Right a b = ap (λ (x : Packet). join l.split Right x found) a
        ∙ ap (λ (x : Packet). join l.split Right (packet_at f l.split Right) x) b

-- the packet that a worker puts together is the node's
pub joined_is : (g : Given) (laws : FrameLaws g) (l : Load) (found : Packet) → IsCarried (frame g) l →
    found ≡ packet_at (frame g) l.split (other l.side) →
    join l.split l.side l.packet found ≡ (frame g).node_packet l.split
joined_is g laws l found is theirs = packet_of_node (frame g) l found is.packet theirs
    (laws.frame_laws.packet l.split is.node)

-- what is above a node is told by its range
above_is : (g : Given) (s : ℕ) → (frame g).above_node s ≡ above g.keys ((frame g).node_packet s).first
    ((frame g).node_packet s).last
unfolding frame frame_of
above_is g s = refl

-- what the way up says of the node's packet
pub above_packet : (g : Given) (s : ℕ) (packet : Packet) → packet ≡ (frame g).node_packet s →
    (frame g).above_node s ≡ above g.keys packet.first packet.last
above_packet g s packet is = above_is g s ∙ ap (λ (p : Packet). above g.keys p.first p.last) (sym is)

-- the load for the node above
pub carried_up : (g : Given) (laws : FrameLaws g) (l : Load) (packet : Packet) (u : Up) → IsCarried (frame g) l →
    packet ≡ (frame g).node_packet l.split → (frame g).above_node l.split ≡ Some u →
    IsCarried (frame g) (record { split = u.split; side = u.side; packet = packet })
unfolding packet_at packet_below live_at live_below
carried_up g laws l packet u is made up =
    let node = laws.frame_laws.up_node l.split u is.node up in
    let child = laws.frame_laws.up_child l.split u is.node up in record {
      node = node;
      live = live_up (frame g) laws.frame_laws u.split u.side node (ap (live_below (frame g)) child ∙ is.live);
      own = ap (live_below (frame g)) child ∙ is.live;
      packet = made ∙ sym (ap (packet_below (frame g)) child);
    }

-- ---- from node to node

-- what a worker that came first goes on with, as the climb counts it
pub first_goes_on : (f : Frame) (e : Entry) (t : Tally) (next : ℕ) (pending : List ℕ) → t ≡ e.tally → e.next ≡ next →
    e.pending ≡ pending → came_first f e ≡ resume f next pending (record { fits = t.fits; steps = t.steps + 2 })
first_goes_on f e t next pending a n p =
    ap (λ (x : Tally). let y : Tally = record { fits = x.fits; steps = x.steps + 2 } in
    resume f e.next e.pending y) (sym a)
    ∙ ap (λ (x : ℕ). resume f x e.pending (record { fits = t.fits; steps = t.steps + 2 })) n
    ∙ ap (λ (x : List ℕ). resume f next x (record { fits = t.fits; steps = t.steps + 2 })) p

-- and one that came second
pub second_goes_on : (f : Frame) (s : ℕ) (p : Packet) (e : Entry) (u : Option Up) (t : Tally) (next : ℕ)
    (pending : List ℕ) →
    f.above_node s ≡ u → t ≡ e.tally → e.next ≡ next → e.pending ≡ pending →
    came_second f s p e ≡ takes_up f u p next pending (record { fits = t.fits + 1; steps = t.steps + 4 })
second_goes_on f s p e u t next pending up a n q =
    ap (λ (x : Option Up). let y : Tally = record { fits = e.tally.fits + 1; steps = e.tally.steps + 4 } in
    takes_up f x p e.next e.pending y) up
    ∙ ap (λ (x : Tally). let y : Tally = record { fits = x.fits + 1; steps = x.steps + 4 } in
    takes_up f u p e.next e.pending y) (sym a)
    ∙ ap (λ (x : ℕ). takes_up f u p x e.pending (record { fits = t.fits + 1; steps = t.steps + 4 })) n
    ∙ ap (λ (x : List ℕ). takes_up f u p next x (record { fits = t.fits + 1; steps = t.steps + 4 })) q

-- the range grows at one end
pub wider : (g : Given) (laws : FrameLaws g) (l : Load) (packet : Packet) → IsCarried (frame g) l →
    packet ≡ (frame g).node_packet l.split →
    ((frame g).nodes - packet.last) + packet.first < ((frame g).nodes - l.packet.last) + l.packet.first
wider g laws l packet is made = sides l.side is.packet
  where
    whole : packet ≡ join l.split Left (packet_at (frame g) l.split Left) (packet_at (frame g) l.split Right)
    whole = made ∙ laws.frame_laws.packet l.split is.node

    first : packet.first ≡ (packet_at (frame g) l.split Left).first
    first = ap (λ (x : Packet). x.first) whole

    last : packet.last ≡ (packet_at (frame g) l.split Right).last
    last = ap (λ (x : Packet). x.last) whole

    sides : (d : Side) → l.packet ≡ packet_at (frame g) l.split d →
        ((frame g).nodes - packet.last) + packet.first < ((frame g).nodes - l.packet.last) + l.packet.first
    sides Left a =
        let f : l.packet.first ≡ (packet_at (frame g) l.split Left).first = ap (λ (x : Packet). x.first) a in
        let t : l.packet.last ≡ (packet_at (frame g) l.split Left).last = ap (λ (x : Packet). x.last) a in
        omega (arith, first, last, f, t, laws.ends l.split is.node, laws.inside l.split Right is.node)
    sides Right a =
        let f : l.packet.first ≡ (packet_at (frame g) l.split Right).first = ap (λ (x : Packet). x.first) a in
        let t : l.packet.last ≡ (packet_at (frame g) l.split Right).last = ap (λ (x : Packet). x.last) a in
        omega (arith, first, last, f, t, laws.begins l.split is.node)
