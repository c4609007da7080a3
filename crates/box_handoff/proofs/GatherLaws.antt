-- Seats are gathered, and a closed table is at rest.
use Rattle.std.proofs.Common.{⊎_elim, inl, inr, Bool, get_or, ◌≡◌, ℕ, ◌+◌, ◌<◌, List, [], ◌∷◌, ◌++◌, length, sym, refl, ap, ◌∙◌, subst, arith}
use Rattle.std.specs.Prelude.{All, ◌&&◌}
use Rattle.std.proofs.Math.ListN.{length-append, get_or-append}
use Rattle.std.proofs.Math.Seq.{get_or-append_seam}
use mathlib.Core.Option.{some}
use Rattle.std.proofs.lemmas.Bool.{cases_lt}
use Rattle.atomic_table.specs.Seated.{TableId}
use Rattle.atomic_table.specs.Table.{Final, Seen}
use Rattle.arrival_core.specs.declared.packets.Phase.TheVariants.{Ended}
use Rattle.arrival_core.specs.declared.packets.Side.{Side}
use Rattle.arrival_core.specs.declared.packets.Place.TheVariants.{Holds}
use Rattle.arrival_core.specs.Frames.{packet_at}
use Rattle.arrival_core.specs.States.{Worker}
use Rattle.box_handoff.specs.declared.slots.SlotPacket.{SlotPacket}
use Rattle.box_handoff.specs.declared.views.Given.{Given}
use Rattle.box_handoff.specs.declared.views.View.{View}
use Rattle.box_handoff.specs.declared.views.Entry.{Entry}
use Rattle.box_handoff.specs.declared.seats.HandSeat.{HandSeat}
use Rattle.box_handoff.specs.Entries.{frame, numbers, In}
use Rattle.box_handoff.specs.Slots.{packed}
use Rattle.box_handoff.specs.Cuts.{both_views}
use Rattle.box_handoff.specs.Rule.{Rule, slot, bit_on, side_no, node_word}
use Rattle.box_handoff.specs.LiveNodes.{Shown, slotted}
use Rattle.box_handoff.specs.declared.handoffs.Handoff.{Handoff}
use Rattle.box_handoff.specs.Seats.{given_by, id_of, entry_of, AreAll}
use Rattle.box_handoff.specs.Gathering.{HasEnded, Covers, AllEnded, AreKept}
use Rattle.box_handoff.proofs.FrameOf.{completes}
use Rattle.box_handoff.proofs.Rosters.{in_left, in_right, in_either}
use Rattle.box_handoff.proofs.Roster.{in_one}
use Rattle.box_handoff.proofs.Standing.{is_full, workers_are, holds_opened}

-- what covers a number in one of two views covers it in both
pub covers_left : (k : ℕ) (v w : View) → Covers k v → Covers k (both_views v w)
covers_left k v w c = (c.0, in_left v.entries w.entries c.0 c.1, c.2, c.3)

-- and so does what covers it in the other
pub covers_right : (k : ℕ) (v w : View) → Covers k w → Covers k (both_views v w)
covers_right k v w c = (c.0, in_right v.entries w.entries c.0 c.1, c.2, c.3)

-- a seat that has ended has one entry, which has ended
pub seat_covers : (g : Given) (z : TableId) (s : HandSeat) → HasEnded g z s → Covers s.number s.seat.me.0
seat_covers g z s h = (
  entry_of s,
  subst (λ (v : View). In (entry_of s) v.entries) (sym h.own.view) (0, refl),
  sym h.own.number,
  h.own.done h.ended,
)

-- its view has no other
pub seat_over : (g : Given) (z : TableId) (s : HandSeat) → HasEnded g z s → AllEnded s.seat.me.0
seat_over g z s h e is =
    let same : e ≡ entry_of s = in_one e (entry_of s) (subst (λ (v : View). In e v.entries) h.own.view is) in
    ap (λ (x : Entry). x.phase) same ∙ h.own.done h.ended

-- and so has each entry of two such views
pub both_over : (v w : View) → AllEnded v → AllEnded w → AllEnded (both_views v w)
both_over v w a b e is = ⊎_elim (a e) (b e) (in_either v.entries w.entries e is)

-- one seat fewer
pub shorter : (old new : List HandSeat) (x : HandSeat) → old ≡ new ++ x ∷ [] → length old ≡ length new + 1
shorter old new x e = ap (λ (l : List HandSeat). length l) e ∙ length-append new (x ∷ [])

-- each but the last stands where it stood
pub stands_still : (old new : List HandSeat) (x : HandSeat) → old ≡ new ++ x ∷ [] → (k : ℕ) (s : HandSeat) →
    k < length new →
    get_or new k s ≡ get_or old k s
stands_still old new x e k s lt = sym (get_or-append new (x ∷ []) s k lt)
    ∙ ap (λ (l : List HandSeat). get_or l k s) (sym e)

-- and it stood behind them
pub stood_last : (old new : List HandSeat) (x : HandSeat) → old ≡ new ++ x ∷ [] → (s : HandSeat) →
    get_or old (length new) s ≡ x
stood_last old new x e s = ap (λ (l : List HandSeat). get_or l (length new) s) e ∙ get_or-append_seam new x [] s

-- each of the others has ended, and so has it
pub ended_cut : (g : Given) (z : TableId) (old new : List HandSeat) (x : HandSeat) → old ≡ new ++ x ∷ [] →
    All (HasEnded g z) old →
    All (HasEnded g z) new × HasEnded g z x
ended_cut g z old new x e all =
    let n = shorter old new x e in (
      λ k s lt. subst (λ (y : HandSeat). HasEnded g z y) (sym (stands_still old new x e k s lt))
          (all k s (omega (arith, n, lt))),
      subst (λ (y : HandSeat). HasEnded g z y) (stood_last old new x e x) (all (length new) x (omega (arith, n))),
    )

-- all seats of a handoff have ended
all_ended : (h : Handoff) (seats : List HandSeat) → AreAll h seats → All (HasEnded (given_by h) (id_of h)) seats
all_ended h seats a k s lt = record { own = (a.own k s lt).seat; ended = a.ended k s lt }

-- so has the last
pub last_ended : (h : Handoff) (old new : List HandSeat) (x : HandSeat) → AreAll h old → old ≡ new ++ x ∷ [] →
    HasEnded (given_by h) (id_of h) x
last_ended h old new x a e = (ended_cut (given_by h) (id_of h) old new x e (all_ended h old a)).1

-- and so have the others
pub rest_ended : (h : Handoff) (old new : List HandSeat) (x : HandSeat) → AreAll h old → old ≡ new ++ x ∷ [] →
    All (HasEnded (given_by h) (id_of h)) new
rest_ended h old new x a e = (ended_cut (given_by h) (id_of h) old new x e (all_ended h old a)).0

-- so when they are gathered each number is covered
pub all_covered : (h : Handoff) (old new : List HandSeat) (x : HandSeat) → AreAll h old → old ≡ new ++ x ∷ [] →
    (before now : View) →
    ((k : ℕ) (s : HandSeat) → k < length new → Covers (get_or new k s).number now) →
    ((k : ℕ) → Covers k before → Covers k now) →
    Covers x.number before → (k : ℕ) → k < (given_by h).seats → Covers k now
all_covered h old new x all e before now front kept_all last k lt =
    let any = all.each k lt in
    let n = shorter old new x e in
    subst (λ (j : ℕ). Covers j now) (ap (λ (s : HandSeat). s.number) any.3 ∙ any.4)
    (elim (cases_lt any.0 (length new)) [
      | inl less ↦ subst (λ (s : HandSeat). Covers s.number now) (stands_still old new x e any.0 any.1 less)
          (front any.0 any.1 less)
      | inr at ↦
          let same : length new ≡ any.0 = omega (arith, n, at, any.2) in
          subst (λ (s : HandSeat). Covers s.number now) (sym (stood_last old new x e any.1)
          ∙ ap (λ (j : ℕ). get_or old j any.1) same)
          (kept_all x.number last)
    ])

-- where all have ended, each place holds its child's packet
stood_there : (g : Given) → (id : ℕ) (v : View) (words : List ℕ) (slots : List SlotPacket)
    (fin : Final (Seen (Rule g) id v) words slots) → ((k : ℕ) → k < g.seats → Covers k v) → (t : ℕ) (d : Side) →
    t < (frame g).nodes → fin.1.0.machine.place t d ≡ Holds (packet_at (frame g) t d)
stood_there g id v words slots fin all t d lt =
    let h : Rule g fin.0 = fin.1.0 in
    let ended : (k : ℕ) → k < (frame g).workers → (h.machine.worker k).phase ≡ Ended = λ k small.
    let c = all k (subst (λ (n : ℕ). k < n) (workers_are g) small) in
    ap (λ (n : ℕ). (h.machine.worker n).phase) (sym c.2)
    ∙ ap (λ (w : Worker). w.phase) (h.rostered.worker id v fin.1.1 c.0 c.1) ∙ c.3 in
    (completes g h.given h.machine h.lawful ended).places t d lt

-- so each slot that is a child's keeps it
pub kept : (g : Given) → (id : ℕ) (v : View) (words : List ℕ) (slots : List SlotPacket) →
    Final (Seen (Rule g) id v) words slots → ((k : ℕ) → k < g.seats → Covers k v) → AreKept g slots
kept g id v words slots fin all t d seen on =
    let h : Rule g fin.0 = fin.1.0 in
    let was = h.shows.places t d seen on in
    let stood = stood_there g id v words slots fin all t d seen.0 in
    fin.4 (slot ((numbers g).number t) d) (packed d (packet_at (frame g) t d))
    (was.1 ∙ ap some (is_full d was.0 (h.machine.place t d) (packet_at (frame g) t d) was.2 stood))

-- and a bit tells which children have one
pub told_by : (g : Given) → (id : ℕ) (v : View) (words : List ℕ) (slots : List SlotPacket) →
    Final (Seen (Rule g) id v) words slots → ((k : ℕ) → k < g.seats → Covers k v) → (t : ℕ) (d : Side) →
    Shown (frame g) t → bit_on (node_word (frame g) (numbers g) words t) (7 + side_no d) ≡ slotted (frame g) t d
told_by g id v words slots fin all t d seen =
    let h : Rule g fin.0 = fin.1.0 in
    let opened = holds_opened (frame g) h.machine t d (packet_at (frame g) t d) seen.0 h.lawful
    (stood_there g id v words slots fin all t d seen.0) in
    ap (λ (l : List ℕ). bit_on (node_word (frame g) (numbers g) l t) (7 + side_no d)) (sym fin.2)
    ∙ sym (h.shows.handed t d seen) ∙ ap (λ (b : Bool). b && slotted (frame g) t d) opened
