-- The table as it is made shows the start.
use Rattle.std.proofs.Common.{◌≡◌, ◌≢◌, ℕ, zero, suc, ◌+◌, ◌<◌, ◌≤◌, inl, inr, ◌⊎◌, ⊎_elim, Bool, true, false, cond, List, [], ◌∷◌, ◌++◌, map, length, replicate, get_or, sym, refl, ap, ◌∙◌, subst, arith, eqb, eq-eqb, ne_eqb, None}
use Rattle.std.specs.Prelude.{slice_index, not, ◌&&◌, if◌then◌else◌}
use Rattle.std.proofs.lemmas.Nat.Bits.{bit_at-zero}
use Rattle.std.proofs.lemmas.Bool.{cases_eq}
use mathlib.Core.Option.{Option as Maybe, some, some-injective, some-ne-none}
use lib.ListN.{get_elem?}
use Rattle.atomic_table.specs.Table.{opening}
use Rattle.atomic_table.proofs.Lists.{at_snoc}
use Rattle.arrival_core.specs.declared.packets.Packet.{Packet}
use Rattle.arrival_core.specs.declared.packets.Place.{Place}
use Rattle.arrival_core.specs.declared.packets.Place.TheVariants.{Nothing, Holds}
use Rattle.arrival_core.specs.declared.packets.Side.{Side}
use Rattle.arrival_core.specs.declared.packets.Side.TheVariants.{Left, Right}
use Rattle.arrival_core.specs.Frames.{Frame, Below, live_at, live_below, packet_at}
use Rattle.arrival_core.specs.Frames.Below.{leaf, inner}
use Rattle.arrival_core.specs.States.{State}
use Rattle.arrival_core.specs.Start.{fresh, IsStart}
use Rattle.arrival_core.specs.Tasks.{IsWhole}
use Rattle.box_handoff.specs.declared.slots.SlotPacket.{SlotPacket}
use Rattle.box_handoff.specs.declared.views.Given.{Given}
use Rattle.box_handoff.specs.declared.views.Entry.{Entry}
use Rattle.box_handoff.specs.declared.views.View.{View}
use Rattle.box_handoff.specs.Slots.{blank}
use Rattle.box_handoff.specs.Starting.{Starts, start_word}
use Rattle.box_handoff.specs.LiveNodes.{slot_below, slotted}
use Rattle.box_handoff.specs.Entries.{IsGiven, numbers, setting_of, frame, first_view, unbegun, unbegun_below, after_all, worker_of, times, total, In}
use Rattle.box_handoff.specs.Rule.{Rule, Rostered, AreTogether, Shows, ShowsPlace, empty, IsHonest, bit_on, side_no, slot}
use Rattle.box_handoff.proofs.Roster.{total_append}
use Rattle.box_handoff.proofs.FrameOf.{begins}
use Rattle.box_handoff.proofs.NumberLaws.{numbered, count_none}
use Rattle.box_handoff.proofs.WholeFrame.{all_live, whole_given}

-- every word is 0
pub word_zero : (n k : ℕ) → ◌≡◌ {A = ℕ} (get_or (replicate n 0) k 0) 0
word_zero zero k = refl
word_zero (suc n) zero = refl
word_zero (suc n) (suc k) = word_zero n k

-- so many of one value
pub length_rep : {A : Type 0} (n : ℕ) (a : A) → length (replicate n a) ≡ n
length_rep zero a = refl
length_rep (suc n) a = ap suc (length_rep n a)

-- as many as before
length_map : {A B : Type 0} (f : A → B) (l : List A) → length (map f l) ≡ length l
length_map f [] = refl
length_map f (x ∷ xs) = ap suc (length_map f xs)

-- every slot is blank
slot_blank : (n k : ℕ) → k < n → ◌≡◌ {A = Maybe SlotPacket} (get_elem? (replicate n blank) k) (some blank)
slot_blank zero k h = absurd (omega arith)
slot_blank (suc n) zero h = refl
slot_blank (suc n) (suc k) h = slot_blank n k (omega arith)

-- what is in a slot is at home there
home_some : (xs : List SlotPacket) (k : ℕ) (x : SlotPacket) → get_elem? xs k ≡ some x →
    ◌≡◌ {A = Maybe (Maybe SlotPacket)} (get_elem? (map some xs) k) (some (some x))
home_some [] k x h = absurd (some-ne-none x (sym h))
home_some (y ∷ ys) zero x h = ap (λ (m : Maybe SlotPacket). some m) h
home_some (y ∷ ys) (suc k) x h = home_some ys k x h

-- no bit of 0 is set
bit_zero : (j : ℕ) → bit_on 0 j ≡ false
unfolding bit_on
bit_zero j = ap (λ (x : ℕ). eqb x 1) (bit_at-zero j)

-- the one of two for a side
abbrev of_side : Side → Bool → Bool → Bool
of_side Left l r = l
of_side Right l r = r

-- whether a child is live, by its side
live_of : (f : Frame) (t : ℕ) (d : Side) → live_at f t d ≡ of_side d (live_at f t Left) (live_at f t Right)
live_of f t Left = refl
live_of f t Right = refl

-- a side is opened if it is not live
open_bit : (l r : Bool) (d : Side) → not (of_side d l r) ≡ bit_on (start_word l r) (0 + side_no d)
unfolding bit_on
open_bit true true Left = refl
open_bit true true Right = refl
open_bit true false Left = refl
open_bit true false Right = refl
open_bit false true Left = refl
open_bit false true Right = refl
open_bit false false Left = refl
open_bit false false Right = refl

-- and has arrived
arrived_bit : (l r : Bool) (d : Side) → not (of_side d l r) ≡ bit_on (start_word l r) (2 + side_no d)
unfolding bit_on
arrived_bit true true Left = refl
arrived_bit true true Right = refl
arrived_bit true false Left = refl
arrived_bit true false Right = refl
arrived_bit false true Left = refl
arrived_bit false true Right = refl
arrived_bit false false Left = refl
arrived_bit false false Right = refl

-- none is collected
collected_bit : (l r : Bool) (d : Side) → false ≡ bit_on (start_word l r) (4 + side_no d)
unfolding bit_on
collected_bit true true Left = refl
collected_bit true true Right = refl
collected_bit true false Left = refl
collected_bit true false Right = refl
collected_bit false true Left = refl
collected_bit false true Right = refl
collected_bit false false Left = refl
collected_bit false false Right = refl

-- and none has a slot
handed_bit : (l r : Bool) (d : Side) → false ≡ bit_on (start_word l r) (7 + side_no d)
unfolding bit_on
handed_bit true true Left = refl
handed_bit true true Right = refl
handed_bit true false Left = refl
handed_bit true false Right = refl
handed_bit false true Left = refl
handed_bit false true Right = refl
handed_bit false false Left = refl
handed_bit false false Right = refl

-- nor is it returned
returned_bit : (l r : Bool) → false ≡ bit_on (start_word l r) 6
unfolding bit_on
returned_bit true true = refl
returned_bit true false = refl
returned_bit false true = refl
returned_bit false false = refl

-- what has a slot is live
below_live : (f : Frame) (b : Below) → slot_below f b ≡ live_below f b ⊎ slot_below f b ≡ false
unfolding slot_below live_below
below_live f (leaf p) = inr refl
below_live f (inner t) = inl refl

-- so has a child
slot_live : (f : Frame) (t : ℕ) (d : Side) → slotted f t d ≡ live_at f t d ⊎ slotted f t d ≡ false
unfolding slotted live_at
slot_live f t d = below_live f (f.child t d)

-- so one that is not live is opened, and has none
none_handed : (l s : Bool) → s ≡ l ⊎ s ≡ false → (not l && s) ≡ false
none_handed true s h = refl
none_handed false s (inl e) = e
none_handed false s (inr e) = e

-- and told without one
all_told : (l s : Bool) → s ≡ l ⊎ s ≡ false → (not l && not s) ≡ not l
all_told true s h = refl
all_told false s (inl e) = ap not e
all_told false s (inr e) = ap not e

-- the place of one that has a slot holds nothing at first
nothing_there : (l s : Bool) (p : Packet) → s ≡ l ⊎ s ≡ false → s ≡ true →
    Nothing ≡ (if l then Nothing else Holds p)
nothing_there true s p h on = refl
nothing_there false s p (inl e) on = let no : true ≡ false = sym on ∙ e in cc
nothing_there false s p (inr e) on = let no : true ≡ false = sym on ∙ e in cc

-- an entry of those of the numbers below n
pub in_below : (n : ℕ) (e : Entry) → In e (unbegun_below n) → (k : ℕ) × (k < n) × (e ≡ unbegun k)
unfolding unbegun_below
in_below zero e h = absurd (some-ne-none e (sym h.1))
in_below (suc n) e h = ⊎_elim (λ l. let t = in_below n e (h.0, l) in
    (t.0, (let z = t.1 in omega arith), t.2)) (λ r. (n, omega arith, sym r))
    (at_snoc (unbegun_below n) (unbegun n) e h.0 h.1)

-- a number that is not below is not there
times_below : (i n : ℕ) → n ≤ i → times i (unbegun_below n) ≡ 0
unfolding unbegun_below
times_below i zero h = refl
times_below i (suc n) h = let c : Entry → ℕ = λ e. cond (eqb e.number i) 1 0 in
    let a : total c (unbegun_below n ++ unbegun n ∷ []) ≡ total c (unbegun_below n) +
    (c (unbegun n) + 0) = total_append c (unbegun_below n) (unbegun n ∷ []) in
    let b : total c (unbegun_below n) ≡ 0 = times_below i n (omega arith) in
    let d : c (unbegun n) ≡ 0 = let f : Bool → ℕ = λ x. cond x 1 0 in ap f (ne_eqb n i (λ z. omega arith)) in
    omega arith

-- one that is below is there once
times_once : (i n : ℕ) → i < n → times i (unbegun_below n) ≡ 1
unfolding unbegun_below
times_once i zero h = absurd (omega arith)
times_once i (suc n) h = let c : Entry → ℕ = λ e. cond (eqb e.number i) 1 0 in
    let a : total c (unbegun_below n ++ unbegun n ∷ []) ≡ total c (unbegun_below n) +
    (c (unbegun n) + 0) = total_append c (unbegun_below n) (unbegun n ∷ []) in
    ⊎_elim (λ (e : n ≡ i). let b : total c (unbegun_below n) ≡ 0 = times_below i n (omega arith) in
    let d : c (unbegun n) ≡ 1 = (let f : Bool → ℕ = λ x. cond x 1 0 in ap f (eq-eqb n i e)) in omega arith)
    (λ (ne : n ≢ i). let b : total c (unbegun_below n) ≡ 1 = times_once i n (omega arith) in
    let d : c (unbegun n) ≡ 0 = (let f : Bool → ℕ = λ x. cond x 1 0 in ap f (ne_eqb n i ne)) in
    omega arith) (cases_eq n i)

-- a side is 0 or 1
side_low : (d : Side) → side_no d ≤ 1
side_low Left = omega arith
side_low Right = omega arith

-- the machine's start, which says the same of nodes that are not live
unfoldable started : Frame → State
started f = record {
  claimed = λ j. false;
  opened = λ t d. not (live_at f t d);
  arrived = λ t d. not (live_at f t d);
  collected = λ t d. false;
  returned = λ t. not (f.live_node t);
  place = λ t d. if live_at f t d then Nothing else Holds (packet_at f t d);
  worker = λ k. fresh;
}

module _ (g : Given) (ok : IsGiven g) where
  abbrev f : Frame
  f = frame g

  -- there is one view
  only : (id : ℕ) (v : View) → get_elem? (first_view g ∷ []) id ≡ some v → first_view g ≡ v
  only zero v e = some-injective (first_view g) v e
  only (suc id) v e = absurd (some-ne-none v (sym e))

  -- its entries are the seats, none begun
  entries : (id : ℕ) (v : View) → get_elem? (first_view g ∷ []) id ≡ some v → (e : Entry) → In e v.entries →
      (k : ℕ) × (k < g.seats) × (e ≡ unbegun k)
  entries id v at e is = in_below g.seats e (subst (λ (x : View). In e x.entries) (sym (only id v at)) is)

  -- so each worker has one entry, in one view, which tells what it has done
  rostered : Rostered g (first_view g ∷ []) (started f).worker
  unfolding started after_all
  rostered = record {
    same = λ id v at e is. ap (λ (x : View). x.given) (sym (only id v at));
    once = λ i l. let a : times i (unbegun_below g.seats) ≡ 1 = times_once i g.seats l in omega arith;
    known = λ id v at e is. let t = entries id v at e is in subst (λ (x : Entry). x.number < g.seats) (sym t.2) t.1;
    together = λ id v at. subst (λ (x : View). AreTogether x.entries) (only id v at)
        (λ more. inl (λ e is. let t = in_below g.seats e is in ap (λ (x : Entry). x.events) t.2));
    honest = λ id v at e is. let t = entries id v at e is in
        subst (λ (x : Entry). IsHonest f x) (sym t.2) (record { worker = refl });
    worker = λ id v at e is. let t = entries id v at e is in ap worker_of (sym t.2);
  }

  -- the words and slots show the machine's start
  shown : (words : List ℕ) (slots : List SlotPacket) → Starts f (numbers g) words slots →
      Shows f (numbers g) words (map some slots) (started f)
  unfolding started
  shown words slots s = record {
    word_count = s.word_count;
    slot_count = length_map some slots ∙ ap (λ (x : List SlotPacket). length x) s.blanks
        ∙ length_rep ((numbers g).count + 1) blank;
    claims = λ j l. sym (ap (λ (x : ℕ). bit_on x 0) (s.claims j l) ∙ bit_zero 0);
    opened = λ t d l. all_told (live_at f t d) (slotted f t d) (slot_live f t d)
        ∙ ap not (live_of f t d) ∙ open_bit (live_at f t Left) (live_at f t Right) d
        ∙ sym (ap (λ (x : ℕ). bit_on x (0 + side_no d)) (s.word t l));
    handed = λ t d l. none_handed (live_at f t d) (slotted f t d) (slot_live f t d)
        ∙ handed_bit (live_at f t Left) (live_at f t Right) d
        ∙ sym (ap (λ (x : ℕ). bit_on x (7 + side_no d)) (s.word t l));
    arrived = λ t d l. ap not (live_of f t d) ∙ arrived_bit (live_at f t Left) (live_at f t Right) d
        ∙ sym (ap (λ (x : ℕ). bit_on x (2 + side_no d)) (s.word t l));
    collected = λ t d l. collected_bit (live_at f t Left) (live_at f t Right) d
        ∙ sym (ap (λ (x : ℕ). bit_on x (4 + side_no d)) (s.word t l));
    returned = λ t l. ap not l.1 ∙ returned_bit (live_at f t Left) (live_at f t Right)
        ∙ sym (ap (λ (x : ℕ). bit_on x 6) (s.word t l));
    places = λ t d l on. (
      some blank,
      home_some slots (slot ((numbers g).number t) d) blank
          (ap (λ (x : List SlotPacket). get_elem? x (slot ((numbers g).number t) d)) s.blanks
          ∙ slot_blank ((numbers g).count + 1) (slot ((numbers g).number t) d)
          (let w = (numbered g ok).within t l in let z = side_low d in omega (arith, w, z))),
      subst (λ (p : Place). ShowsPlace d (some blank) p)
          (nothing_there (live_at f t d) (slotted f t d) (packet_at f t d) (slot_live f t d) on) empty,
    );
  }

  -- it is the machine's start
  starts : IsStart f (started f)
  unfolding started
  starts = record {
    claimed = λ j l. refl;
    opened = λ t d l. refl;
    arrived = λ t d l. refl;
    collected = λ t d l. refl;
    returned = λ t l. refl;
    place = λ t d l. refl;
    workers = λ k l. refl;
  }

  -- the rule holds of the table as it is made
  pub opens : (words : List ℕ) (slots : List SlotPacket) → Starts f (numbers g) words slots →
      Rule g (opening words slots (first_view g))
  opens words slots s = record {
    machine = started f;
    shows = shown words slots s;
    lawful = begins g ok (started f) starts;
    rostered = rostered;
    given = ok;
    numbered = numbered g ok;
  }

-- words that are 0 and blank slots are the start, where all leaves are live
module _ (g : Given) (whole : IsWhole (setting_of g)) (none : g.spots ≡ None)
    (tree : g.tree ≡ None) where
  -- keys whose leaves are all live may be given
  ok : IsGiven g
  ok = whole_given g whole none tree

  -- so they do
  pub whole_starts : (words : List ℕ) (slots : List SlotPacket) →
      words ≡ replicate ((frame g).batches + (frame g).nodes) 0 → slots ≡ replicate ((frame g).nodes + 1) blank →
      Starts (frame g) (numbers g) words slots
  whole_starts words slots ws ss = record {
    word_count = ap (λ (x : List ℕ). length x) ws ∙ length_rep ((frame g).batches + (frame g).nodes) 0
        ∙ ap (λ (n : ℕ). (frame g).batches + n) (sym (count_none g ok none));
    claims = λ j l. zero_at j;
    word = λ t l. zero_at ((frame g).batches + (numbers g).number t)
        ∙ sym (ap (λ (b : Bool). start_word b (live_at (frame g) t Right)) (all_live g whole t Left l.0)
        ∙ ap (start_word true) (all_live g whole t Right l.0));
    blanks = ss ∙ ap (λ (n : ℕ). replicate (n + 1) blank) (sym (count_none g ok none));
  }
    where
      zero_at : (k : ℕ) → slice_index words k ≡ 0
      zero_at k = ap (λ (x : List ℕ). get_or x k 0) ws ∙ word_zero ((frame g).batches + (frame g).nodes) k
