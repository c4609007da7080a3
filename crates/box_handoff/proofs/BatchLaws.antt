-- Batches of positions, and what a worker does with them.
use Rattle.std.proofs.Common.{◌≡◌, ℕ, zero, suc, ◌+◌, ◌-◌, ◌*◌, ◌/◌, ◌<◌, ◌≤◌, Bool, List, [], ◌∷◌, length, take, drop, get_or, min, sym, refl, ap, ◌∙◌, subst, arith, ne_eqb, drop-cons}
use Rattle.std.specs.Prelude.{if◌then◌else◌, slice_index}
use Rattle.arrival_core.specs.declared.packets.Load.{Load}
use Rattle.arrival_core.specs.declared.packets.Tally.{Tally}
use Rattle.arrival_core.specs.declared.packets.Phase.{Phase}
use Rattle.arrival_core.specs.declared.packets.Phase.TheVariants.{Looking, Carry, Ended}
use Rattle.arrival_core.specs.Frames.{Frame}
use Rattle.arrival_core.specs.States.{Worker}
use Rattle.arrival_core.specs.Settings.{frame_of}
use Rattle.arrival_core.specs.Events.{resume, stepped}
use Rattle.arrival_core.specs.Start.{fresh}
use Rattle.atomic_table.specs.declared.shared.Seat.{Seat}
use Rattle.box_handoff.specs.declared.slots.SlotPacket.{SlotPacket}
use Rattle.box_handoff.specs.declared.views.Given.{Given}
use Rattle.box_handoff.specs.declared.views.View.{View}
use Rattle.box_handoff.specs.declared.views.About.{About}
use Rattle.box_handoff.specs.declared.views.Event.{Event}
use Rattle.box_handoff.specs.Entries.{frame, worker_of, given_of}
use Rattle.box_handoff.specs.Plays.{Mine, mine, IsSmall}
use Rattle.box_handoff.specs.Climbs.{Climbed, Did}
use Rattle.box_handoff.proofs.GrowLaws.{grew_all, grew_did, grew_none}

-- how many batches a handoff has
pub batches_are : (g : Given) → (frame g).batches ≡ (length g.live + 63) / 64
unfolding frame frame_of
batches_are g = refl

-- the positions of a batch
batch_is : (g : Given) (k : ℕ) → (frame g).batch k ≡ take 64 (drop (64 * k) g.live)
unfolding frame frame_of
batch_is g k = refl

-- to take more than there is takes all
take_short : (l : List ℕ) (n m : ℕ) → length l ≤ n → length l ≤ m → take n l ≡ take m l
take_short [] zero zero a b = refl
take_short [] zero (suc m) a b = refl
take_short [] (suc n) zero a b = refl
take_short [] (suc n) (suc m) a b = refl
take_short (x ∷ xs) zero m a b = absurd (omega arith)
take_short (x ∷ xs) (suc n) zero a b = absurd (omega arith)
take_short (x ∷ xs) (suc n) (suc m) a b = ap (λ (z : List ℕ). x ∷ z) (take_short xs n m (omega arith) (omega arith))

-- how many are left behind so many
length_drop : (i : ℕ) (l : List ℕ) → length (drop i l) ≡ length l - i
length_drop zero l = omega arith
length_drop (suc i) [] = omega arith
length_drop (suc i) (x ∷ xs) = let h : length (drop i xs) ≡ length xs - i = length_drop i xs in omega arith

-- a batch reaches as far as the list
pub batch_end : (g : Given) (k e : ℕ) → e ≡ min (length g.live) (64 * k + 64) → 64 * k ≤ length g.live →
    (frame g).batch k ≡ take (e - 64 * k) (drop (64 * k) g.live)
batch_end g k e is in_ = batch_is g k ∙ cases (native.Mathlib.Decide.dec_le (64 * k + 64) (length g.live))
  where
    cases : Dec (64 * k + 64 ≤ length g.live) → take 64 (drop (64 * k) g.live) ≡ take (e - 64 * k)
        (drop (64 * k) g.live)
    cases (yes h) = ap (λ (n : ℕ). take n (drop (64 * k) g.live)) (let z : 64 ≡ e - 64 * k = omega arith in z)
    cases (no h) = let d = length_drop (64 * k) g.live in
        take_short (drop (64 * k) g.live) 64 (e - 64 * k) (omega arith) (omega arith)

-- the first of what is pending, and the rest
one_less : (l : List ℕ) (i e : ℕ) → i < e → e ≤ length l →
    take (e - i) (drop i l) ≡ slice_index l i ∷ take (e - (i + 1)) (drop (i + 1) l)
one_less l i e h k = let d : drop i l ≡ get_or l i 0 ∷ drop (suc i) l = drop-cons l i 0 (omega arith) in
    let n : e - i ≡ suc (e - (i + 1)) = omega arith in let s : suc i ≡ i + 1 = omega arith in
    ap (λ (m : ℕ). take m (drop i l)) n ∙ ap (take (suc (e - (i + 1)))) d
    ∙ ap (λ (m : ℕ). get_or l i 0 ∷ take (e - (i + 1)) (drop m l)) s

-- at the end nothing is pending
pub none_left : (l : List ℕ) (i e : ℕ) → e ≤ i → take (e - i) (drop i l) ≡ []
none_left l i e h = let z : e - i ≡ 0 = omega arith in ap (λ (m : ℕ). take m (drop i l)) z

-- the worker has taken the first of what is pending
facing : (f : Frame) (cur : Mine) (next p : ℕ) (ps l : List ℕ) (t : Tally) (load : Load) →
    worker_of (mine cur) ≡ resume f next l t → l ≡ p ∷ ps
    → load ≡ record { split = (f.above_leaf p).split; side = (f.above_leaf p).side; packet = f.leaf_packet p } →
    worker_of (mine cur) ≡ record { next = next; pending = ps; phase = Carry load; tally = t }
facing f cur next p ps l t load is e a = is ∙ ap (λ (x : List ℕ). resume f next x t) e
    ∙ ap (λ (x : Load). let w : Worker = record { next = next; pending = ps; phase = Carry x; tally = t } in w) (sym a)

-- a worker with a batch before it and nothing pending looks for it
looking : (f : Frame) (cur : Mine) (k : ℕ) (t : Tally) → k < f.batches → worker_of (mine cur) ≡ resume f k [] t →
    worker_of (mine cur) ≡ record { next = k; pending = []; phase = Looking; tally = t }
looking f cur k t h is = is ∙ ap (λ (b : Bool). let w : Worker = record
    { next = k; pending = []; phase = if b then Ended else Looking; tally = t } in
    w) (ne_eqb k f.batches (λ z. omega arith))

-- one that has not begun goes on with batch 0
pub begins : (f : Frame) (cur : Mine) → 0 < f.batches → worker_of (mine cur) ≡ fresh →
    worker_of (mine cur) ≡ resume f 0 [] (record { fits = 0; steps = 0 })
unfolding fresh
begins f cur h is = is ∙ ap (λ (b : Bool). let w : Worker = record
    { next = 0; pending = []; phase = if b then Ended else Looking; tally = record { fits = 0; steps = 0 } } in
    w) (sym (ne_eqb 0 f.batches (λ z. omega arith)))

-- two climbs in a row are one
pub climbed_all : (g : Given) (a b c : Seat SlotPacket View) → Climbed g a b → Climbed g b c → Climbed g a c
climbed_all g a b c h k = record {
  table = k.table ∙ h.table;
  id = k.id
      ∙ h.id;
  view = k.view;
  home = k.home;
  grew = grew_all (frame g) (mine a.me) (mine b.me)
      (mine c.me) h.grew k.grew;
  small = λ x. k.small (h.small x);
}

-- a number read with any default is the one at its place
pub at_index : (l : List ℕ) (i v : ℕ) → v ≡ get_or l i v → i < length l → v ≡ slice_index l i
at_index l i v e h = e ∙ get_or_default l i v h
  where
    get_or_default : (xs : List ℕ) (i x : ℕ) → i < length xs → get_or xs i x ≡ get_or xs i 0
    get_or_default [] i x h = absurd (omega arith)
    get_or_default (y ∷ ys) zero x h = refl
    get_or_default (y ∷ ys) (suc i) x h = get_or_default ys i x (omega arith)

-- what is pending, by the position that was read
next_one : (l : List ℕ) (i e v : ℕ) → i < e → e ≤ length l → v ≡ get_or l i v →
    take (e - i) (drop i l) ≡ v ∷ take (e - (i + 1)) (drop (i + 1) l)
next_one l i e v h k is = one_less l i e h k ∙ ap (λ (x : ℕ). x ∷ take (e - (i + 1)) (drop (i + 1) l))
    (sym (at_index l i v is (omega arith)))

-- the load of the leaf at a position
abbrev pub leaf_of : Given → ℕ → Load
leaf_of g p = record {
  split = ((frame g).above_leaf p).split;
  side = ((frame g).above_leaf p).side;
  packet =
      (frame g).leaf_packet p;
}

-- the worker faces the leaf at place i of the live positions
pub faces : (a : About) (b : About) → a ≡ b → (cur : Mine) (next i e v n m : ℕ) (t : Tally) (load : Load) →
    worker_of (mine cur) ≡ resume (frame (given_of a)) next (take (e - i) (drop i b.live.items)) t
    → i < e → e ≡ min n m → n ≡ length b.live.items → v ≡ get_or b.live.items i v → load ≡ leaf_of (given_of b) v
    → worker_of (mine cur) ≡ record {
      next = next;
      pending = take (e - (i + 1))
          (drop (i + 1) b.live.items);
      phase = Carry load;
      tally = t;
    }
faces a b same cur next i e v n m t load is h en nl v_is l = facing (frame (given_of a)) cur next v _ _ t load is
    (next_one b.live.items i e v h (omega arith) v_is)
    (subst (λ (x : About). load ≡ leaf_of (given_of x) v) (sym same) l)

-- what a worker goes on with after a leaf
pub goes_on : (f : Frame) (cur new : Mine) (next : ℕ) (ps : List ℕ) (p : Phase) (t u : Tally) →
    worker_of (mine cur) ≡ record { next = next; pending = ps; phase = p; tally = t }
    → worker_of (mine new) ≡ resume f (mine cur).next (mine cur).pending u → worker_of (mine new) ≡ resume f next ps u
goes_on f cur new next ps p t u was is = is ∙ ap (λ (w : Worker). resume f w.next w.pending u) was

-- the phase of a worker that is known
pub phase_of : (w : Worker) (next : ℕ) (ps : List ℕ) (p : Phase) (t : Tally) →
    w ≡ record { next = next; pending = ps; phase = p; tally = t } → w.phase ≡ p
phase_of w next ps p t e = ap (λ (x : Worker). x.phase) e

-- and its tally
pub tally_of : (w : Worker) (next : ℕ) (ps : List ℕ) (p : Phase) (t : Tally) →
    w ≡ record { next = next; pending = ps; phase = p; tally = t } → t ≡ w.tally
tally_of w next ps p t e = sym (ap (λ (x : Worker). x.tally) e)

-- what a take leaves to do
pub took : (f : Frame) (old new : Mine) (k : ℕ) (t : Tally) (was : Bool) → k < f.batches →
    worker_of (mine old) ≡ resume f k [] t
    → worker_of (mine new) ≡ resume f ((mine old).next + 1) (if was then [] else f.batch (mine old).next)
    (stepped (mine old).tally)
    → worker_of (mine new) ≡ resume f (k + 1) (if was then [] else f.batch k)
    (record { fits = t.fits; steps = t.steps + 1 })
took f old new k t was h is tells = tells ∙ ap (λ (w : Worker). resume f (w.next + 1)
    (if was then [] else f.batch w.next) (stepped w.tally)) (looking f old k t h is)

-- the same by whether the batch was claimed
pub took_so : (f : Frame) (new : Mine) (k : ℕ) (t : Tally) (was b : Bool) → was ≡ b →
    worker_of (mine new) ≡ resume f (k + 1) (if was then [] else f.batch k) t →
    worker_of (mine new) ≡ resume f (k + 1) (if b then [] else f.batch k) t
took_so f new k t was b e is = subst (λ (x : Bool). worker_of (mine new) ≡ resume f (k + 1)
    (if x then [] else f.batch k) t) e is

-- one step is a climb
climbed_one : (g : Given) (old new : Seat SlotPacket View) (ev : Event) → new.table_id ≡ old.table_id →
    new.id ≡ old.id → Did g old.me new.me ev → new.me.1 ≡ [] → Climbed g old new
climbed_one g old new ev t i d home = record {
  table = t;
  id = i;
  view = d.view;
  home = home;
  grew = grew_did g
      (mine old.me) old.me new.me ev (grew_none (frame g) (mine old.me)) d;
  small = λ h. d.small;
}

-- and so is a climb with a step behind it
pub climbed_on : (g : Given) (a b c : Seat SlotPacket View) (ev : Event) → Climbed g a b → c.table_id ≡ b.table_id →
    c.id ≡ b.id → Did g b.me c.me ev → c.me.1 ≡ b.me.1 → Climbed g a c
climbed_on g a b c ev h t i d out = climbed_all g a b c h (climbed_one g b c ev t i d (out ∙ h.home))

-- a worker that has not begun has a small tally
pub fresh_small : (m : Mine) → worker_of (mine m) ≡ fresh → IsSmall (mine m).tally
unfolding fresh
fresh_small m is = subst (λ (w : Worker). IsSmall w.tally) (sym is) (record { fits = omega arith; steps = omega arith })
