-- What setting one bit of one word, or one slot, does to what is shown.
use Rattle.std.proofs.Common.{◌≡◌, ◌≢◌, ℕ, ◌+◌, ◌^◌, ◌<◌, ◌≤◌, ⊎_elim, Bool, true, false, List, length, set, sym, refl, ap, ◌∙◌, subst, arith, eqb, eq-eqb}
use Rattle.std.specs.Prelude.{slice_index, bit_or}
use Rattle.std.specs.Int.{bit_at}
use Rattle.std.proofs.lemmas.Nat.Bits.{bit_at_or, bit_at-pow_same, bit_at-pow_other, bit_at-lt}
use Rattle.std.proofs.lemmas.List.{get_or-set_same, get_or-set_other}
use Rattle.std.proofs.lemmas.Bool.{cases_eq, cases_Bool}
use mathlib.Core.Option.{Option as Maybe, some}
use lib.ListN.{get_elem?}
use Rattle.atomic_table.proofs.Lists.{set_here, set_else}
use Rattle.arrival_core.specs.declared.packets.Side.{Side}
use Rattle.arrival_core.specs.declared.packets.Side.TheVariants.{Left, Right}
use Rattle.arrival_core.specs.declared.packets.Place.{Place}
use Rattle.arrival_core.specs.Frames.{Frame}
use Rattle.arrival_core.specs.Events.{put, put_side, same}
use Rattle.arrival_core.proofs.PutLaws.{put-here, put-other, put_side-same, put_side-apart, same-refl, same-node, same-side}
use Rattle.box_handoff.specs.declared.slots.SlotPacket.{SlotPacket}
use Rattle.box_handoff.specs.LiveNodes.{Shown, slotted}
use Rattle.box_handoff.specs.Entries.{Numbers, IsNumbered}
use Rattle.box_handoff.specs.Rule.{bit_on, side_no, slot, node_word, ShowsSide, ShowsNode, ShowsBatch, ShowsPlace, ShowsPlaces}
use Rattle.box_handoff.proofs.Lending.{homes_set}

-- a bit that is set is on
bit_set : (n b : ℕ) → bit_on (bit_or n (2 ^ b)) b ≡ true
unfolding bit_on
bit_set n b = eq-eqb (bit_at (bit_or n (2 ^ b)) b) 1 (let e = bit_at_or n (2 ^ b) b in let p = bit_at-pow_same b in
    let l = bit_at-lt n b in omega arith)

-- another bit is as before
bit_kept : (n b c : ℕ) → c ≢ b → bit_on (bit_or n (2 ^ b)) c ≡ bit_on n c
unfolding bit_on
bit_kept n b c ne = ap (λ (x : ℕ). eqb x 1) (let e = bit_at_or n (2 ^ b) c in let p = bit_at-pow_other b c ne in
    let l : bit_at (bit_or n (2 ^ b)) c ≡ bit_at n c = omega arith in l)

-- ---- two sides: their numbers differ
pub side_apart : (d e : Side) → d ≢ e → side_no d ≢ side_no e
side_apart Left Left n = λ h. n refl
side_apart Left Right n = λ h. omega arith
side_apart Right Left n = λ h. omega arith
side_apart Right Right n = λ h. n refl

-- a side is 0 or 1
pub side_le : (d : Side) → side_no d ≤ 1
side_le Left = omega arith
side_le Right = omega arith

-- a side is told by its number
side_same : (d e : Side) → side_no d ≡ side_no e → d ≡ e
side_same Left Left h = refl
side_same Left Right h = absurd (omega arith)
side_same Right Left h = absurd (omega arith)
side_same Right Right h = refl

-- another side of the same node
pub not_same : (s : ℕ) (d : Side) (t : ℕ) (e : Side) → same s d t e ≡ false → (s ≡ t) → d ≢ e
not_same s d t e off is eq = let on : same s d t e ≡ true = subst (λ (x : ℕ). same s d x e ≡ true) is
    (subst (λ (x : Side). same s d s x ≡ true) eq (same-refl s d)) in cc

-- the words with that bit of a word set
abbrev pub with_bit : List ℕ → ℕ → ℕ → List ℕ
with_bit words i b = set words i (bit_or (slice_index words i) (2 ^ b))

-- ---- a bit of a node's word
module _ (f : Frame) (num : Numbers) (numbered : IsNumbered f num) (words : List ℕ) (s b : ℕ)
    (count : length words ≡ f.batches + num.count) (node : Shown f s) where
  abbrev pub words' : List ℕ
  words' = with_bit words (f.batches + num.number s) b

  -- the node has a word
  there : f.batches + num.number s < length words
  there = let w = numbered.within s node in omega arith

  -- another node's word is as before
  pub other_word : (t : ℕ) → Shown f t → t ≢ s → node_word f num words' t ≡ node_word f num words t
  other_word t l ne = get_or-set_other words (f.batches + num.number s) (f.batches + num.number t) _ 0
      (λ h. ne (numbered.apart t s l node (omega arith)))

  -- the node's own word has the bit set
  this_word : node_word f num words' s ≡ bit_or (node_word f num words s) (2 ^ b)
  this_word = get_or-set_same words (f.batches + num.number s) _ 0 there

  -- so the bit is on
  bit_here : bit_on (node_word f num words' s) b ≡ true
  bit_here = ap (λ (n : ℕ). bit_on n b) this_word ∙ bit_set (node_word f num words s) b

  -- and each other bit is as before
  bit_else : (t c : ℕ) → Shown f t → (t ≡ s → c ≢ b) → bit_on (node_word f num words' t) c ≡ bit_on
      (node_word f num words t) c
  bit_else t c l ne = ⊎_elim
      (λ (e : t ≡ s). subst (λ (x : ℕ). bit_on (node_word f num words' x) c ≡ bit_on (node_word f num words x) c)
      (sym e) (ap (λ (n : ℕ). bit_on n c) this_word ∙ bit_kept (node_word f num words s) b c (ne e)))
      (λ (n : t ≢ s). ap (λ (n : ℕ). bit_on n c) (other_word t l n)) (cases_eq t s)

  -- the bits of a side with one more set
  pub side_set : (base : ℕ) (d : Side) (bits : ℕ → Side → Bool) → b ≡ base + side_no d →
      ShowsSide f num words base bits → ShowsSide f num words' base (put_side bits s d true)
  side_set base d bits is shows t e l = ⊎_elim
      (λ (on : same s d t e ≡ true). put_side-same bits s d true t e on
      ∙ sym (subst (λ (x : ℕ). bit_on (node_word f num words' x) (base + side_no e) ≡ true) (same-node s d t e on)
      (subst (λ (c : ℕ). bit_on (node_word f num words' s) c ≡ true) (is
      ∙ ap (λ (x : Side). base + side_no x) (same-side s d t e on)) bit_here)))
      (λ (off : same s d t e ≡ false). put_side-apart bits s d true t e off ∙ shows t e l
      ∙ sym (bit_else t (base + side_no e) l
      (λ u h. side_apart d e (not_same s d t e off (sym u)) (omega arith)))) (cases_Bool (same s d t e))

  -- other bits of sides are as before
  pub side_kept : (base : ℕ) (bits : ℕ → Side → Bool) → ((e : Side) → base + side_no e ≢ b) →
      ShowsSide f num words base bits → ShowsSide f num words' base bits
  side_kept base bits ne shows t e l = shows t e l ∙ sym (bit_else t (base + side_no e) l (λ u. ne e))

  -- the bit of a node with one more set
  pub node_set : (bits : ℕ → Bool) → ShowsNode f num words b bits → ShowsNode f num words' b (put bits s true)
  node_set bits shows t l = ⊎_elim
      (λ (e : s ≡ t). subst (λ (x : ℕ). put bits s true x ≡ bit_on (node_word f num words' x) b) e
      (put-here bits s true ∙ sym bit_here))
      (λ (n : s ≢ t). put-other bits s true t n ∙ shows t l ∙ sym (bit_else t b l (λ u h. n (sym u)))) (cases_eq s t)

  -- other bits of nodes are as before
  pub node_kept : (base : ℕ) (bits : ℕ → Bool) → base ≢ b → ShowsNode f num words base bits →
      ShowsNode f num words' base bits
  node_kept base bits ne shows t l = shows t l ∙ sym (bit_else t base l (λ u. ne))

  -- the bits of batches are as before
  pub batch_kept : (bits : ℕ → Bool) → ShowsBatch f words bits → ShowsBatch f words' bits
  batch_kept bits shows j l = shows j l ∙ ap (λ (n : ℕ). bit_on n 0)
      (sym (get_or-set_other words (f.batches + num.number s) j _ 0 (λ h. omega arith)))

-- ---- a batch's word
module _ (f : Frame) (num : Numbers) (words : List ℕ) (k : ℕ) (count : length words ≡ f.batches + num.count)
    (batch : k < f.batches) where
  abbrev pub claimed' : List ℕ
  claimed' = set words k (bit_or (slice_index words k) (2 ^ 0))

  -- the bits of batches with one more set
  pub batch_set : (bits : ℕ → Bool) → ShowsBatch f words bits → ShowsBatch f claimed' (put bits k true)
  batch_set bits shows j l = ⊎_elim
      (λ (e : k ≡ j). subst (λ (x : ℕ). put bits k true x ≡ bit_on (slice_index claimed' x) 0) e (put-here bits k true
      ∙ sym (ap (λ (n : ℕ). bit_on n 0) (get_or-set_same words k _ 0 (omega arith))
      ∙ bit_set (slice_index words k) 0)))
      (λ (n : k ≢ j). put-other bits k true j n ∙ shows j l
      ∙ ap (λ (n : ℕ). bit_on n 0) (sym (get_or-set_other words k j _ 0 (λ h. n (sym h))))) (cases_eq k j)

  -- the words of nodes are as before
  node_same : (t : ℕ) → node_word f num claimed' t ≡ node_word f num words t
  node_same t = get_or-set_other words k (f.batches + num.number t) _ 0 (λ h. omega arith)

  -- the bits of sides are as before
  pub side_same_words : (base : ℕ) (bits : ℕ → Side → Bool) → ShowsSide f num words base bits →
      ShowsSide f num claimed' base bits
  side_same_words base bits shows t e l = shows t e l ∙ ap (λ (n : ℕ). bit_on n (base + side_no e)) (sym (node_same t))

  -- and those of nodes
  pub node_same_words : (base : ℕ) (bits : ℕ → Bool) → ShowsNode f num words base bits →
      ShowsNode f num claimed' base bits
  node_same_words base bits shows t l = shows t l ∙ ap (λ (n : ℕ). bit_on n base) (sym (node_same t))

-- bits that are the same show the same
pub side_equal : (f : Frame) (num : Numbers) (words : List ℕ) (base : ℕ) (bits more : ℕ → Side → Bool) →
    ((t : ℕ) (d : Side) → more t d ≡ bits t d) → ShowsSide f num words base bits → ShowsSide f num words base more
side_equal f num words base bits more is shows t d l = is t d ∙ shows t d l

-- ---- a slot
module _ (f : Frame) (num : Numbers) (numbered : IsNumbered f num) (homes : List (Maybe SlotPacket))
    (places : ℕ → Side → Place) (s : ℕ) (d : Side) (h : Maybe SlotPacket) (p : Place)
    (count : length homes ≡ num.count + 1) (node : Shown f s)
    (apart : (t : ℕ) (e : Side) → Shown f t → slotted f s d ≡ true → slotted f t e ≡ true → same s d t e ≡ false →
    slot (num.number t) e ≢ slot (num.number s) d)
    (new : ShowsPlace d h p) (shows : ShowsPlaces f num homes places) where
  -- the slots with one changed show the places with one changed; a child that has no slot changes none
  pub place_set : (b : Bool) → slotted f s d ≡ b →
      ShowsPlaces f num (homes_set b homes (slot (num.number s) d) h) (put_side places s d p)
  place_set true has t e l on = ⊎_elim
      (λ (is : same s d t e ≡ true). (
        h,
        subst (λ (x : ℕ). get_elem? (set homes (slot (num.number s) d) h) x ≡ some h) (slots is)
            (set_here homes (slot (num.number s) d) h
            (let b = side_le d in let w = numbered.within s node in omega (arith, b, w, count))),
        subst (λ (x : Side). ShowsPlace x h (put_side places s d p t e)) (same-side s d t e is)
            (subst (λ (x : Place). ShowsPlace d h x) (sym (put_side-same places s d p t e is)) new),
      ))
      (λ (off : same s d t e ≡ false). let was = shows t e l on in (
        was.0,
        set_else homes (slot (num.number s) d) (slot (num.number t) e) h (apart t e l has on off) ∙ was.1,
        subst (λ (x : Place). ShowsPlace e was.0 x) (sym (put_side-apart places s d p t e off)) was.2,
      )) (cases_Bool (same s d t e))
    where
      slots : same s d t e ≡ true → slot (num.number s) d ≡ slot (num.number t) e
      slots is = ap (λ (x : ℕ). slot (num.number x) d) (same-node s d t e is)
          ∙ ap (λ (x : Side). slot (num.number t) x) (same-side s d t e is)
  place_set false none t e l on = ⊎_elim
      (λ (is : same s d t e ≡ true). let no : false ≡ true = sym none
      ∙ ap (λ (x : ℕ). slotted f x d) (same-node s d t e is) ∙ ap (slotted f t) (same-side s d t e is) ∙ on in cc)
      (λ (off : same s d t e ≡ false). let was = shows t e l on in (
        was.0,
        was.1,
        subst (λ (x : Place). ShowsPlace e was.0 x) (sym (put_side-apart places s d p t e off)) was.2,
      )) (cases_Bool (same s d t e))
