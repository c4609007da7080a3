-- A slot goes out to a seat, or comes back, where the child has one.
use Rattle.std.proofs.Common.{◌≡◌, ℕ, Bool, true, false, List, [], ◌∷◌, length, set, refl, ap, ◌∙◌}
use Rattle.std.proofs.Math.ListN.{length-set}
use mathlib.Core.Option.{Option as Maybe, none, some}
use lib.ListN.{get_elem?}
use Rattle.atomic_table.specs.Table.{Act, keeps, takes, gives, Valid, homes_after, carried_after, put_back}
use Rattle.box_handoff.specs.declared.slots.SlotPacket.{SlotPacket}
use Rattle.box_handoff.specs.Plays.{lent, without}

-- the places at home with one changed, for a child that has a slot
abbrev pub homes_set : Bool → List (Maybe SlotPacket) → ℕ → Maybe SlotPacket → List (Maybe SlotPacket)
homes_set true homes k h = set homes k h
homes_set false homes k h = homes

-- there are as many as before
pub length_homes : (b : Bool) (homes : List (Maybe SlotPacket)) (k : ℕ) (h : Maybe SlotPacket) →
    length (homes_set b homes k h) ≡ length homes
length_homes true homes k h = length-set homes k h
length_homes false homes k h = refl

-- the act that lends the slot, and the one that gives it back
abbrev pub lends : Bool → ℕ → SlotPacket → Act SlotPacket
lends true k y = takes k y
lends false k y = keeps

-- what is done with a slot that was out: it goes back, if there is one
abbrev pub returns : Bool → Act SlotPacket
returns true = gives
returns false = keeps

-- a slot may be lent that is at home
pub lends_valid : (b : Bool) (homes : List (Maybe SlotPacket)) (c : List (ℕ × SlotPacket)) (k : ℕ) (y : SlotPacket) →
    (b ≡ true → get_elem? homes k ≡ some (some y)) → Valid homes c (lends b k y)
lends_valid true homes c k y h = h refl
lends_valid false homes c k y h = tt

-- it is not at home then
pub lends_homes : (b : Bool) (homes : List (Maybe SlotPacket)) (c : List (ℕ × SlotPacket)) (k : ℕ) (y : SlotPacket) →
    homes_after homes c (lends b k y) ≡ homes_set b homes k none
lends_homes true homes c k y = refl
lends_homes false homes c k y = refl

-- but out with the seat
pub lends_carried : (b : Bool) (c : List (ℕ × SlotPacket)) (k : ℕ) (y : SlotPacket) →
    carried_after c (lends b k y) ≡ lent b k y c
lends_carried true c k y = refl
lends_carried false c k y = refl

-- a slot may be given back
pub returns_valid : (b : Bool) (homes : List (Maybe SlotPacket)) (c : List (ℕ × SlotPacket)) →
    Valid homes c (returns b)
returns_valid true homes c = tt
returns_valid false homes c = tt

-- it is at home then, with what it keeps
pub returns_homes : (b : Bool) (homes : List (Maybe SlotPacket)) (c : List (ℕ × SlotPacket)) (k : ℕ) (y : SlotPacket) →
    c ≡ lent b k y [] → homes_after homes c (returns b) ≡ homes_set b homes k (some y)
returns_homes true homes c k y e = ap (put_back homes) e
returns_homes false homes c k y e = refl

-- and no longer out with the seat
pub returns_carried : (b : Bool) (c : List (ℕ × SlotPacket)) → carried_after c (returns b) ≡ without b c
returns_carried true c = refl
returns_carried false c = refl

-- none is left out
pub without_lent : (b : Bool) (k : ℕ) (y : SlotPacket) → ◌≡◌ {A = List (ℕ × SlotPacket)} (without b (lent b k y [])) []
without_lent true k y = refl
without_lent false k y = refl

-- one slot is out, where the child has one
pub lent_on : (b : Bool) (k : ℕ) (y : SlotPacket) (slots : List (ℕ × SlotPacket)) → slots ≡ lent b k y [] →
    b ≡ true → slots ≡ (k, y) ∷ []
lent_on b k y slots e on = e ∙ ap (λ (z : Bool). lent z k y []) on

-- and none where it has none
pub lent_off : (b : Bool) (k : ℕ) (y : SlotPacket) (slots : List (ℕ × SlotPacket)) → slots ≡ lent b k y [] →
    b ≡ false → slots ≡ []
lent_off b k y slots e off = e ∙ ap (λ (z : Bool). lent z k y []) off
