-- The list of live splits: it rises, has each live node once, and no other.
use Rattle.std.proofs.Common.{◌≡◌, ◌≢◌, ℕ, zero, suc, ◌+◌, ◌<◌, ◌≤◌, ⊎_elim, Bool, true, false, List, [], ◌∷◌, length, sym, refl, ap, ◌∙◌, subst, arith}
use Rattle.std.specs.Prelude.{slice_index, if◌then◌else◌, All, AllPairs}
use Rattle.std.proofs.lemmas.Bool.{cases_eq, cases_Bool}
use Rattle.std.proofs.lemmas.List.{get_or_default}
use Rattle.std.proofs.lemmas.List.Kept.{AllPairs-cons}
use Rattle.arrival_core.specs.Frames.{Frame}
use Rattle.box_handoff.specs.LiveNodes.{Shown, live_splits, splits_of}

-- where the test holds, the first of two is chosen
if_true : {A : Type 0} (b : Bool) (x y : A) → b ≡ true → (if b then x else y) ≡ x
if_true b x y e = ap (λ (c : Bool). if c then x else y) e

-- where it does not, the second
if_false : {A : Type 0} (b : Bool) (x y : A) → b ≡ false → (if b then x else y) ≡ y
if_false b x y e = ap (λ (c : Bool). if c then x else y) e

-- a live split is listed, another is not
pub splits_on : (f : Frame) (a m : ℕ) → f.live_node a ≡ true →
    live_splits f a (suc m) ≡ a ∷ live_splits f (suc a) m
unfolding live_splits
splits_on f a m e = if_true (f.live_node a) (a ∷ live_splits f (suc a) m) (live_splits f (suc a) m) e

-- a node that is not live adds no split
pub splits_off : (f : Frame) (a m : ℕ) → f.live_node a ≡ false → live_splits f a (suc m) ≡ live_splits f (suc a) m
unfolding live_splits
splits_off f a m e = if_false (f.live_node a) (a ∷ live_splits f (suc a) m) (live_splits f (suc a) m) e

-- no node has no split
pub splits_zero : (f : Frame) (a : ℕ) → live_splits f a 0 ≡ []
unfolding live_splits
splits_zero f a = refl

-- what is listed is a live split among those
abbrev IsOf : Frame → ℕ → ℕ → List ℕ → Type 0
IsOf f a m xs = (i : ℕ) → i < length xs →
    (a ≤ slice_index xs i) × (slice_index xs i < a + m) × (f.live_node (slice_index xs i) ≡ true)

-- a live node goes before the live ones behind it
consed : (f : Frame) (a m : ℕ) (xs : List ℕ) → f.live_node a ≡ true → IsOf f (suc a) m xs → IsOf f a (suc m) (a ∷ xs)
consed f a m xs on h zero l = (omega arith, omega arith, on)
consed f a m xs on h (suc i) l =
    let t = h i (let z : i < length xs = omega arith in z) in
    let x = t.0 in
    let y = t.1 in (omega arith, omega arith, t.2)

-- the live ones behind a node that is not live are those from it on
wider : (f : Frame) (a m : ℕ) (xs : List ℕ) → IsOf f (suc a) m xs → IsOf f a (suc m) xs
wider f a m xs h i l =
    let t = h i l in
    let x = t.0 in
    let y = t.1 in (omega arith, omega arith, t.2)

-- the listed splits are those of the live nodes of the run
pub splits_are : (f : Frame) (a m : ℕ) → IsOf f a m (live_splits f a m)
splits_are f a zero = subst (IsOf f a 0) (sym (splits_zero f a)) (λ i l. absurd (omega arith))
splits_are f a (suc m) =
    let h = splits_are f (suc a) m in
    ⊎_elim
    (λ (e : f.live_node a ≡ true). subst (IsOf f a (suc m)) (sym (splits_on f a m e))
    (consed f a m (live_splits f (suc a) m) e h))
    (λ (e : f.live_node a ≡ false). subst (IsOf f a (suc m)) (sym (splits_off f a m e))
    (wider f a m (live_splits f (suc a) m) h)) (cases_Bool (f.live_node a))

-- the list rises
above : (f : Frame) (a m : ℕ) → All (λ q. a < q) (live_splits f (suc a) m)
above f a m i d l =
    let t = (splits_are f (suc a) m i l).0 in
    subst (λ q. a < q) (sym (get_or_default (live_splits f (suc a) m) i d 0 l)) (omega (arith, t))

-- they rise
pub splits_rise : (f : Frame) (a m : ℕ) → AllPairs (λ p q. p < q) (live_splits f a m)
splits_rise f a zero = subst (AllPairs (λ p q. p < q)) (sym (splits_zero f a)) (λ i j d l k. absurd (omega arith))
splits_rise f a (suc m) =
    let h = splits_rise f (suc a) m in
    ⊎_elim
    (λ (e : f.live_node a ≡ true). subst (AllPairs (λ p q. p < q)) (sym (splits_on f a m e))
    (AllPairs-cons (λ p q. p < q) a (live_splits f (suc a) m) (above f a m) h))
    (λ (e : f.live_node a ≡ false). subst (AllPairs (λ p q. p < q)) (sym (splits_off f a m e)) h)
    (cases_Bool (f.live_node a))

-- and has each live split
abbrev pub Has : List ℕ → ℕ → Type 0
Has xs t = (i : ℕ) × (i < length xs) × (slice_index xs i ≡ t)

-- each live node of the run is listed
pub splits_have : (f : Frame) (a m t : ℕ) → a ≤ t → t < a + m → f.live_node t ≡ true → Has (live_splits f a m) t
splits_have f a zero t low high on = absurd (omega arith)
splits_have f a (suc m) t low high on = ⊎_elim
    (λ (e : a ≡ t). subst (λ (l : List ℕ). Has l t)
    (sym (splits_on f a m (subst (λ (x : ℕ). f.live_node x ≡ true) (sym e) on))) (0, omega arith, e))
    (λ (n : a ≢ t). let h = splits_have f (suc a) m t (omega arith) (omega arith) on in ⊎_elim
    (λ (e : f.live_node a ≡ true). subst (λ (l : List ℕ). Has l t) (sym (splits_on f a m e))
    (suc h.0, (let z = h.1 in omega arith), h.2))
    (λ (e : f.live_node a ≡ false). subst (λ (l : List ℕ). Has l t) (sym (splits_off f a m e)) h)
    (cases_Bool (f.live_node a))) (cases_eq a t)

-- it is no longer than those
pub splits_short : (f : Frame) (a m : ℕ) → length (live_splits f a m) ≤ m
splits_short f a zero = let z = ap (λ (l : List ℕ). length l) (splits_zero f a) in omega arith
splits_short f a (suc m) =
    let h = splits_short f (suc a) m in
    ⊎_elim
    (λ (e : f.live_node a ≡ true). let z = ap (λ (l : List ℕ). length l) (splits_on f a m e) in omega arith)
    (λ (e : f.live_node a ≡ false). let z = ap (λ (l : List ℕ). length l) (splits_off f a m e) in omega arith)
    (cases_Bool (f.live_node a))

-- where all are live, each stands at its own place
after_head : (a i : ℕ) (xs : List ℕ) → ((j : ℕ) → suc j ≡ i → slice_index xs j ≡ suc a + j) →
    slice_index (a ∷ xs) i ≡ a + i
after_head a zero xs h = omega arith
after_head a (suc j) xs h = h j refl ∙ (let z : suc a + j ≡ a + suc j = omega arith in z)

-- where all nodes of a run are live, it is listed whole
pub splits_all : (f : Frame) (a m : ℕ) → ((t : ℕ) → a ≤ t → t < a + m → f.live_node t ≡ true) →
    (length (live_splits f a m) ≡ m) × ((i : ℕ) → i < m → slice_index (live_splits f a m) i ≡ a + i)
splits_all f a zero h = (ap (λ (l : List ℕ). length l) (splits_zero f a), λ i l. absurd (omega arith))
splits_all f a (suc m) h =
    let e = splits_on f a m (h a (omega arith) (omega arith)) in
    let ih = splits_all f (suc a) m (λ t l u. h t (omega arith) (omega arith)) in (
      ap (λ (l : List ℕ). length l) e ∙ ap suc ih.0,
      λ i l. ap (λ (x : List ℕ). slice_index x i) e
          ∙ after_head a i (live_splits f (suc a) m) (λ j is. ih.1 j (omega (arith, is, l))),
    )

-- none is listed where none is live
pub splits_none : (f : Frame) (a m : ℕ) → ((t : ℕ) → a ≤ t → t < a + m → f.live_node t ≡ false) →
    live_splits f a m ≡ []
splits_none f a zero h = splits_zero f a
splits_none f a (suc m) h = splits_off f a m (h a (omega arith) (omega arith))
    ∙ splits_none f (suc a) m (λ t l u. h t (omega arith) (omega arith))

-- the splits of all live nodes
pub listed_shown : (f : Frame) (i : ℕ) → i < length (splits_of f) → Shown f (slice_index (splits_of f) i)
listed_shown f i l =
    let t = splits_are f 0 f.nodes i l in
    let y = t.1 in
    (omega (arith, y), t.2)
