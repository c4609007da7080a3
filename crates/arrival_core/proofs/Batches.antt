-- The batches of live positions: a live leaf is once in them.
use Rattle.std.proofs.Common.{◌≡◌, ℕ, suc, zero, ◌+◌, ◌*◌, ◌<◌, ◌≤◌, refl, sym, ap, ◌∙◌, arith, inl, inr, subst, List, [], ◌∷◌, ◌++◌, length, take, drop, Bool, true, false}
use Rattle.std.specs.Prelude.{◌==◌, ◌&&◌, ◌||◌, nat_le, All, AllPairs, slice_index_or}
use Rattle.std.specs.List.{list_any}
use Rattle.std.proofs.lemmas.Bool.{cases_eq, cases_lt, le-leb, lt-leb}
use Rattle.std.proofs.lemmas.List.{take-append-drop, take-take, drop-take, take_all}
use Rattle.arrival_core.specs.declared.packets.Side.{Side}
use Rattle.arrival_core.specs.Sums.{bit, sum_below}
use Rattle.arrival_core.specs.Frames.{Frame}
use Rattle.arrival_core.specs.Settings.{live_in}
use Rattle.arrival_core.specs.Counts.{times, at}
use Rattle.arrival_core.proofs.PutLaws.{bit-true, bit-false, eq-true, eq-false}

-- how often a child stands in two lists
pub times-append : (f : Frame) (xs ys : List ℕ) (t : ℕ) (e : Side) →
    times f (xs ++ ys) t e ≡ times f xs t e + times f ys t e
unfolding times
times-append f [] ys t e = omega arith
times-append f (x ∷ xs) ys t e = let rest = times-append f xs ys t e in omega (arith, rest)

-- taking in two parts
take-more : (n m : ℕ) (xs : List ℕ) → take (n + m) xs ≡ take n xs ++ take m (drop n xs)
take-more n m xs = sym (take-append-drop n (take (n + m) xs))
    ∙ (ap (λ ys. ys ++ drop n (take (n + m) xs)) (take-take n (n + m) xs (omega arith))
    ∙ ap (λ ys. take n xs ++ ys) (drop-take n m xs))

-- all batches together are the list as far as they reach
pub batches_are : (f : Frame) (size : ℕ) (xs : List ℕ) (t : ℕ) (e : Side) (b : ℕ) →
    sum_below b (λ j. times f (take size (drop (size * j) xs)) t e) ≡ times f (take (size * b) xs) t e
unfolding sum_below times
batches_are f size xs t e zero =
    let z : size * 0 ≡ 0 = omega arith in
    sym (ap (λ n. times f (take n xs) t e) z)
batches_are f size xs t e (suc b) =
    let below = batches_are f size xs t e b in
    let more : size * suc b ≡ size * b + size = omega arith in
    let parts : take (size * suc b) xs ≡ take (size * b) xs ++ take size (drop (size * b) xs)
    = ap (λ n. take n xs) more ∙ take-more (size * b) size xs in
    let both : times f (take (size * suc b) xs) t e
    ≡ times f (take (size * b) xs) t e + times f (take size (drop (size * b) xs)) t e
    = ap (λ ys. times f ys t e) parts ∙ times-append f (take (size * b) xs) (take size (drop (size * b) xs)) t e in
    omega (arith, below, both)

-- where each position is the child or is not, the times are how often it stands in the list
count_of : List ℕ → ℕ → ℕ
count_of [] p = 0
count_of (x ∷ xs) p = bit (x == p) + count_of xs p

-- where the child is a leaf, its positions are counted
times_count : (f : Frame) (t : ℕ) (e : Side) (p : ℕ) (xs : List ℕ) →
    All (λ q. at (f.above_leaf q).split (f.above_leaf q).side t e ≡ bit (q == p)) xs → times f xs t e ≡ count_of xs p
unfolding times count_of
times_count f t e p [] all = refl
times_count f t e p (x ∷ xs) all =
    let here : at (f.above_leaf x).split (f.above_leaf x).side t e ≡ bit (x == p) = all 0 0 (omega arith) in
    let rest = times_count f t e p xs (λ j d less. all (suc j) d (omega arith)) in
    omega (arith, here, rest)

-- where no position is the child, it stands nowhere
times_none : (f : Frame) (t : ℕ) (e : Side) (xs : List ℕ) →
    All (λ q. at (f.above_leaf q).split (f.above_leaf q).side t e ≡ 0) xs → times f xs t e ≡ 0
unfolding times
times_none f t e [] all = refl
times_none f t e (x ∷ xs) all =
    let here : at (f.above_leaf x).split (f.above_leaf x).side t e ≡ 0 = all 0 0 (omega arith) in
    let rest = times_none f t e xs (λ j d less. all (suc j) d (omega arith)) in
    omega (arith, here, rest)

-- a number that all are above is not among them
count_past : (xs : List ℕ) (p : ℕ) → All (λ q. p < q) xs → count_of xs p ≡ 0
unfolding count_of
count_past [] p all = refl
count_past (x ∷ xs) p all =
    let here : p < x = all 0 0 (omega arith) in
    let rest = count_past xs p (λ j d less. all (suc j) d (omega arith)) in
    let apart = bit-false (eq-false x p (λ z. omega arith)) in
    omega (arith, rest, apart)

-- and it is not found
none_past : (xs : List ℕ) (p : ℕ) → All (λ q. p < q) xs → list_any (λ q. nat_le p q && nat_le q p) xs ≡ false
none_past [] p all = refl
none_past (x ∷ xs) p all =
    let here : p < x = all 0 0 (omega arith) in
    let rest = none_past xs p (λ j d less. all (suc j) d (omega arith)) in
    let a : nat_le p x ≡ true = le-leb p x (omega arith) in
    let b : nat_le x p ≡ false = lt-leb x p here in
    rw a (rw b rest)

-- a list that rises has a position at most once
rising_once : (xs : List ℕ) (p : ℕ) → AllPairs (λ q r. q < r) xs →
    count_of xs p ≡ bit (list_any (λ q. nat_le p q && nat_le q p) xs)
unfolding count_of
rising_once [] p rising = refl
rising_once (x ∷ xs) p rising = elim (cases_eq x p) [
  | inl e ↦
      let past : All (λ q. p < q) xs = λ j d less. subst (λ z. z < slice_index_or xs j d) e
      (rising 0 (suc j) d (omega arith) (omega arith)) in
      let none = count_past xs p past in
      let one = bit-true (eq-true x p e) in
      let a : nat_le p x ≡ true = le-leb p x (omega arith) in
      let b : nat_le x p ≡ true = le-leb x p (omega arith) in
      rw a (rw b (omega (arith, none, one)))
  | inr ne ↦
      let rest = rising_once xs p (λ i j d less lt. rising (suc i) (suc j) d (omega arith) (omega arith)) in
      let zero = bit-false (eq-false x p ne) in
      let off : (nat_le p x && nat_le x p) ≡ false = elim (cases_lt p x) [
        | inl less ↦ let b : nat_le x p ≡ false = lt-leb x p less in and-off (nat_le p x) (nat_le x p) b
        | inr le ↦ let a : nat_le p x ≡ false = lt-leb p x (omega arith) in rw a refl
      ] in
      rw off (omega (arith, rest, zero))
]
  where
    and-off : (a b : Bool) → b ≡ false → (a && b) ≡ false
    and-off true b e = e
    and-off false b e = refl

-- a live leaf is once in the batches
pub batched_once : (f : Frame) (size : ℕ) (xs : List ℕ) (t : ℕ) (e : Side) (p b : ℕ) → length xs ≤ size * b →
    AllPairs (λ q r. q < r) xs →
    All (λ q. at (f.above_leaf q).split (f.above_leaf q).side t e ≡ bit (q == p)) xs →
    sum_below b (λ j. times f (take size (drop (size * j) xs)) t e) ≡ bit (live_in xs p p)
unfolding live_in
batched_once f size xs t e p b enough rising all =
    batches_are f size xs t e b ∙ (ap (λ ys. times f ys t e) (take_all (size * b) xs enough)
    ∙ (times_count f t e p xs all ∙ rising_once xs p rising))

-- and no other child is in one
pub batched_none : (f : Frame) (size : ℕ) (xs : List ℕ) (t : ℕ) (e : Side) (b : ℕ) → length xs ≤ size * b →
    All (λ q. at (f.above_leaf q).split (f.above_leaf q).side t e ≡ 0) xs →
    sum_below b (λ j. times f (take size (drop (size * j) xs)) t e) ≡ 0
batched_none f size xs t e b enough all =
    batches_are f size xs t e b ∙ (ap (λ ys. times f ys t e) (take_all (size * b) xs enough) ∙ times_none f t e xs all)

-- some live position lies in a range where one lies in either part of it
pub live_parted : (xs : List ℕ) (a s b : ℕ) → a ≤ s → s < b →
    live_in xs a b ≡ (live_in xs a s || live_in xs (suc s) b)
unfolding live_in
live_parted [] a s b low high = refl
live_parted (x ∷ xs) a s b low high =
    let rest = live_parted xs a s b low high in
    rw rest (mixed (nat_le a x && nat_le x b) (nat_le a x && nat_le x s) (nat_le (suc s) x && nat_le x b)
    (list_any (λ q. nat_le a q && nat_le q s) xs) (list_any (λ q. nat_le (suc s) q && nat_le q b) xs) here)
  where
    mixed : (w u v m n : Bool) → w ≡ (u || v) → (w || (m || n)) ≡ ((u || m) || (v || n))
    mixed w true v m n e = rw e refl
    mixed w false true true n e = rw e refl
    mixed w false true false n e = rw e refl
    mixed w false false m n e = rw e refl

    here : (nat_le a x && nat_le x b) ≡ ((nat_le a x && nat_le x s) || (nat_le (suc s) x && nat_le x b))
    here = elim (cases_lt x a) [
      | inl before ↦
          let p : nat_le a x ≡ false = lt-leb a x before in
          let q : nat_le (suc s) x ≡ false = lt-leb (suc s) x (omega arith) in
          rw p (rw q refl)
      | inr after ↦ elim (cases_lt s x) [
        | inl more ↦
            let p : nat_le a x ≡ true = le-leb a x after in
            let q : nat_le (suc s) x ≡ true = le-leb (suc s) x (omega arith) in
            let r : nat_le x s ≡ false = lt-leb x s more in
            rw p (rw q (rw r refl))
        | inr less ↦
            let p : nat_le a x ≡ true = le-leb a x after in
            let q : nat_le x s ≡ true = le-leb x s less in
            let r : nat_le x b ≡ true = le-leb x b (omega arith) in
            rw p (rw q (rw r refl))
      ]
    ]
