-- A test of written-out keys, which a proof about such keys lets compute.
use Rattle.std.proofs.Common.{◌≡◌, ℕ, suc, ◌-◌, ◌^◌, ◌<◌, ◌≤◌, sym, ap, ◌∙◌, arith, Bool, true, List, [], ◌∷◌, length}
use Rattle.std.specs.Prelude.{◌==◌, ◌&&◌, nat_lt, nat_le, All}
use Rattle.std.proofs.lemmas.List.Elements.{All-nil, All-cons, All-get_or}
use Rattle.std.proofs.lemmas.Bool.{and_parts, ltb-true, leb-true, eqb-true, agree_below, agree_below_at}
use Rattle.morton_key.specs.declared.keys.Key.{Key}
use Rattle.morton_key.specs.declared.keys.TheConstants.{WIDTH, POSITION_WIDTH}
use Rattle.morton_key.specs.Keys.{key_at, code_at, tri_at, IsBefore, IsRising, IsLawful}
use Rattle.morton_key.specs.Order.{is_before}
use Rattle.morton_key.proofs.Numbers.{count_of}
use Rattle.morton_key.proofs.SortedKeys.{before_from_test, rising_cons}

-- the key is before each of the others
abbrev pub before_all : Key → List Key → Bool
before_all k [] = true
before_all k (x ∷ xs) = is_before k x && before_all k xs

-- each key is before all later ones
abbrev pub rises : List Key → Bool
rises [] = true
rises (k ∷ ks) = before_all k ks && rises ks

-- each key fits a list of n of them
abbrev pub fits : ℕ → List Key → Bool
fits n [] = true
fits n (k ∷ ks) = (nat_lt k.code (2 ^ WIDTH) && (nat_lt 0 k.tri && nat_le k.tri n)) && fits n ks

-- the keys are few enough, rise, fit their count, and have each number once
abbrev pub is_lawful : List Key → Bool
is_lawful keys = nat_le (length keys) (2 ^ POSITION_WIDTH) &&
    (rises keys && (fits (length keys) keys && agree_below (λ t. count_of (suc t) keys == 1) (λ t. true)
    (length keys)))

-- a key that passes the test is before each of the others
all_from_test : (k : Key) (ks : List Key) → before_all k ks ≡ true → All (IsBefore k) ks
all_from_test k [] h = All-nil (IsBefore k)
all_from_test k (x ∷ xs) h =
    let p = and_parts (is_before k x) (before_all k xs) h in
    All-cons (IsBefore k) x xs (before_from_test k x p.0) (all_from_test k xs p.1)

-- keys that pass the test rise
rising_from_test : (ks : List Key) → rises ks ≡ true → IsRising ks
rising_from_test [] h = record { before = λ i j. λ lt inside. absurd (omega arith) }
-- keys that pass the test rise
rising_from_test (k ∷ ks) h =
    let p = and_parts (before_all k ks) (rises ks) h in
    rising_cons k ks (all_from_test k ks p.0) (rising_from_test ks p.1)

-- a key with a narrow code and a number from 1 to n
record Fits (n : ℕ) (k : Key) : Type 0 where
  narrow : k.code < 2 ^ WIDTH
  from_one : 0 < k.tri
  to_count : k.tri ≤ n

-- keys that pass the test fit a list of n
fits_from_test : (n : ℕ) (ks : List Key) → fits n ks ≡ true → All (Fits n) ks
fits_from_test n [] h = All-nil (Fits n)
fits_from_test n (k ∷ ks) h =
    let p = and_parts (nat_lt k.code (2 ^ WIDTH) && (nat_lt 0 k.tri && nat_le k.tri n)) (fits n ks) h in
    let q = and_parts (nat_lt k.code (2 ^ WIDTH)) (nat_lt 0 k.tri && nat_le k.tri n) p.0 in
    let r = and_parts (nat_lt 0 k.tri) (nat_le k.tri n) q.1 in
    All-cons (Fits n) k ks
    (record {
      narrow = ltb-true k.code (2 ^ WIDTH) q.0;
      from_one = ltb-true 0 k.tri r.0;
      to_count = leb-true k.tri n r.1;
    }) (fits_from_test n ks p.1)

-- keys that pass the test are lawful
pub lawful_from_test : (keys : List Key) → is_lawful keys ≡ true → IsLawful keys
unfolding code_at tri_at key_at
lawful_from_test keys h =
    let n : ℕ = length keys in
    let once : Bool = agree_below (λ t. count_of (suc t) keys == 1) (λ t. true) n in
    let p = and_parts (nat_le n (2 ^ POSITION_WIDTH)) (rises keys && (fits n keys && once)) h in
    let q = and_parts (rises keys) (fits n keys && once) p.1 in
    let r = and_parts (fits n keys) once q.1 in
    let all = fits_from_test n keys r.0 in
    record {
      few = leb-true n (2 ^ POSITION_WIDTH) p.0;
      narrow = λ i. λ lt. (All-get_or (Fits n) keys i _ lt all).narrow;
      rising = rising_from_test keys q.0;
      from_one = λ i. λ lt. (All-get_or (Fits n) keys i _ lt all).from_one;
      to_count = λ i. λ lt. (All-get_or (Fits n) keys i _ lt all).to_count;
      each_once = λ t. λ pos le.
          let at : (count_of (suc (t - 1)) keys == 1) ≡ true = agree_below_at (λ t. count_of (suc t) keys == 1)
          (λ t. true) n (t - 1) r.1 (omega arith) in
          let e : suc (t - 1) ≡ t = omega arith in
          ap (λ z. count_of z keys) (sym e) ∙ eqb-true (count_of (suc (t - 1)) keys) 1 at;
    }
