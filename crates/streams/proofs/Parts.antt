-- The part of a read that lies within a limit, and what is left of the read.
use Rattle.std.proofs.Common.{◌≡◌, ◌≤◌, ◌+◌, ◌-◌, ℕ, List, ◌++◌, Option, take, drop, length, sym, ap, ◌∙◌, arith, take-append-drop}
use Rattle.std.specs.Io.KnownBytes.{Consumes, prepend_known}
use Rattle.std.proofs.lemmas.List.{take-append-le, take-take, length-take-le, length-drop}
use Rattle.streams.proofs.Gifts.{Gave, gave_more, consumes_part}

-- of so many bytes that were read into a buffer the first were fed
pub record IsFed (buf after : List ℕ) (count fed : ℕ) : Type 0 where
  -- what was read is the part that was fed, and the rest
  pub parts : take count buf ≡ take fed (buf ++ after) ++ drop fed (take count buf)
  -- the part has that many bytes
  pub length_fed : length (take fed (buf ++ after)) ≡ fed
  -- and the rest the others
  pub length_left : length (drop fed (take count buf)) ≡ count - fed

-- no more are fed than were read, and no more read than the buffer holds
pub fed_of : (buf after : List ℕ) (count fed : ℕ) → fed ≤ count → count ≤ length buf → IsFed buf after count fed
fed_of buf after count fed some within =
    let few : fed ≤ length buf = omega arith in
    let same : take fed (buf ++ after) ≡ take fed buf = take-append-le fed buf after few in
    record {
      parts = sym (ap (λ x. x ++ drop fed (take count buf)) (same ∙ sym (take-take fed count buf some))
          ∙ take-append-drop fed (take count buf));
      length_fed = ap length same ∙ length-take-le fed buf few;
      length_left = length-drop fed (take count buf) ∙ ap (λ n. n - fed) (length-take-le count buf within);
    }

-- where all is fed, it is what was read
pub all_fed : (buf after : List ℕ) (count fed : ℕ) → fed ≡ count → count ≤ length buf
    → take count buf ≡ take fed (buf ++ after)
all_fed buf after count fed all within =
    sym (take-append-le count buf after within) ∙ ap (λ n. take n (buf ++ after)) (sym all)

-- a source gave the part that was fed, if the rest is counted as not given
pub gave_fed : (a b c : Option (List ℕ)) (taken : ℕ) (P Q : List ℕ → Type 0) {count fed : ℕ} {buf after : List ℕ}
    → IsFed buf after count fed → Gave a b taken P → Consumes b c (take count buf)
    → ((front : List ℕ) → P front → Q (front ++ take fed (buf ++ after)))
    → Gave a (prepend_known (drop fed (take count buf)) c) (taken + fed) Q
gave_fed a b c taken P Q read gave eats step =
    gave_more a b _ taken _ _ P Q gave (consumes_part b c _ _ _ eats read.parts) read.length_fed step
