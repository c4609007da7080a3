-- What a source that tells its bytes has given so far.
use Rattle.std.proofs.Common.{◌≡◌, ◌≤◌, ◌+◌, ℕ, List, [], ◌++◌, Option, None, Some, IfSome, drop, length, refl, sym, ap, ◌∙◌, subst, append_assoc, append-nil, length-append, arith}
use Rattle.std.specs.Io.KnownBytes.{Consumes, Keeps, IsAtEnd, prepend_known}
use Rattle.std.proofs.Math.Seq.{drop-append_seam}
use Rattle.std.proofs.Math.ListN.{drop_of_length-le}
use Rattle.streams.specs.Taken.{Taken, Loses, LosesAtMost}

-- it gave n bytes, of which a fact holds
abbrev pub Gave : Option (List ℕ) → Option (List ℕ) → ℕ → (List ℕ → Type 0) → Type 0
Gave None left n P = Unit {0}
Gave (Some bytes) None n P = ⊥
Gave (Some bytes) (Some rest) n P = (front : List ℕ) × (bytes ≡ front ++ rest) × (length front ≡ n) × P front

-- before the first read
pub gave_none : (left : Option (List ℕ)) (n : ℕ) (P : List ℕ → Type 0) → n ≡ 0 → P [] → Gave left left n P
gave_none None n P z p = tt
gave_none (Some bytes) n P z p = ([], refl, sym z, p)

-- one piece more
pub gave_more : (a b c : Option (List ℕ)) (n k : ℕ) (piece : List ℕ) (P Q : List ℕ → Type 0) → Gave a b n P
    → Consumes b c piece → length piece ≡ k
    → ((front : List ℕ) → P front → Q (front ++ piece)) → Gave a c (n + k) Q
gave_more None b c n k piece P Q gave eats len step = tt
gave_more (Some bytes) None c n k piece P Q gave eats len step = absurd gave
gave_more (Some bytes) (Some left) None n k piece P Q gave eats len step = absurd eats
gave_more (Some bytes) (Some left) (Some rest) n k piece P Q gave eats len step =
    let front : List ℕ = gave.0 in (
      front ++ piece,
      gave.1 ∙ ap (λ x. front ++ x) eats ∙ sym (append_assoc front piece rest),
      omega (arith, length-append front piece, gave.2),
      step front gave.3,
    )

-- a weaker fact of the same bytes
pub gave_map : (a b : Option (List ℕ)) (n : ℕ) (P Q : List ℕ → Type 0) → ((front : List ℕ) → P front → Q front)
    → Gave a b n P → Gave a b n Q
gave_map None b n P Q step gave = tt
gave_map (Some bytes) None n P Q step gave = absurd gave
gave_map (Some bytes) (Some rest) n P Q step gave = (gave.0, gave.1, gave.2, step gave.0 gave.3)

-- an empty piece
pub gave_same : (a b c : Option (List ℕ)) (n : ℕ) (piece : List ℕ) (P : List ℕ → Type 0) → Gave a b n P
    → Consumes b c piece → piece ≡ [] → Gave a c n P
gave_same None b c n piece P gave eats e = tt
gave_same (Some bytes) None c n piece P gave eats e = absurd gave
gave_same (Some bytes) (Some left) None n piece P gave eats e = absurd eats
gave_same (Some bytes) (Some left) (Some rest) n piece P gave eats e =
    (gave.0, gave.1 ∙ ap (λ x. gave.0 ++ x) (eats ∙ ap (λ x. x ++ rest) e), gave.2, gave.3)

-- a source that failed has given no more
pub gave_kept : (a b c : Option (List ℕ)) (n : ℕ) (P : List ℕ → Type 0) → Gave a b n P → Keeps b c → Gave a c n P
gave_kept None b c n P gave kept = tt
gave_kept (Some bytes) None c n P gave kept = absurd gave
gave_kept (Some bytes) (Some left) None n P gave kept = absurd kept
gave_kept (Some bytes) (Some left) (Some rest) n P gave kept =
    (gave.0, gave.1 ∙ ap (λ x. gave.0 ++ x) (sym kept), gave.2, gave.3)

-- a part of what was taken
pub consumes_part : (b c : Option (List ℕ)) (piece part tail : List ℕ) → Consumes b c piece → piece ≡ part ++ tail
    → Consumes b (prepend_known tail c) part
consumes_part None c piece part tail eats e = tt
consumes_part (Some left) None piece part tail eats e = absurd eats
consumes_part (Some left) (Some rest) piece part tail eats e = eats ∙ ap (λ x. x ++ rest) e
    ∙ append_assoc part tail rest

-- a fact of what was given
pub gave_is_taken : (a b : Option (List ℕ)) (n : ℕ) (P : List ℕ → Type 0) → Gave a b n P → Taken a b P
gave_is_taken None b n P gave = tt
gave_is_taken (Some bytes) None n P gave = absurd gave
gave_is_taken (Some bytes) (Some rest) n P gave = (gave.0, gave.1, gave.3)

-- a source at its end gave all that it had
pub gave_all : (a b : Option (List ℕ)) (n : ℕ) (P : List ℕ → Type 0) → Gave a b n P → IsAtEnd b
    → IfSome a (λ bytes. (length bytes ≡ n) × P bytes)
gave_all None b n P gave end = tt
gave_all (Some bytes) None n P gave end = absurd gave
gave_all (Some bytes) (Some rest) n P gave end =
    let front : List ℕ = gave.0 in
    let all : bytes ≡ front = gave.1 ∙ ap (λ x. front ++ x) end ∙ append-nil front in
    (ap length all ∙ gave.2, subst P (sym all) gave.3)

-- a source at its end has lost all that it had
pub loses_all : (a b : Option (List ℕ)) (n most : ℕ) (P : List ℕ → Type 0) → n ≤ most → Gave a b n P → IsAtEnd b
    → Loses most a b
loses_all None b n most P few gave end = tt
loses_all (Some bytes) None n most P few gave end = absurd gave
loses_all (Some bytes) (Some rest) n most P few gave end =
    let front : List ℕ = gave.0 in
    let within : length bytes ≤ most =
    omega (arith, ap length gave.1, ap length end, length-append front rest, gave.2) in
    end ∙ sym (drop_of_length-le bytes within)

-- a source that gave n bytes has lost them
pub loses_given : (a b : Option (List ℕ)) (n most : ℕ) (P : List ℕ → Type 0) → n ≡ most → Gave a b n P → Loses most a b
loses_given None b n most P e gave = tt
loses_given (Some bytes) None n most P e gave = absurd gave
loses_given (Some bytes) (Some rest) n most P e gave =
    sym (ap (drop most) gave.1 ∙ ap (λ k. drop k (gave.0 ++ rest)) (sym (gave.2 ∙ e)) ∙ drop-append_seam gave.0 rest)

-- a source that gave n bytes has lost at most as many
pub loses_few : (a b : Option (List ℕ)) (n most : ℕ) (P : List ℕ → Type 0) → n ≤ most → Gave a b n P
    → LosesAtMost most a b
loses_few None b n most P few gave = tt
loses_few (Some bytes) None n most P few gave = absurd gave
loses_few (Some bytes) (Some rest) n most P few gave = (gave.0, gave.1, omega (arith, gave.2))

-- and one piece more
pub loses_more : (a b c : Option (List ℕ)) (n most : ℕ) (piece : List ℕ) (P : List ℕ → Type 0) → Gave a b n P
    → Consumes b c piece → n + length piece ≤ most
    → LosesAtMost most a c
loses_more a b c n most piece P gave eats few =
    loses_few a c (n + length piece) most (λ front. Unit {0}) few
    (gave_more a b c n (length piece) piece P (λ front. Unit {0}) gave eats refl (λ front p. tt))

-- a source that was not read has lost nothing
pub loses_none : (left : Option (List ℕ)) (most : ℕ) → LosesAtMost most left left
loses_none None most = tt
loses_none (Some bytes) most = ([], refl, omega arith)
