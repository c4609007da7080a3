-- What a source has given, where it tells its bytes.
use Rattle.std.specs.Prelude.{◌≡◌, ◌<◌, ◌≤◌, ℕ, ◌+◌, List, [], ◌∷◌, ◌++◌, Option, None, Some, drop, length, ⊤}
use Rattle.streams.specs.declared.loads.TheConstants.{PIECE}

-- the bytes that it gave, of which a fact holds
abbrev pub Taken : Option (List ℕ) → Option (List ℕ) → (List ℕ → Type 0) → Type 0
Taken None left P = ⊤
Taken (Some bytes) None P = ⊥
Taken (Some bytes) (Some rest) P = (front : List ℕ) × (bytes ≡ front ++ rest) × P front

-- it has lost the first n of its bytes, or all that it had
abbrev pub Loses : ℕ → Option (List ℕ) → Option (List ℕ) → Type 0
Loses n None new = ⊤
Loses n (Some bytes) None = ⊥
Loses n (Some bytes) (Some rest) = rest ≡ drop n bytes

-- it has lost at most the first n of its bytes
abbrev pub LosesAtMost : ℕ → Option (List ℕ) → Option (List ℕ) → Type 0
LosesAtMost n left new = Taken left new (λ front. length front ≤ n)

-- behind each line feed before which not all answers were written, less than a piece was taken
abbrev pub IsPrompt : (List ℕ → List ℕ) → Option (List ℕ) → Option (List ℕ) → Option (List ℕ) → Option (List ℕ) → Type 0
IsPrompt answers None left old now = ⊤
IsPrompt answers (Some bytes) None old now = ⊥
IsPrompt answers (Some bytes) (Some rest) None now = ⊤
IsPrompt answers (Some bytes) (Some rest) (Some old) None = ⊥
IsPrompt answers (Some bytes) (Some rest) (Some old) (Some now) = (front back : List ℕ) → bytes ≡ front ++ 10 ∷ back
    → length now < length old + length (answers (front ++ 10 ∷ [])) → length bytes < length rest + (length front + 1 + PIECE)
