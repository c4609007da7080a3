-- What a source has left, where it tells it.
use Rattle.std.specs.Prelude.{◌≡◌, ℕ, List, [], Option, None, Some}

-- the source tells that nothing is left
abbrev pub IsSpent : Option (List ℕ) → Type 0
IsSpent None = ⊥
IsSpent (Some bytes) = bytes ≡ []
