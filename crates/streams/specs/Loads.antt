-- What loading a whole text gives.
use Rattle.std.specs.Prelude.{◌≡◌, ℕ, ◌<◌, ◌≤◌, List, Option, None, Some, length, ⊤}
use Rattle.streams.specs.declared.loads.Loaded.{Loaded}
use Rattle.streams.specs.declared.loads.Loaded.TheVariants.{Whole, TooLong}

-- all its bytes, where they are within the limit, and else word that they are more
abbrev pub IsLoaded : ℕ → Loaded → List ℕ → Type 0
IsLoaded limit (Whole bytes) text = (bytes.items ≡ text) × (length text ≤ limit)
IsLoaded limit TooLong text = limit < length text

-- what was loaded is within the limit
abbrev pub IsWithin : ℕ → Loaded → Type 0
IsWithin limit (Whole bytes) = length bytes.items ≤ limit
IsWithin limit TooLong = ⊤

-- the file is held, and this is what loading it gives
abbrev pub IsLoadedFile : ℕ → Loaded → Option (List ℕ) → Type 0
IsLoadedFile limit loaded None = ⊥
IsLoadedFile limit loaded (Some file) = IsLoaded limit loaded file
