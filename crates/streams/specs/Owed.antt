-- What a sink has taken of a text, and what it is still owed.
use Rattle.std.specs.Prelude.{◌≡◌, ℕ, List, Option, ◌++◌}
use Rattle.std.specs.Io.KnownBytes.{Appends}

-- of the text the sink took all but what is left to write
pub record Owes (old now : Option (List ℕ)) (text todo : List ℕ) : Type 0 where
  pub front : List ℕ
  pub whole : text ≡ front ++ todo
  pub taken : Appends old now front

-- the sink took a front of the text
abbrev pub AppendsFront : Option (List ℕ) → Option (List ℕ) → List ℕ → Type 0
AppendsFront old now text = (todo : List ℕ) × Owes old now text todo
