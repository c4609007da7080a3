-- How a word is cut off a line. No public clause cites this module.
use Rattle.std.specs.Prelude.{◌≡◌, ◌<◌, ◌++◌, ℕ, true, false, List, [], ◌∷◌, not, IsTrue, length, ⊤, if◌then◌else◌}
use Rattle.std.specs.List.{list_all}
use Rattle.text_words.specs.Lines.{is_blank}

-- it begins with a word
abbrev pub IsUnbroken : List ℕ → Type 0
IsUnbroken [] = ⊥
IsUnbroken (b ∷ bs) = is_blank b ≡ false

-- what stands before the first blank
abbrev pub front_of : List ℕ → List ℕ
front_of [] = []
front_of (b ∷ bs) = if is_blank b then [] else b ∷ front_of bs

-- it is empty or begins with a word
abbrev pub IsPastBlanks : List ℕ → Type 0
IsPastBlanks [] = ⊤
IsPastBlanks (b ∷ bs) = is_blank b ≡ false

-- it is empty or begins with a blank
abbrev pub IsBroken : List ℕ → Type 0
IsBroken [] = ⊤
IsBroken (b ∷ bs) = is_blank b ≡ true

-- the line is a word and what follows
pub record IsCut (line word rest : List ℕ) : Type 0 where
  pub whole : line ≡ word ++ rest
  pub unbroken : IsTrue (list_all (λ b. not (is_blank b)) word)
  pub some : 0 < length word
  pub ends : IsBroken rest
