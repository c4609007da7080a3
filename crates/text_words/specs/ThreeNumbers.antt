-- Words in digits alone, and when three are taken at once.
use Rattle.std.specs.Prelude.{◌≡◌, ℕ, zero, suc, ◌<◌, ◌^◌, List, [], ◌∷◌, IsTrue, length, ⊤}
use Rattle.std.specs.List.{list_all}
use Rattle.text_words.specs.Numbers.{is_digit, value_after}

-- the word is digits alone, at least one, and they write this number
pub record IsNumber (word : List ℕ) (number : ℕ) : Type 0 where
  pub digits : IsTrue (list_all is_digit word)
  pub some : 0 < length word
  pub value : number ≡ value_after 0 word

-- the words are three such words, which write these numbers, and then the rest
pub record AreThreeNumbers (words : List (List ℕ)) (a b c : ℕ) (rest : List (List ℕ)) : Type 0 where
  pub first : List ℕ
  pub second : List ℕ
  pub third : List ℕ
  pub words_are : words ≡ first ∷ second ∷ third ∷ rest
  pub a_is : IsNumber first a
  pub b_is : IsNumber second b
  pub c_is : IsNumber third c

-- the word is digits alone, at least one, and they write a number below 10^9
pub record IsSmallNumber (word : List ℕ) : Type 0 where
  pub digits : IsTrue (list_all is_digit word)
  pub some : 0 < length word
  pub small : value_after 0 word < 10 ^ 9

-- so many of the words, from the first on, are there and write such numbers
abbrev pub BeginSmall : ℕ → List (List ℕ) → Type 0
BeginSmall zero words = ⊤
BeginSmall (suc n) [] = ⊥
BeginSmall (suc n) (word ∷ words) = IsSmallNumber word × BeginSmall n words
