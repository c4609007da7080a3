-- Texts that begin with a plain line, which is read in one pass from its first byte to its line feed.
use Rattle.std.specs.Prelude.{◌≡◌, ◌<◌, ℕ, List, ◌∷◌, ◌++◌, not, IsTrue, length}
use Rattle.std.specs.List.{list_all}
use Rattle.text_words.specs.Lines.{is_blank, words_of, IsOneLine}
use Rattle.text_words.specs.Parts.{IsPlain}

-- a word in which neither a blank nor a line feed stands, and neither a '#' nor a '\'
pub record IsPlainWord (word : List ℕ) : Type 0 where
  pub some : 0 < length word
  pub unbroken : IsTrue (list_all (λ b. not (is_blank b)) word)
  pub one : IsOneLine word
  pub plain : IsPlain word

-- the text begins with a line of these words in which neither a '#' nor a '\' stands, and goes on behind its line feed
pub record BeginsWithLine (text : List ℕ) (words : List (List ℕ)) (rest : List ℕ) : Type 0 where
  pub line : List ℕ
  pub whole : text ≡ line ++ 10 ∷ rest
  pub one : IsOneLine line
  pub plain : IsPlain line
  pub words_are : words_of line ≡ words
