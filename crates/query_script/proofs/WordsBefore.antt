-- A word at the front of a text, right before a space, and the coordinate that it writes.
use Rattle.std.proofs.Common.{◌≡◌, ℕ, List, ◌∷◌, ◌++◌, refl, ap, ◌∙◌, ℤ, Ok}
use Rattle.text_words.specs.Lines.{words_of}
use Rattle.text_words.specs.PlainLines.{IsPlainWord}
use Rattle.text_words.proofs.Spaces.{words_word, words_blank}
use Rattle.decimals.specs.Values.{grid_of}
use Rattle.query_script.specs.declared.bounds.Bounds.{Bounds}
use Rattle.query_script.specs.Asks.{onward, number_or_fault, within, steps_of, coordinate_of}

-- the words of the text are that word and those behind the space
pub words_before : (text word rest : List ℕ) → text ≡ word ++ 32 ∷ rest → IsPlainWord word
    → words_of text ≡ word ∷ words_of rest
words_before text word rest e p =
    words_word text word (32 ∷ rest) (record { whole = e; unbroken = p.unbroken; some = p.some; ends = refl })
    ∙ ap (λ w. word ∷ w) (words_blank 32 rest refl)

-- a word whose grid steps are within its bounds
pub coordinate_known : (unit : ℕ) (bounds : Bounds) (word : List ℕ) (steps x : ℤ) → grid_of unit word ≡ Ok steps
    → within bounds steps ≡ Ok x → coordinate_of unit bounds word ≡ Ok x
unfolding steps_of
coordinate_known unit bounds word steps x e f = ap (λ r. onward (number_or_fault r) (within bounds)) e ∙ f
