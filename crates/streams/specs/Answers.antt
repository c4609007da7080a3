-- The answers to the lines of a text, one after another, and which lines of it are answered.
use Rattle.std.specs.Prelude.{◌≡◌, ℕ, ◌+◌, Bool, List, [], ◌∷◌, ◌++◌, nat_lt, take, length, if◌then◌else◌, Result, IfOk, OnOk, Vec}
use Rattle.std.specs.Borrow.{Bor, MutBor}
use Rattle.std.specs.declared.alloc.Global.{Global}
use Rattle.text_words.specs.Lines.{cut_lines, lines_of, ended_lines}

-- the answers to lines that are numbered from one on, each in the state that the lines before left
abbrev pub answers_from : {A : Type 0} → (A → ℕ → List ℕ → List ℕ) → (A → List ℕ → A) → A → ℕ → List (List ℕ) → List ℕ
answers_from text after state number [] = []
answers_from text after state number (line ∷ lines) = text state number line ++ answers_from text after (after state line) (number + 1) lines

-- the state that lines leave
abbrev pub state_after : {A : Type 0} → (A → List ℕ → A) → A → List (List ℕ) → A
state_after after state [] = state
state_after after state (line ∷ lines) = state_after after (after state line) lines

-- the lines that are answered: all, an unfinished last one among them, where the text is within the limit; else those
-- whose line feed is within it
abbrev pub lines_within : ℕ → List ℕ → List (List ℕ)
lines_within limit text = if nat_lt limit (length text) then ended_lines (take limit text) else lines_of text

-- the answers that a text still owes, with or without its unfinished last line
abbrev pub text_left : {A : Type 0} → (A → ℕ → List ℕ → List ℕ) → (A → List ℕ → A) → A → ℕ → Bool → List ℕ → List ℕ
text_left text after state number unfinished bytes = answers_from text after state number (cut_lines unfinished bytes)

-- the state that a text leaves
abbrev pub state_left : {A : Type 0} → (A → List ℕ → A) → A → Bool → List ℕ → A
state_left after state unfinished bytes = state_after after state (cut_lines unfinished bytes)

-- each call of a function, unless it fails, answers a line by that text and leaves that state
abbrev pub AnswersBy : {A E : Type 0} → (A → ℕ → List ℕ → List ℕ) → (A → List ℕ → A)
    → (MutBor A → ℕ → Bor (List ℕ) → Result (Vec ℕ Global) E → MutBor A → Type 0) → Type 0
AnswersBy text after gives =
    (old : _) (number : ℕ) (line : _) (result : _) (new : _) → gives old number line result new
    → IfOk result (λ answer. answer.items ≡ text old.now number line.now)
    × OnOk result (new.now ≡ after old.now line.now)
