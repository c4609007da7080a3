-- What is owed, and what state is left, where a line ends in the bytes that come.
use Rattle.std.proofs.Common.{◌≡◌, ℕ, ◌+◌, Bool, true, false, List, [], ◌∷◌, ◌++◌, refl, sym, ap, ◌∙◌, subst, append_assoc, append-nil}
use Rattle.text_words.specs.Lines.{IsOneLine}
use Rattle.text_words.proofs.Cuts.{cut_line, cut_none, cut_last, one_line_more}
use Rattle.streams.specs.Answers.{answers_from, state_after, text_left, state_left}

-- a line that was begun, and bytes in which it ends
pub regroup : (line front back rest more ended : List ℕ) → ended ≡ line ++ front → rest ≡ front ++ 10 ∷ back
    → line ++ (rest ++ more) ≡ ended ++ 10 ∷ (back ++ more)
regroup line front back rest more ended e f =
    ap (λ k. line ++ (k ++ more)) f ∙ ap (λ k. line ++ k) (append_assoc front (10 ∷ back) more)
    ∙ sym (append_assoc line front (10 ∷ (back ++ more))) ∙ ap (λ k. k ++ 10 ∷ (back ++ more)) (sym e)

-- the parts of a line are one line
pub ended_line : (line front ended : List ℕ) → ended ≡ line ++ front → IsOneLine line → IsOneLine front
    → IsOneLine ended
ended_line line front ended e p q = subst IsOneLine (sym e) (one_line_more line front p q)

-- the answer to the line that ends comes first
pub text_next : {A : Type 0} (text : A → ℕ → List ℕ → List ℕ) (after : A → List ℕ → A) (state : A) (number : ℕ)
    (unfinished : Bool) (line front back rest more ended : List ℕ)
    → ended ≡ line ++ front → rest ≡ front ++ 10 ∷ back → IsOneLine ended
    → text_left text after state number unfinished (line ++ (rest ++ more))
    ≡ text state number ended ++ text_left text after (after state ended) (number + 1) unfinished (back ++ more)
text_next text after state number unfinished line front back rest more ended e f p =
    ap (text_left text after state number unfinished) (regroup line front back rest more ended e f)
    ∙ ap (answers_from text after state number) (cut_line unfinished ended (back ++ more) p)

-- the state that the line leaves is the one in which the rest is answered
pub state_next : {A : Type 0} (after : A → List ℕ → A) (state : A) (unfinished : Bool)
    (line front back rest more ended : List ℕ)
    → ended ≡ line ++ front → rest ≡ front ++ 10 ∷ back → IsOneLine ended
    → state_left after state unfinished (line ++ (rest ++ more))
    ≡ state_left after (after state ended) unfinished (back ++ more)
state_next after state unfinished line front back rest more ended e f p =
    ap (state_left after state unfinished) (regroup line front back rest more ended e f)
    ∙ ap (state_after after state) (cut_line unfinished ended (back ++ more) p)

-- an unfinished last line is answered alone
pub text_last : {A : Type 0} (text : A → ℕ → List ℕ → List ℕ) (after : A → List ℕ → A) (state : A) (number : ℕ)
    (line : List ℕ) → IsOneLine line → (line ≡ [] → ⊥)
    → text_left text after state number true line ≡ text state number line
text_last text after state number [] p some = absurd (some refl)
text_last text after state number (b ∷ bs) p some = ap (answers_from text after state number) (cut_last b bs p)
    ∙ append-nil (text state number (b ∷ bs))

-- and leaves its state
pub state_last : {A : Type 0} (after : A → List ℕ → A) (state : A) (line : List ℕ) → IsOneLine line → (line ≡ [] → ⊥)
    → state_left after state true line ≡ after state line
state_last after state [] p some = absurd (some refl)
state_last after state (b ∷ bs) p some = ap (state_after after state) (cut_last b bs p)

-- a line that has not ended owes nothing yet
pub text_none : {A : Type 0} (text : A → ℕ → List ℕ → List ℕ) (after : A → List ℕ → A) (state : A) (number : ℕ)
    (line : List ℕ) → IsOneLine line
    → text_left text after state number false (line ++ []) ≡ []
text_none text after state number line one =
    ap (text_left text after state number false) (append-nil line)
    ∙ ap (answers_from text after state number) (cut_none line one)

-- and leaves the state as it is
pub state_none : {A : Type 0} (after : A → List ℕ → A) (state : A) (line : List ℕ) → IsOneLine line
    → state_left after state false (line ++ []) ≡ state
state_none after state line one = ap (state_left after state false) (append-nil line)
    ∙ ap (state_after after state) (cut_none line one)

-- the session after a line that ended, with an empty line, owes as its answerer does
pub same_text : {A : Type 0} (text : A → ℕ → List ℕ → List ℕ) (after : A → List ℕ → A) (a b : A) (m n : ℕ)
    (unfinished : Bool) (line more : List ℕ) → b ≡ a → n ≡ m → line ≡ []
    → text_left text after a m unfinished more ≡ text_left text after b n unfinished (line ++ more)
same_text text after a b m n unfinished line more e f g =
    ap (λ w. text_left text after w m unfinished more) (sym e)
    ∙ ap (λ k. text_left text after b k unfinished more) (sym f)
    ∙ ap (λ k. text_left text after b n unfinished (k ++ more)) (sym g)

-- and leaves the same state
pub same_state : {A : Type 0} (after : A → List ℕ → A) (a b : A) (unfinished : Bool) (line more : List ℕ) → b ≡ a → line
    ≡ []
    → state_left after b unfinished (line ++ more) ≡ state_left after a unfinished more
same_state after a b unfinished line more e g = ap (λ k. state_left after b unfinished (k ++ more)) g
    ∙ ap (λ w. state_left after w unfinished more) e
