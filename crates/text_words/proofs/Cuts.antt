-- The lines of a text, cut off one after another.
use Rattle.std.proofs.Common.{◌≡◌, ◌<◌, ◌≤◌, ℕ, ◌+◌, Bool, true, false, List, [], ◌∷◌, ◌++◌, ◌==◌, ◌&&◌, not, cond, length, IsTrue, refl, ap, ◌∙◌, arith}
use Rattle.std.specs.List.{list_all}
use Rattle.text_words.specs.Lines.{onto_line, cut_lines, lines_of, IsOneLine}

-- the first byte of one line is no line feed, and the rest is one line
pub no_feed : (b : ℕ) (bs : List ℕ) → IsOneLine (b ∷ bs) → ((b == 10) ≡ false) × IsOneLine bs
no_feed b bs p =
    let same : Bool → Type 0 = λ k. IsTrue (not k && list_all (λ c. not (c == 10)) bs) → (k ≡ false) × IsOneLine bs in
    elim (b == 10) as same [ true ↦ λ q. cc | false ↦ λ q. (refl, q) ] p

-- a line that ends is the first
pub cut_line : (unfinished : Bool) (line rest : List ℕ) → IsOneLine line
    → cut_lines unfinished (line ++ 10 ∷ rest) ≡ line ∷ cut_lines unfinished rest
cut_line unfinished [] rest p = refl
cut_line unfinished (b ∷ bs) rest p =
    let q = no_feed b bs p in
    ap (λ k. cond k ([] ∷ cut_lines unfinished (bs ++ 10 ∷ rest))
    (onto_line unfinished b (cut_lines unfinished (bs ++ 10 ∷ rest)))) q.0
    ∙ ap (onto_line unfinished b) (cut_line unfinished bs rest q.1)

-- an unfinished line is none of the lines that ended
pub cut_none : (line : List ℕ) → IsOneLine line → cut_lines false line ≡ []
cut_none [] p = refl
cut_none (b ∷ bs) p =
    let q = no_feed b bs p in
    ap (λ k. cond k ([] ∷ cut_lines false bs) (onto_line false b (cut_lines false bs))) q.0
    ∙ ap (onto_line false b) (cut_none bs q.1)

-- an unfinished line that is not empty is the only one of all lines
pub cut_last : (b : ℕ) (bs : List ℕ) → IsOneLine (b ∷ bs) → cut_lines true (b ∷ bs) ≡ (b ∷ bs) ∷ []
cut_last b [] p = let q = no_feed b [] p in ap (λ k. cond k ([] ∷ []) ((b ∷ []) ∷ [])) q.0
cut_last b (c ∷ bs) p =
    let q = no_feed b (c ∷ bs) p in
    ap (λ k. cond k ([] ∷ cut_lines true (c ∷ bs)) (onto_line true b (cut_lines true (c ∷ bs)))) q.0
    ∙ ap (onto_line true b) (cut_last c bs q.1)

-- two parts of one line are one line
pub one_line_more : (xs ys : List ℕ) → IsOneLine xs → IsOneLine ys → IsOneLine (xs ++ ys)
one_line_more [] ys p q = q
one_line_more (b ∷ bs) ys p q =
    let r = no_feed b bs p in
    ap (λ k. not k && list_all (λ c. not (c == 10)) (bs ++ ys)) r.0 ∙ one_line_more bs ys r.1 q

-- the lines of a text in which a line ends
pub lines_ended : (text line rest : List ℕ) → IsOneLine line → text ≡ line ++ 10 ∷ rest
    → lines_of text ≡ line ∷ lines_of rest
lines_ended text line rest p e = ap lines_of e ∙ cut_line true line rest p

-- the lines of a text in which none ends
pub lines_unfinished : (text : List ℕ) → IsOneLine text → 0 < length text → lines_of text ≡ text ∷ []
lines_unfinished [] p some = absurd (omega arith)
lines_unfinished (b ∷ bs) p some = cut_last b bs p

-- a byte put before lines makes one line more at most
length-onto_line : (b : ℕ) (lines : List (List ℕ)) → length (onto_line true b lines) ≤ length lines + 1
length-onto_line b [] = omega arith
length-onto_line b (line ∷ lines) = omega arith

-- so it does where it may be a line feed
length-line : (b : ℕ) (k : Bool) (lines : List (List ℕ))
    → length (cond k ([] ∷ lines) (onto_line true b lines)) ≤ length lines + 1
length-line b true lines = omega arith
length-line b false lines = length-onto_line b lines

-- a text has at most as many lines as bytes
pub length-lines_of : (text : List ℕ) → length (lines_of text) ≤ length text
length-lines_of [] = omega arith
length-lines_of (b ∷ bs) = omega (arith, length-line b (b == 10) (lines_of bs), length-lines_of bs)
