-- A text cut behind a line feed that joins no two lines, and the joined lines of its halves.
use Rattle.std.proofs.Common.{◌≡◌, ℕ, ◌+◌, Bool, true, false, List, [], ◌∷◌, ◌++◌, ◌==◌, ◌||◌, ◌&&◌, not, cond, map, length, refl, sym, ap, ◌∙◌, arith}
use Rattle.std.proofs.lemmas.List.{map-append}
use Rattle.text_words.specs.Lines.{onto_line, lines_of}
use Rattle.text_words.specs.Joins.{said, joins, is_line_end, joined, joined_with, with_words, joined_lines_of}
use Rattle.text_words.specs.Halves.{moved_by, may_join}

-- where neither holds, each does not
either : (x y : Bool) → (x || y) ≡ false → (x ≡ false) × (y ≡ false)
either true y e = absurd (cc)
either false y e = (refl, e)

-- a list of lines whose last is not joined with what follows
abbrev pub EndsApart : List (List ℕ) → Type 0
EndsApart [] = ⊥
EndsApart (line ∷ []) = joins line ≡ false
EndsApart (line ∷ next ∷ lines) = EndsApart (next ∷ lines)

-- such a list of lines of a text, and where there is only one, it is the text
abbrev EndsApartWith : List ℕ → List (List ℕ) → Type 0
EndsApartWith text [] = ⊥
EndsApartWith text (line ∷ []) = (line ≡ text) × (joins line ≡ false)
EndsApartWith text (line ∷ next ∷ lines) = EndsApart (next ∷ lines)

-- a line is not joined where it does not begin with its end, and its rest is not joined
not_joined : (s : Bool) (e m : Bool) → e ≡ false → m ≡ false → (not s && (e || m)) ≡ false
not_joined true e m p q = refl
not_joined false e m p q = ap (λ k. k || m) p ∙ q

-- one byte more before a text, none that begins its end, leaves its last line not joined
apart_by : (b : ℕ) (bs : List ℕ) (k : Bool) (lines : List (List ℕ)) → (b == 92 && is_line_end bs) ≡ false
    → EndsApartWith bs lines → EndsApartWith (b ∷ bs) (cond k ([] ∷ lines) (onto_line true b lines))
apart_by b bs k [] e p = absurd p
apart_by b bs true (line ∷ []) e p = p.1
apart_by b bs false (line ∷ []) e p =
    let end : (b == 92 && is_line_end line) ≡ false = ap (λ l. b == 92 && is_line_end l) p.0 ∙ e in
    (ap (λ l. b ∷ l) p.0, not_joined (b == 35) (b == 92 && is_line_end line) (joins line) end p.1)
apart_by b bs true (line ∷ next ∷ lines) e p = p
apart_by b bs false (line ∷ next ∷ lines) e p = p

-- a text that does not end in a join has such lines
apart_with : (text : List ℕ) → may_join text ≡ false → EndsApartWith text (lines_of (text ++ 10 ∷ []))
apart_with [] e = (refl, refl)
apart_with (b ∷ bs) e =
    let here = either (b == 92 && is_line_end bs) (may_join bs) e in
    apart_by b bs (b == 10) (lines_of (bs ++ 10 ∷ [])) here.0 (apart_with bs here.1)

-- such lines are lines whose last is not joined
apart_from : (text : List ℕ) (lines : List (List ℕ)) → EndsApartWith text lines → EndsApart lines
apart_from text [] p = p
apart_from text (line ∷ []) p = p.1
apart_from text (line ∷ next ∷ lines) p = p

-- the last line before a line feed that joins no two lines is not joined
pub lines_apart : (text : List ℕ) → may_join text ≡ false → EndsApart (lines_of (text ++ 10 ∷ []))
lines_apart text e = apart_from text (lines_of (text ++ 10 ∷ [])) (apart_with text e)

-- one byte more before two lists of lines goes onto the first
lines_by : (b : ℕ) (k : Bool) (xs ys : List (List ℕ)) (first : List ℕ) (rest : List (List ℕ)) → xs ≡ first ∷ rest
    → cond k ([] ∷ (xs ++ ys)) (onto_line true b (xs ++ ys)) ≡ cond k ([] ∷ xs) (onto_line true b xs) ++ ys
lines_by b true xs ys first rest e = refl
lines_by b false xs ys first rest e =
    ap (λ t. onto_line true b (t ++ ys)) e ∙ sym (ap (λ t. onto_line true b t ++ ys) e)

-- a byte before a list of lines leaves at least one
some_by : (b : ℕ) (k : Bool) (xs : List (List ℕ))
    → (first : List ℕ) × (rest : List (List ℕ)) × (cond k ([] ∷ xs) (onto_line true b xs) ≡ first ∷ rest)
some_by b true xs = ([], xs, refl)
some_by b false [] = (b ∷ [], [], refl)
some_by b false (line ∷ lines) = (b ∷ line, lines, refl)

-- a text that ends with a line feed has a line
lines_some : (text : List ℕ)
    → (first : List ℕ) × (rest : List (List ℕ)) × (lines_of (text ++ 10 ∷ []) ≡ first ∷ rest)
lines_some [] = ([], [], refl)
lines_some (b ∷ bs) = some_by b (b == 10) (lines_of (bs ++ 10 ∷ []))

-- the lines of a text cut behind a line feed
pub lines_parted : (front rest : List ℕ)
    → lines_of (front ++ 10 ∷ rest) ≡ lines_of (front ++ 10 ∷ []) ++ lines_of rest
lines_parted [] rest = refl
lines_parted (b ∷ bs) rest =
    let some = lines_some bs in
    ap (λ t. cond (b == 10) ([] ∷ t) (onto_line true b t)) (lines_parted bs rest)
    ∙ lines_by b (b == 10) (lines_of (bs ++ 10 ∷ [])) (lines_of rest) some.0 some.1 some.2

-- what a line of this number says before joined lines, of which the first goes on with it where the line is joined
abbrev onto_joined : Bool → ℕ → List ℕ → List (ℕ × List ℕ) → List (ℕ × List ℕ)
onto_joined k number front later = cond k (joined_with number front later) ((number, front) ∷ later)

-- there is at least one joined line then
joined_some : (k : Bool) (number : ℕ) (front : List ℕ) (later : List (ℕ × List ℕ))
    → (first : ℕ × List ℕ) × (rest : List (ℕ × List ℕ)) × (onto_joined k number front later ≡ first ∷ rest)
joined_some false number front later = ((number, front), later, refl)
joined_some true number front [] = ((number, front), [], refl)
joined_some true number front (next ∷ later) = ((number, front ++ 32 ∷ next.1), later, refl)

-- it goes onto the first of two lists, where there is one in it
joined_by : (k : Bool) (number : ℕ) (front : List ℕ) (xs ys : List (ℕ × List ℕ))
    → ((first : ℕ × List ℕ) × (rest : List (ℕ × List ℕ)) × (xs ≡ first ∷ rest))
    → onto_joined k number front (xs ++ ys) ≡ onto_joined k number front xs ++ ys
joined_by false number front xs ys some = refl
joined_by true number front xs ys some =
    ap (λ t. joined_with number front (t ++ ys)) some.2 ∙ sym (ap (λ t. joined_with number front t ++ ys) some.2)

-- lines behind a line that is not joined are joined by themselves
pub joined_apart : (number : ℕ) (xs ys : List (List ℕ)) → EndsApart xs
    → joined number (xs ++ ys) ≡ joined number xs ++ joined (length xs + number) ys
joined_apart number [] ys p = absurd p
joined_apart number (line ∷ []) ys p =
    let next : number + 1 ≡ length (line ∷ []) + number = omega arith in
    let later = joined (length (line ∷ []) + number) ys in
    ap (λ k. onto_joined k number (said line) (joined (number + 1) ys)) p
    ∙ ap (λ n. (number, said line) ∷ joined n ys) next
    ∙ sym (ap (λ k. onto_joined k number (said line) [] ++ later) p)
joined_apart number (line ∷ next ∷ lines) ys p =
    let xs = next ∷ lines in
    let some = joined_some (joins next) (number + 1) (said next) (joined (number + 1 + 1) lines) in
    let count : length (next ∷ lines) + (number + 1) ≡ length (line ∷ next ∷ lines) + number = omega arith in
    ap (onto_joined (joins line) number (said line)) (joined_apart (number + 1) (next ∷ lines) ys p)
    ∙ joined_by (joins line) number (said line) (joined (number + 1) xs) (joined (length xs + (number + 1)) ys) some
    ∙ ap (λ n. joined number (line ∷ xs) ++ joined n ys) count

-- what a joined line says, where it stands behind so many lines more
abbrev shifted : ℕ → ℕ × List ℕ → ℕ × List ℕ
shifted lines line = (lines + line.0, line.1)

-- it changes nothing that a line goes onto them before or after they are moved
shifted_by : (k : Bool) (lines number : ℕ) (front : List ℕ) (later : List (ℕ × List ℕ))
    → onto_joined k (lines + number) front (map (shifted lines) later)
    ≡ map (shifted lines) (onto_joined k number front later)
shifted_by false lines number front later = refl
shifted_by true lines number front [] = refl
shifted_by true lines number front (next ∷ later) = refl

-- lines that stand behind so many more are joined as they are by themselves
joined_shifted : (lines number : ℕ) (text : List (List ℕ))
    → joined (lines + number) text ≡ map (shifted lines) (joined number text)
joined_shifted lines number [] = refl
joined_shifted lines number (line ∷ text) =
    let next : lines + number + 1 ≡ lines + (number + 1) = omega arith in
    ap (onto_joined (joins line) (lines + number) (said line))
    (ap (λ n. joined n text) next ∙ joined_shifted lines (number + 1) text)
    ∙ shifted_by (joins line) lines number (said line) (joined (number + 1) text)

-- joined lines that are moved keep their words
words_shifted : (lines : ℕ) (later : List (ℕ × List ℕ))
    → map with_words (map (shifted lines) later) ≡ map (moved_by lines) (map with_words later)
words_shifted lines [] = refl
words_shifted lines (line ∷ later) = ap (λ t. moved_by lines (with_words line) ∷ t) (words_shifted lines later)

-- the joined lines of a text cut behind a line feed that joins no two lines
pub joined_parted : (front rest : List ℕ) → may_join front ≡ false
    → joined_lines_of (front ++ 10 ∷ rest) ≡ joined_lines_of (front ++ 10 ∷ [])
    ++ map (moved_by (length (lines_of (front ++ 10 ∷ [])))) (joined_lines_of rest)
joined_parted front rest e =
    let left = lines_of (front ++ 10 ∷ []) in
    let right = joined 1 (lines_of rest) in
    let moved = joined_shifted (length left) 1 (lines_of rest) in
    let words = ap (map with_words) moved ∙ words_shifted (length left) right in
    ap (λ t. map with_words (joined 1 t)) (lines_parted front rest)
    ∙ ap (map with_words) (joined_apart 1 left (lines_of rest) (lines_apart front e))
    ∙ map-append with_words (joined 1 left) (joined (length left + 1) (lines_of rest))
    ∙ ap (λ t. map with_words (joined 1 left) ++ t) words
