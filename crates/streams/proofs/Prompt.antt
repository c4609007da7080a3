-- A session that stops at a failed write has taken less than a piece behind the first line feed before which not all
-- was written.
use Rattle.std.proofs.Common.{◌≡◌, ◌≤◌, ◌<◌, ◌+◌, ◌==◌, inl, inr, ℕ, true, false, cond, List, [], ◌∷◌, ◌++◌, Option, None, Some, IfSome, take, drop, length, refl, sym, ap, ◌∙◌, subst, length-append, arith, take-append-drop}
use Rattle.std.specs.Io.KnownBytes.{Appends, Consumes}
use Rattle.std.proofs.lemmas.List.{length-take-le, length-drop}
use Rattle.std.proofs.lemmas.Bool.{cases_lt}
use Rattle.text_words.specs.Lines.{onto_line, cut_lines, IsOneLine}
use Rattle.streams.specs.Owed.{AppendsFront}
use Rattle.streams.specs.Answers.{answers_from, lines_within, text_left}
use Rattle.streams.specs.Taken.{IsPrompt, Loses}
use Rattle.streams.specs.declared.loads.TheConstants.{PIECE}
use Rattle.streams.proofs.Gifts.{Gave}
use Rattle.streams.proofs.Within.{within_cut}
use Rattle.streams.proofs.SoFar.{HasAnswered, all_ended}

-- a byte before lines of which there is one
onto_some : (b : ℕ) (line : List ℕ) (lines more : List (List ℕ)) → onto_line false b ((line ∷ lines) ++ more)
    ≡ onto_line false b (line ∷ lines) ++ more
onto_some b line lines more = refl

-- what ends with a line feed has a line
some_line : (front : List ℕ) → (line : List ℕ) × (lines : List (List ℕ))
    × (cut_lines false (front ++ 10 ∷ []) ≡ line ∷ lines)
some_line [] = ([], [], refl)
some_line (b ∷ bs) =
    let p = some_line bs in
    elim (b == 10) as (λ k. (line : List ℕ) × (lines : List (List ℕ))
    × (cond k ([] ∷ cut_lines false (bs ++ 10 ∷ [])) (onto_line false b (cut_lines false (bs ++ 10 ∷ [])))
    ≡ line ∷ lines)) [
      | true ↦ ([], cut_lines false (bs ++ 10 ∷ []), refl)
      | false ↦ (b ∷ p.0, p.1, ap (onto_line false b) p.2)
    ]

-- the lines that ended by a line feed, and those behind it
cut_lines-append : (front back : List ℕ) → cut_lines false (front ++ 10 ∷ back)
    ≡ cut_lines false (front ++ 10 ∷ []) ++ cut_lines false back
cut_lines-append [] back = refl
cut_lines-append (b ∷ bs) back =
    let p = some_line bs in
    let e : cut_lines false (bs ++ 10 ∷ back) ≡ (p.0 ∷ p.1) ++ cut_lines false back = cut_lines-append bs back
    ∙ ap (λ k. k ++ cut_lines false back) p.2 in
    elim (b == 10) as (λ k. cond k ([] ∷ cut_lines false (bs ++ 10 ∷ back))
    (onto_line false b (cut_lines false (bs ++ 10 ∷ back)))
    ≡ cond k ([] ∷ cut_lines false (bs ++ 10 ∷ [])) (onto_line false b (cut_lines false (bs ++ 10 ∷ []))) ++ cut_lines
    false back) [
      | true ↦ ap (λ k. [] ∷ k) (cut_lines-append bs back)
      | false ↦ ap (onto_line false b) e ∙ ap (λ k. onto_line false b k ++ cut_lines false back) (sym p.2)
    ]

-- the answers to more lines are longer
answers-append : {A : Type 0} (text : A → ℕ → List ℕ → List ℕ) (after : A → List ℕ → A) (state : A) (number : ℕ)
    (lines more : List (List ℕ))
    → length (answers_from text after state number lines)
    ≤ length (answers_from text after state number (lines ++ more))
answers-append text after state number [] more = omega arith
answers-append text after state number (line ∷ lines) more =
    omega (
      arith,
      length-append (text state number line) (answers_from text after (after state line) (number + 1) lines),
      length-append (text state number line) (answers_from text after (after state line) (number + 1) (lines ++ more)),
      answers-append text after (after state line) (number + 1) lines more,
    )

-- the answers to the lines that ended by a line feed are no longer than those to all that ended
answers_by : {A : Type 0} (text : A → ℕ → List ℕ → List ℕ) (after : A → List ℕ → A) (state : A) (number : ℕ)
    (front back : List ℕ)
    → length (text_left text after state number false (front ++ 10 ∷ []))
    ≤ length (text_left text after state number false (front ++ 10 ∷ back))
answers_by text after state number front back =
    subst (λ lines. length (text_left text after state number false (front ++ 10 ∷ []))
    ≤ length (answers_from text after state number lines))
    (sym (cut_lines-append front back)) (answers-append text after state number (cut_lines false (front ++ 10 ∷ []))
    (cut_lines false back))

-- a line feed within a front of a text is the front's own
within_front : (taken rest front back : List ℕ) → taken ++ rest ≡ front ++ 10 ∷ back → length front < length taken
    → (more : List ℕ) × (taken ≡ front ++ 10 ∷ more)
within_front taken rest [] back e less = first taken rest back e less
  where
    first : (taken rest back : List ℕ) → taken ++ rest ≡ 10 ∷ back → 0 < length taken → (more : List ℕ)
        × (taken ≡ 10 ∷ more)
    first [] rest back e less = absurd (omega arith)
    first (t ∷ ts) rest back e less = (ts, let h : t ≡ 10 = cc in ap (λ k. k ∷ ts) h)
within_front [] rest (b ∷ bs) back e less = absurd (omega arith)
within_front (t ∷ ts) rest (b ∷ bs) back e less =
    let tail : ts ++ rest ≡ bs ++ 10 ∷ back = cc in
    let p = within_front ts rest bs back tail (omega arith) in
    let h : t ≡ b = cc in
    (p.0, ap (λ k. k ∷ ts) h ∙ ap (λ k. b ∷ k) p.1)

-- what a sink took of the answers so far, and then of more, is at least as long as the answers so far
written_length : (o m w : List ℕ) (said more : List ℕ) → Appends (Some o) (Some m) said
    → AppendsFront (Some m) (Some w) more → length o + length said ≤ length w
written_length o m w said more first second =
    omega (arith, ap length first, length-append o said, ap length second.1.taken, length-append m second.1.front)

-- so where the write of a later answer fails, what was taken behind the line feed is less than a piece
pub prompt : {A : Type 0} (text : A → ℕ → List ℕ → List ℕ) (after : A → List ℕ → A) (start : A)
    (left b c old mid now : Option (List ℕ)) (state : A) (n number : ℕ) (line piece more : List ℕ)
    → IsOneLine line → length piece ≤ PIECE → Gave left b n (HasAnswered text after start old mid state number line)
    → Consumes b c piece → AppendsFront mid now more
    → IsPrompt (text_left text after start 1 false) left c old now
prompt text after start None b c old mid now state n number line piece more one few gave eats said = tt
prompt text after start (Some bytes) None c old mid now state n number line piece more one few gave eats said =
    absurd gave
prompt text after start (Some bytes) (Some left) None old mid now state n number line piece more one few gave eats
    said = absurd eats
prompt text after start (Some bytes) (Some left) (Some rest) None mid now state n number line piece more one few gave
    eats said = tt
prompt text after start (Some bytes) (Some left) (Some rest) (Some o) mid now state n number line piece more one few
    gave eats said =
    at mid now said (all_ended text after start (Some o) mid state number line gave.0 one gave.3)
  where
    at : (mid now : Option (List ℕ)) → AppendsFront mid now more
        → Appends (Some o) mid (text_left text after start 1 false gave.0)
        → IsPrompt (text_left text after start 1 false) (Some bytes) (Some rest) (Some o) now
    at None now said done = absurd done
    at (Some m) None said done = absurd said.1.taken
    at (Some m) (Some w) said done = λ front back e short.
        elim (cases_lt (length front) (length gave.0)) [
          | inl inside ↦
              let p = within_front gave.0 left front back (sym gave.1 ∙ e) inside in
              let least : length (text_left text after start 1 false (front ++ 10 ∷ []))
              ≤ length (text_left text after start 1 false gave.0) =
              subst (λ x. length (text_left text after start 1 false (front ++ 10 ∷ []))
              ≤ length (text_left text after start 1 false x)) (sym p.1) (answers_by text after start 1 front p.0) in
              absurd (omega (arith, written_length o m w (text_left text after start 1 false gave.0) more done said))
          | inr past ↦ omega (
            arith,
            ap length gave.1,
            length-append gave.0 left,
            ap length eats,
            length-append piece
                rest,
          )
        ]

-- and where more came than the limit and the write of word of it fails, no more was taken than the limit and a byte
pub prompt_cut : {A : Type 0} (text : A → ℕ → List ℕ → List ℕ) (after : A → List ℕ → A) (start : A)
    (left right old mid now : Option (List ℕ)) (limit : ℕ) (more : List ℕ)
    → Loses (limit + 1) left right → IfSome left (λ bytes. limit < length bytes)
    → IfSome left (λ bytes. Appends old mid (answers_from text after start 1 (lines_within limit bytes)))
    → AppendsFront mid now more → IsPrompt (text_left text after start 1 false) left right old now
prompt_cut text after start None right old mid now limit more lost long done said = tt
prompt_cut text after start (Some bytes) None old mid now limit more lost long done said = absurd lost
prompt_cut text after start (Some bytes) (Some rest) None mid now limit more lost long done said = tt
prompt_cut text after start (Some bytes) (Some rest) (Some o) mid now limit more lost long done said =
    at mid now said (subst (λ lines. Appends (Some o) mid (answers_from text after start 1 lines))
    (within_cut limit bytes long) done)
  where
    at : (mid now : Option (List ℕ)) → AppendsFront mid now more
        → Appends (Some o) mid (text_left text after start 1 false (take limit bytes))
        → IsPrompt (text_left text after start 1 false) (Some bytes) (Some rest) (Some o) now
    at None now said done = absurd done
    at (Some m) None said done = absurd said.1.taken
    at (Some m) (Some w) said done = λ front back e short.
        let len : length (take limit bytes) ≡ limit = length-take-le limit bytes (omega (arith, long)) in
        elim (cases_lt (length front) limit) [
          | inl inside ↦
              let p = within_front (take limit bytes) (drop limit bytes) front back (take-append-drop limit bytes ∙ e)
              (omega (arith, len, inside)) in
              let least : length (text_left text after start 1 false (front ++ 10 ∷ []))
              ≤ length (text_left text after start 1 false (take limit bytes)) =
              subst (λ x. length (text_left text after start 1 false (front ++ 10 ∷ []))
              ≤ length (text_left text after start 1 false x)) (sym p.1) (answers_by text after start 1 front p.0) in
              absurd (omega (
                arith,
                written_length o m w (text_left text after start 1 false (take limit bytes)) more
                    done said,
              ))
          | inr past ↦ omega (arith, ap length lost, length-drop (limit + 1) bytes)
        ]
