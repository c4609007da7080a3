-- An answerer in the midst of a script: what was answered of the bytes so far, and what that gives at each end.
use Rattle.std.proofs.Common.{◌≡◌, ◌≤◌, ◌<◌, ◌+◌, take, drop, ℕ, Bool, true, false, List, [], ◌++◌, Option, None, Some, IfSome, length, refl, sym, ap, ◌∙◌, subst, append_assoc, append-nil, length-append, arith}
use Rattle.std.specs.Io.KnownBytes.{Appends, Consumes, IsAtEnd, prepend_known}
use Rattle.text_words.specs.Lines.{IsOneLine}
use Rattle.streams.specs.Owed.{Owes, AppendsFront}
use Rattle.streams.specs.Answers.{answers_from, state_after, lines_within, text_left, state_left}
use Rattle.streams.proofs.Debts.{owes_all, owes_more, owes_none, owes_less, owes_front_of}
use Rattle.streams.proofs.Gifts.{Gave, gave_all}
use Rattle.streams.proofs.NextLines.{text_none, state_none}
use Rattle.streams.proofs.Parts.{IsFed, gave_fed}
use Rattle.streams.proofs.Within.{within_whole, within_cut, within_from, take_limit}

-- the lines that ended in these bytes were answered, and the rest of the bytes is the line that has not ended
pub record HasAnswered {A : Type 0} (text : A → ℕ → List ℕ → List ℕ) (after : A → List ℕ → A) (start : A)
    (old now : Option (List ℕ)) (state : A) (number : ℕ) (line front : List ℕ) : Type 0 where
  pub owes : (unfinished : Bool) (more : List ℕ)
      → Owes old now (text_left text after start 1 unfinished (front ++ more))
      (text_left text after state number unfinished (line ++ more))
  pub leaves : (unfinished : Bool) (more : List ℕ) → state_left after state unfinished (line ++ more)
      ≡ state_left after start unfinished (front ++ more)

-- of the answers to these bytes and any more a front was written
abbrev pub HasWrittenOf : {A : Type 0} → (A → ℕ → List ℕ → List ℕ) → (A → List ℕ → A) → A → Option (List ℕ)
    → Option (List ℕ) → List ℕ → Type 0
HasWrittenOf text after start old now front = (unfinished : Bool) (more : List ℕ)
    → AppendsFront old now (text_left text after start 1 unfinished (front ++ more))

-- before the first byte
pub answered_none : {A : Type 0} (text : A → ℕ → List ℕ → List ℕ) (after : A → List ℕ → A) (start state : A)
    (old : Option (List ℕ)) (number : ℕ) (line : List ℕ)
    → state ≡ start → number ≡ 1 → line ≡ [] → HasAnswered text after start old old state number line []
answered_none text after start state old number line e f g = record {
  owes = λ unfinished more. subst (Owes old old (text_left text after start 1 unfinished more))
      (ap (λ x. text_left text after x 1 unfinished more) (sym e)
      ∙ ap (λ k. text_left text after state k unfinished more) (sym f)
      ∙ ap (λ k. text_left text after state number unfinished (k ++ more)) (sym g))
      (owes_all old _);
  leaves = λ unfinished more. ap (λ k. state_left after state unfinished (k ++ more)) g
      ∙ ap (λ x. state_left after x unfinished more) e;
}

-- the next piece was fed
pub answered_more : {A : Type 0} (text : A → ℕ → List ℕ → List ℕ) (after : A → List ℕ → A) (start : A)
    (old mid now : Option (List ℕ)) (state state' : A) (number number' : ℕ) (line line' piece front : List ℕ)
    → ((unfinished : Bool) (more : List ℕ) → Owes mid now
    (text_left text after state number unfinished (line ++ (piece ++ more)))
    (text_left text after state' number' unfinished (line' ++ more)))
    → ((unfinished : Bool) (more : List ℕ) → state_left after state' unfinished (line' ++ more)
    ≡ state_left after state unfinished (line ++ (piece ++ more)))
    → HasAnswered text after start old mid state number line front
    → HasAnswered text after start old now state' number' line' (front ++ piece)
answered_more text after start old mid now state state' number number' line line' piece front fed left before = record {
  owes = λ unfinished more.
      subst (λ x. Owes old now (text_left text after start 1 unfinished x)
      (text_left text after state' number' unfinished (line' ++ more))) (sym (append_assoc front piece more))
      (owes_more old mid now _ _ _ (before.owes unfinished (piece ++ more)) (fed unfinished more));
  leaves = λ unfinished more.
      left unfinished more ∙ before.leaves unfinished (piece ++ more)
      ∙ ap (state_left after start unfinished) (sym (append_assoc front piece more));
}

-- what was written is a front of the answers
pub written_now : {A : Type 0} (text : A → ℕ → List ℕ → List ℕ) (after : A → List ℕ → A) (start : A)
    (old now : Option (List ℕ)) (state : A) (number : ℕ) (line front : List ℕ)
    → HasAnswered text after start old now state number line front → HasWrittenOf text after start old now front
written_now text after start old now state number line front before unfinished more = (_, before.owes unfinished more)

-- and so it is where the next piece was fed in part
pub written_more : {A : Type 0} (text : A → ℕ → List ℕ → List ℕ) (after : A → List ℕ → A) (start : A)
    (old mid now : Option (List ℕ)) (state : A) (number : ℕ) (line piece front : List ℕ)
    → ((unfinished : Bool) (more : List ℕ) → AppendsFront mid now
    (text_left text after state number unfinished (line ++ (piece ++ more))))
    → HasAnswered text after start old mid state number line front
    → HasWrittenOf text after start old now (front ++ piece)
written_more text after start old mid now state number line piece front fed before unfinished more =
    subst (λ x. AppendsFront old now (text_left text after start 1 unfinished x)) (sym (append_assoc front piece more))
    (owes_front_of old mid now _ _ (before.owes unfinished (piece ++ more)) (fed unfinished more))

-- the answers to the lines that ended are all written
pub all_ended : {A : Type 0} (text : A → ℕ → List ℕ → List ℕ) (after : A → List ℕ → A) (start : A)
    (old now : Option (List ℕ)) (state : A) (number : ℕ) (line front : List ℕ) → IsOneLine line
    → HasAnswered text after start old now state number line front
    → Appends old now (text_left text after start 1 false front)
all_ended text after start old now state number line front one before =
    subst (λ x. Appends old now (text_left text after start 1 false x)) (append-nil front)
    (owes_none old now _ _ (before.owes false []) (text_none text after state number line one))

-- what was written is a front of the answers to the lines within the limit
pub front_within : {A : Type 0} (text : A → ℕ → List ℕ → List ℕ) (after : A → List ℕ → A) (start : A)
    (old now left right : Option (List ℕ)) (limit n : ℕ) → n ≤ limit
    → Gave left right n (HasWrittenOf text after start old now)
    → IfSome left (λ bytes. AppendsFront old now (answers_from text after start 1 (lines_within limit bytes)))
front_within text after start old now None right limit n few gave = tt
front_within text after start old now (Some bytes) None limit n few gave = absurd gave
front_within text after start old now (Some bytes) (Some rest) limit n few gave =
    let w = within_from limit bytes gave.0 rest gave.1 (omega (arith, gave.2)) in
    subst (λ lines. AppendsFront old now (answers_from text after start 1 lines)) (sym w.2) (gave.3 w.0 w.1)

-- the source is at its end, and the last line was answered
pub text_whole : {A : Type 0} (text : A → ℕ → List ℕ → List ℕ) (after : A → List ℕ → A) (start : A)
    (old mid now left right : Option (List ℕ)) (state : A) (limit n number : ℕ) (line : List ℕ) → n ≤ limit
    → Gave left right n (HasAnswered text after start old mid state number line) → IsAtEnd right
    → Appends mid now (text_left text after state number true line)
    → IfSome left (λ bytes. Appends old now (answers_from text after start 1 (lines_within limit bytes)))
text_whole text after start old mid now None right state limit n number line few gave end said = tt
text_whole text after start old mid now (Some bytes) right state limit n number line few gave end said =
    let all = gave_all (Some bytes) right n (HasAnswered text after start old mid state number line) gave end in
    let within : length bytes ≤ limit = omega (arith, all.0) in
    let next : text_left text after state number true (line ++ []) ≡ text_left text after state number true line ++ [] =
    ap (text_left text after state number true) (append-nil line)
    ∙ sym (append-nil (text_left text after state number true line)) in
    subst (λ lines. Appends old now (answers_from text after start 1 lines)) (sym (within_whole limit bytes within))
    (subst (λ x. Appends old now (text_left text after start 1 true x)) (append-nil bytes)
    (owes_none old now _ [] (owes_less old mid now _ _ _ [] (all.1.owes true []) next said) refl))

-- the source is at its end, and the last line was answered in part
pub front_whole : {A : Type 0} (text : A → ℕ → List ℕ → List ℕ) (after : A → List ℕ → A) (start : A)
    (old mid now left right : Option (List ℕ)) (state : A) (limit n number : ℕ) (line : List ℕ) → n ≤ limit
    → Gave left right n (HasAnswered text after start old mid state number line) → IsAtEnd right
    → AppendsFront mid now (text_left text after state number true line)
    → IfSome left (λ bytes. AppendsFront old now (answers_from text after start 1 (lines_within limit bytes)))
front_whole text after start old mid now None right state limit n number line few gave end said = tt
front_whole text after start old mid now (Some bytes) right state limit n number line few gave end said =
    let all = gave_all (Some bytes) right n (HasAnswered text after start old mid state number line) gave end in
    let within : length bytes ≤ limit = omega (arith, all.0) in
    subst (λ lines. AppendsFront old now (answers_from text after start 1 lines))
    (sym (within_whole limit bytes within))
    (subst (λ x. AppendsFront old now (text_left text after start 1 true x)) (append-nil bytes)
    (owes_front_of old mid now _ _ (all.1.owes true [])
    (subst (λ x. AppendsFront mid now (text_left text after state number true x)) (sym (append-nil line)) said)))

-- the source is at its end, and this is the state that all lines leave
pub state_whole : {A : Type 0} (text : A → ℕ → List ℕ → List ℕ) (after : A → List ℕ → A) (start : A)
    (old mid left right : Option (List ℕ)) (state last : A) (limit n number : ℕ) (line : List ℕ) → n ≤ limit
    → Gave left right n (HasAnswered text after start old mid state number line) → IsAtEnd right → last
    ≡ state_left after state true line
    → IfSome left (λ bytes. last ≡ state_after after start (lines_within limit bytes))
state_whole text after start old mid None right state last limit n number line few gave end same = tt
state_whole text after start old mid (Some bytes) right state last limit n number line few gave end same =
    let all = gave_all (Some bytes) right n (HasAnswered text after start old mid state number line) gave end in
    let within : length bytes ≤ limit = omega (arith, all.0) in
    same ∙ ap (state_left after state true) (sym (append-nil line)) ∙ all.1.leaves true []
    ∙ ap (state_left after start true) (append-nil bytes)
    ∙ ap (state_after after start) (sym (within_whole limit bytes within))

-- a source that has more than it gave
pub is_longer : (left c : Option (List ℕ)) (n : ℕ) (tail : List ℕ) (P : List ℕ → Type 0) → 0 < length tail
    → Gave left (prepend_known tail c) n P → IfSome left (λ bytes. n < length bytes)
is_longer None c n tail P some gave = tt
is_longer (Some bytes) None n tail P some gave = absurd gave
is_longer (Some bytes) (Some rest) n tail P some gave =
    omega (arith, ap length gave.1, length-append gave.0 (tail ++ rest), length-append tail rest, gave.2)

-- more came than the limit, and what lies within it was answered
pub text_cut : {A : Type 0} (text : A → ℕ → List ℕ → List ℕ) (after : A → List ℕ → A) (start : A)
    (old now left c : Option (List ℕ)) (state : A) (limit n number : ℕ) (line tail : List ℕ) → n ≡ limit
    → IsOneLine line → 0 < length tail
    → Gave left (prepend_known tail c) n (HasAnswered text after start old now state number line)
    → IfSome left (λ bytes. Appends old now (answers_from text after start 1 (lines_within limit bytes)))
text_cut text after start old now None c state limit n number line tail full one some gave = tt
text_cut text after start old now (Some bytes) None state limit n number line tail full one some gave = absurd gave
text_cut text after start old now (Some bytes) (Some rest) state limit n number line tail full one some gave =
    let front : List ℕ = gave.0 in
    let longer : n < length bytes = is_longer (Some bytes) (Some rest) n tail
    (HasAnswered text after start old now state number line) some gave in
    let long : limit < length bytes = omega (arith, longer, full) in
    subst (λ lines. Appends old now (answers_from text after start 1 lines)) (sym (within_cut limit bytes long))
    (subst (λ x. Appends old now (text_left text after start 1 false x))
    (sym (take_limit limit bytes front (tail ++ rest) gave.1 (gave.2 ∙ full)))
    (all_ended text after start old now state number line front one gave.3))

-- and this is the state that it leaves
pub state_cut : {A : Type 0} (text : A → ℕ → List ℕ → List ℕ) (after : A → List ℕ → A) (start : A)
    (old now left c : Option (List ℕ)) (state : A) (limit n number : ℕ) (line tail : List ℕ) → n ≡ limit
    → IsOneLine line → 0 < length tail
    → Gave left (prepend_known tail c) n (HasAnswered text after start old now state number line)
    → IfSome left (λ bytes. state ≡ state_after after start (lines_within limit bytes))
state_cut text after start old now None c state limit n number line tail full one some gave = tt
state_cut text after start old now (Some bytes) None state limit n number line tail full one some gave = absurd gave
state_cut text after start old now (Some bytes) (Some rest) state limit n number line tail full one some gave =
    let front : List ℕ = gave.0 in
    let longer : n < length bytes = is_longer (Some bytes) (Some rest) n tail
    (HasAnswered text after start old now state number line) some gave in
    let long : limit < length bytes = omega (arith, longer, full) in
    sym (state_none after state line one) ∙ gave.3.leaves false []
    ∙ ap (state_left after start false) (append-nil front
    ∙ sym (take_limit limit bytes front (tail ++ rest) gave.1 (gave.2 ∙ full)))
    ∙ ap (state_after after start) (sym (within_cut limit bytes long))

-- what more than the limit leaves
pub record IsCut {A : Type 0} (text : A → ℕ → List ℕ → List ℕ) (after : A → List ℕ → A) (start : A)
    (old now left : Option (List ℕ)) (limit : ℕ) (state : A) : Type 0 where
  pub text_is : IfSome left (λ bytes. Appends old now (answers_from text after start 1 (lines_within limit bytes)))
  pub state_is : IfSome left (λ bytes. state ≡ state_after after start (lines_within limit bytes))

-- the piece that passes the limit was fed up to it
pub cut_at_limit : {A : Type 0} (text : A → ℕ → List ℕ → List ℕ) (after : A → List ℕ → A) (start : A)
    (old mid now left b c : Option (List ℕ)) (state state' : A) (limit taken number number' : ℕ) (line line' : List ℕ)
    {count fed : ℕ} {buf behind : List ℕ} → IsOneLine line' → taken + fed ≡ limit → limit < taken + count
    → IsFed buf behind count fed → Gave left b taken (HasAnswered text after start old mid state number line)
    → Consumes b c (take count buf)
    → ((unfinished : Bool) (more : List ℕ) → Owes mid now
    (text_left text after state number unfinished (line ++ (take fed (buf ++ behind) ++ more)))
    (text_left text after state' number' unfinished (line' ++ more)))
    → ((unfinished : Bool) (more : List ℕ) → state_left after state' unfinished (line' ++ more)
    ≡ state_left after state unfinished (line ++ (take fed (buf ++ behind) ++ more)))
    → IsCut text after start old now left limit state'
cut_at_limit text after start old mid now left b c state state' limit taken number number' line line' {count = count}
    {fed = fed} {buf = buf} {behind = behind} one full past read gave eats owes leaves =
    let tail : List ℕ = drop fed (take count buf) in
    let given : Gave left (prepend_known tail c) (taken + fed)
    (HasAnswered text after start old now state' number' line') =
    gave_fed left b c taken (HasAnswered text after start old mid state number line)
    (HasAnswered text after start old now state' number' line') read gave eats
    (λ front. answered_more text after start old mid now state state' number number' line line'
    (take fed (buf ++ behind)) front owes leaves) in
    let some : 0 < length tail = omega (arith, read.length_left, full, past) in
    record {
      text_is = text_cut text after start old now left c state' limit (taken + fed) number' line' tail full one some
          given;
      state_is = state_cut text after start old now left c state' limit (taken + fed) number' line' tail full one some
          given;
    }
