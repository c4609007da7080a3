-- No argument stands twice in uses, just where each has at most one text.
use Rattle.std.proofs.Common.{◌≡◌, ◌∙◌, ap, ◌+◌, ◌≤◌, Bool, true, false, List, [], ◌∷◌, ◌++◌, length, Option, refl, sym, subst, arith}
use Rattle.std.specs.Bool.{Decides}
use Rattle.std.proofs.lemmas.Slice.Eq.{bytes_eq-Decides}
use Rattle.std.proofs.lemmas.List.{append-nil, append_assoc}
use Rattle.clap.specs.Walk.{has_row}
use Rattle.command_line.specs.Parts.{Name}
use Rattle.command_line.specs.Uses.{key_text, Use, rows, seen, fresh}
use Rattle.command_line.proofs.Texts.{texts, same_key, same_self, seen_texts, more_texts, none_first}

-- each argument has at most one text
abbrev pub EachOnce : List Use → Type 0
EachOnce uses = (key : Option Name) → length (texts key uses) ≤ 1

-- each has at most one, too, behind the use of an argument that was not seen
once_more : (uses : List Use) (one : Use) → seen one.0 uses ≡ false → EachOnce uses → EachOnce (uses ++ one ∷ [])
once_more uses one new once key = go (same_key one.0 key) refl
  where
    total : length (texts key (uses ++ one ∷ [])) ≡ length (texts key uses) + length (texts key (one ∷ []))
    total = more_texts key uses (one ∷ [])

    go : (is : Bool) → same_key one.0 key ≡ is → length (texts key (uses ++ one ∷ [])) ≤ 1
    go true known =
        let same : key_text one.0 ≡ key_text key = (bytes_eq-Decides _ _).0 known in
        let unseen : seen key uses ≡ false = ap (λ id. has_row id (rows uses)) (sym same) ∙ new in
        let none : length (texts key uses) ≡ 0
        = (none_first (texts key uses) false (sym (seen_texts key uses) ∙ unseen)).1 refl in
        let single : length (texts key (one ∷ [])) ≡ 1 = rw known refl in
        let sum = total in omega arith
    go false known =
        let zero : length (texts key (one ∷ [])) ≡ 0 = rw known refl in
        let before = once key in
        let sum = total in omega arith

-- an argument that is seen and used again has two texts
seen_twice : (uses later : List Use) (one : Use) → seen one.0 uses ≡ true
    → 2 ≤ length (texts one.0 (uses ++ one ∷ later))
seen_twice uses later one is =
    let front : 1 ≤ length (texts one.0 uses)
    = (none_first (texts one.0 uses) true (sym (seen_texts one.0 uses) ∙ is)).0 refl in
    let back : 1 ≤ length (texts one.0 (one ∷ later)) = rw (same_self one.0) (omega arith) in
    let total = more_texts one.0 uses (one ∷ later) in
    omega arith

-- no argument stands twice, just where each has at most one text
pub fresh_once : (uses later : List Use) → EachOnce uses → Decides (fresh uses later) (EachOnce (uses ++ later))
fresh_once uses [] once = (λ is key. rw (append-nil uses) (once key), λ all. refl)
fresh_once uses (one ∷ later) once = go (seen one.0 uses) refl (fresh_once (uses ++ one ∷ []) later)
  where
    go : (is : Bool) → seen one.0 uses ≡ is
        → (EachOnce (uses ++ one ∷ [])
        → Decides (fresh (uses ++ one ∷ []) later) (EachOnce ((uses ++ one ∷ []) ++ later)))
        → Decides (fresh uses (one ∷ later)) (EachOnce (uses ++ one ∷ later))
    go true is rest = (
      λ new. absurd (let no : false ≡ true = rw is at new in cc),
      λ all. let single = all one.0 in let two = seen_twice uses later one is in absurd (omega arith),
    )
    go false is rest =
        let same : (uses ++ one ∷ []) ++ later ≡ uses ++ one ∷ later = append_assoc uses (one ∷ []) later in
        let both = rest (once_more uses one is once) in
        (λ new. subst EachOnce same (both.0 (rw is at new)), λ all. rw is (both.1 (subst EachOnce (sym same) all)))
