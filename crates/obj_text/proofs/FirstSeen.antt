-- Different names in the order in which each stands first, when one name more follows.
use Rattle.std.proofs.Common.{◌≡◌, ℕ, Bool, true, false, List, [], ◌∷◌, ◌++◌, ◌||◌, cond, not, filter, refl, sym, ap, ◌∙◌, append-nil}
use Rattle.std.specs.Str.{bytes_eq}
use Rattle.std.specs.List.{list_any}
use Rattle.std.proofs.lemmas.List.Elements.{filter-append}
use Rattle.std.specs.Cmp.Lexicographic.{bytes_decides}
use Rattle.obj_text.specs.Groups.{first_seen, with_name}

-- names that a test takes as equal are equal
equal_names : (x y : List ℕ) → bytes_eq x y ≡ true → x ≡ y
equal_names x y e = (bytes_decides x y).0 e

-- a name is equal to itself
pub same_name : (x : List ℕ) → bytes_eq x x ≡ true
same_name x = (bytes_decides x x).1 refl

-- the same the other way round, by that test
not_same_by : (k : Bool) (x y : List ℕ) → bytes_eq x y ≡ k → bytes_eq y x ≡ false → k ≡ false
not_same_by false x y e f = refl
not_same_by true x y e f =
    let same : bytes_eq y x ≡ true = ap (λ k. bytes_eq k x) (sym (equal_names x y e)) ∙ same_name x in
    absurd (cc)

-- names that differ do so either way
not_same : (x y : List ℕ) → bytes_eq y x ≡ false → bytes_eq x y ≡ false
not_same x y e = not_same_by (bytes_eq x y) x y refl e

-- a name that was dropped is not the one that is looked for
any_by : (k m : Bool) (z y : List ℕ) (names : List (List ℕ)) (kept : List (List ℕ)) → bytes_eq y z ≡ m
    → (k ≡ true → m ≡ false) → list_any (bytes_eq y) kept ≡ list_any (bytes_eq y) names
    → list_any (bytes_eq y) (cond (not k) (z ∷ kept) kept) ≡ (bytes_eq y z || list_any (bytes_eq y) names)
any_by true m z y names kept e f g = g ∙ sym (ap (λ b. b || list_any (bytes_eq y) names) (e ∙ f refl))
any_by false m z y names kept e f g = ap (λ b. bytes_eq y z || b) g

-- a name that differs from one differs from its equals
differs : (x y z : List ℕ) → bytes_eq y x ≡ false → bytes_eq x z ≡ true → bytes_eq y z ≡ false
differs x y z e f = ap (bytes_eq y) (sym (equal_names x z f)) ∙ e

-- looking for another name, it does not matter that those equal to a name are left out
any_other : (x y : List ℕ) (names : List (List ℕ)) → bytes_eq y x ≡ false
    → list_any (bytes_eq y) (filter (λ other. not (bytes_eq x other)) names) ≡ list_any (bytes_eq y) names
any_other x y [] e = refl
any_other x y (z ∷ names) e =
    any_by (bytes_eq x z) (bytes_eq y z) z y names (filter (λ other. not (bytes_eq x other)) names) refl
    (differs x y z e) (any_other x y names e)

-- the names that are not a name
abbrev others : List ℕ → List (List ℕ) → List (List ℕ)
others x names = filter (λ other. not (bytes_eq x other)) names

-- of one other name that name is left, or none
kept_by : (k : Bool) (x y : List ℕ) → bytes_eq x y ≡ k → others x (y ∷ []) ≡ cond k [] (y ∷ [])
kept_by true x y e = ap (λ k. cond (not k) (y ∷ []) []) e
kept_by false x y e = ap (λ k. cond (not k) (y ∷ []) []) e

-- a first name and the others, if the name that follows is one of these, else that name behind them
abbrev placed : List ℕ → List ℕ → List (List ℕ) → Bool → List (List ℕ)
placed x y names seen = cond seen (x ∷ others x names) (x ∷ (others x names ++ y ∷ []))

-- a first name and one that is put behind the others
onto_first_by : (same seen : Bool) (x y : List ℕ) (names : List (List ℕ)) → bytes_eq y x ≡ same
    → list_any (bytes_eq y) names ≡ seen
    → x ∷ others x (cond seen names (names ++ y ∷ []))
    ≡ placed x y names (bytes_eq y x || list_any (bytes_eq y) (others x names))
onto_first_by true true x y names e f =
    sym (ap (λ k. placed x y names (k || list_any (bytes_eq y) (others x names))) e)
onto_first_by true false x y names e f =
    let same : bytes_eq x y ≡ true = ap (λ k. bytes_eq x k) (equal_names y x e) ∙ same_name x in
    ap (λ k. x ∷ k) (filter-append (λ other. not (bytes_eq x other)) names (y ∷ [])
    ∙ ap (λ k. others x names ++ k) (kept_by true x y same) ∙ append-nil (others x names))
    ∙ sym (ap (λ k. placed x y names (k || list_any (bytes_eq y) (others x names))) e)
onto_first_by false true x y names e f =
    sym (ap (λ k. placed x y names (k || list_any (bytes_eq y) (others x names))) e
    ∙ ap (placed x y names) (any_other x y names e ∙ f))
onto_first_by false false x y names e f =
    let other : bytes_eq x y ≡ false = not_same x y e in
    ap (λ k. x ∷ k) (filter-append (λ o. not (bytes_eq x o)) names (y ∷ [])
    ∙ ap (λ k. others x names ++ k) (kept_by false x y other))
    ∙ sym (ap (λ k. placed x y names (k || list_any (bytes_eq y) (others x names))) e
    ∙ ap (placed x y names) (any_other x y names e ∙ f))

-- one name more
pub first_seen-push : (names : List (List ℕ)) (y : List ℕ)
    → first_seen (names ++ y ∷ []) ≡ with_name (first_seen names) y
first_seen-push [] y = refl
first_seen-push (x ∷ names) y =
    ap (λ k. x ∷ others x k) (first_seen-push names y)
    ∙ onto_first_by (bytes_eq y x) (list_any (bytes_eq y) (first_seen names)) x y (first_seen names) refl refl
