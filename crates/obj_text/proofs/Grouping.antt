-- Names that are grouped one after another.
use Rattle.std.proofs.Common.{◌≡◌, ℕ, ◌+◌, ◌<◌, ◌≤◌, Bool, true, false, List, [], ◌∷◌, ◌++◌, ◌||◌, cond, nat_lt, not, map, suc, zero, length, length-append, refl, sym, ap, subst, ◌∙◌, append_assoc, append-nil, arith}
use Rattle.std.specs.Prelude.{replicate, nat_eq}
use Rattle.std.specs.Str.{bytes_eq}
use Rattle.std.specs.List.{All, list_any, position_or_len}
use Rattle.std.proofs.lemmas.List.{map-append, length-map, length-replicate}
use Rattle.std.proofs.lemmas.List.Elements.{All-cons, All-nil, All-head, All-tail, All-append, All-replicate}
use Rattle.std.proofs.lemmas.List.Folds.{position_or_len_push}
use Rattle.std.proofs.lemmas.Bool.{or_right}
use Rattle.std.proofs.lemmas.Bool.Decides.{nat_tests}
use Rattle.obj_text.specs.Groups.{first_seen, places_in, with_name}
use Rattle.obj_text.specs.Steps.{groups_with}
use Rattle.obj_text.proofs.FirstSeen.{same_name, first_seen-push}
use Rattle.obj_text.specs.Meshes.{IsPlaceIn}

-- a place behind one more name is within, by whether it is that one
place_by : (k seen : Bool) (n size : ℕ) → k || seen ≡ true → (seen ≡ true → n < size)
    → cond (not k) (1 + n) 0 < suc size
place_by true seen n size e f = omega arith
place_by false true n size e f = omega (arith, f refl)
place_by false false n size e f = absurd (cc)

-- the place of a name that is there
place_of_seen : (p : List ℕ → Bool) (names : List (List ℕ)) → list_any p names ≡ true
    → position_or_len p names < length names
place_of_seen p [] e = absurd (cc)
place_of_seen p (x ∷ names) e =
    place_by (p x) (list_any p names) (position_or_len p names) (length names) e (place_of_seen p names)

-- some name is found where the last is
any_last : (p : List ℕ → Bool) (names : List (List ℕ)) (y : List ℕ) → p y ≡ true → list_any p (names ++ y ∷ []) ≡ true
any_last p [] y e = ap (λ k. k || false) e
any_last p (x ∷ names) y e = or_right (p x) (list_any p (names ++ y ∷ [])) (any_last p names y e)

-- a name is there once it is put behind those among which it is not
seen_by : (k : Bool) (names : List (List ℕ)) (y : List ℕ) → list_any (bytes_eq y) names ≡ k
    → list_any (bytes_eq y) (cond k names (names ++ y ∷ [])) ≡ true
seen_by true names y e = e
seen_by false names y e = any_last (bytes_eq y) names y (same_name y)

-- a name is there once it is put there
pub now_seen : (names : List (List ℕ)) (y : List ℕ) → list_any (bytes_eq y) (with_name names y) ≡ true
now_seen names y = seen_by (list_any (bytes_eq y) names) names y refl

-- and it is put there once
with_name_again : (names : List (List ℕ)) (y : List ℕ) → with_name (with_name names y) y ≡ with_name names y
with_name_again names y =
    ap (λ k. cond k (with_name names y) (with_name names y ++ y ∷ [])) (now_seen names y)

-- the same, by whether the name was there
grown_by : (k : Bool) (names : List (List ℕ)) (y : List ℕ)
    → length names ≤ length (cond k names (names ++ y ∷ []))
grown_by true names y = omega arith
grown_by false names y = omega (arith, length-append names (y ∷ []))

-- no fewer names are there with one put there
more_names : (names : List (List ℕ)) (y : List ℕ) → length names ≤ length (with_name names y)
more_names names y = grown_by (list_any (bytes_eq y) names) names y

-- the same, by whether the name was there
pushed_by : (k : Bool) (p : List ℕ → Bool) (names : List (List ℕ)) (y : List ℕ)
    → position_or_len p names < length names
    → position_or_len p (cond k names (names ++ y ∷ [])) ≡ position_or_len p names
pushed_by true p names y few = refl
pushed_by false p names y few =
    let place = position_or_len p names in
    let within : nat_eq place (length names) ≡ false = grind (arith, nat_tests, few) in
    position_or_len_push p names y ∙ ap (λ k. cond k (length names + cond (p y) 0 1) place) within

-- a name that is there keeps its place
place_stays : (p : List ℕ → Bool) (names : List (List ℕ)) (y : List ℕ) → position_or_len p names < length names
    → position_or_len p (with_name names y) ≡ position_or_len p names
place_stays p names y few = pushed_by (list_any (bytes_eq y) names) p names y few

-- names that are there keep their places
places_stay : (groups : List (List ℕ)) (y : List ℕ) (names : List (List ℕ))
    → All (IsPlaceIn (length groups)) (places_in groups names)
    → places_in (with_name groups y) names ≡ places_in groups names
places_stay groups y [] all = refl
places_stay groups y (x ∷ names) all =
    let place = position_or_len (bytes_eq x) groups in
    let few = All-head (IsPlaceIn (length groups)) place (places_in groups names) all in
    ap (λ k. k ∷ places_in (with_name groups y) names) (place_stays (bytes_eq x) groups y few)
    ∙ ap (λ k. place ∷ k) (places_stay groups y names (All-tail (IsPlaceIn (length groups)) place
    (places_in groups names) all))

-- what is made of equal names is equal
pub map_replicate : {A B : Type 0} (f : A → B) (n : ℕ) (y : A) → map f (replicate n y) ≡ replicate n (f y)
map_replicate f zero y = refl
map_replicate f (suc n) y = ap (λ k. f y ∷ k) (map_replicate f n y)

-- of equal names behind others one is put there
seen_more : (n : ℕ) (names : List (List ℕ)) (y : List ℕ)
    → first_seen (names ++ replicate (suc n) y) ≡ with_name (first_seen names) y
seen_more zero names y = first_seen-push names y
seen_more (suc n) names y =
    ap first_seen (sym (append_assoc names (y ∷ []) (replicate (suc n) y)))
    ∙ seen_more n (names ++ y ∷ []) y
    ∙ ap (λ k. with_name k y) (first_seen-push names y)
    ∙ with_name_again (first_seen names) y

-- places among some names are places among more
wider : (n m : ℕ) (places : List ℕ) → n ≤ m → All (IsPlaceIn n) places → All (IsPlaceIn m) places
wider n m [] p all = All-nil (IsPlaceIn m)
wider n m (k ∷ places) p all =
    let few : k < n = All-head (IsPlaceIn n) k places all in
    All-cons (IsPlaceIn m) k places (omega (arith, p, few)) (wider n m places p (All-tail (IsPlaceIn n) k places all))

-- the groups and the group of each face, where these are the faces' names
pub record IsGrouped (names groups : List (List ℕ)) (group_of : List ℕ) : Type 0 where
  pub groups_are : groups ≡ first_seen names
  pub places : group_of ≡ places_in groups names
  pub within : All (IsPlaceIn (length groups)) group_of
  pub few : length groups ≤ length group_of

-- at most one name is put there
few_more : (k : Bool) (groups : List (List ℕ)) (y : List ℕ)
    → length (cond k groups (groups ++ y ∷ [])) ≤ length groups + 1
few_more true groups y = omega arith
few_more false groups y = omega (arith, length-append groups (y ∷ []))

-- faces of one name more are grouped
more_grouped : (names groups : List (List ℕ)) (group_of : List ℕ) (n : ℕ) (y : List ℕ)
    → IsGrouped names groups group_of
    → IsGrouped (names ++ replicate (suc n) y) (with_name groups y)
    (group_of ++ replicate (suc n) (position_or_len (bytes_eq y) (with_name groups y)))
more_grouped names groups group_of n y g =
    let now = with_name groups y in
    let place = position_or_len (bytes_eq y) now in
    let new = replicate (suc n) y in
    let stay = places_stay groups y names (subst (All (IsPlaceIn (length groups))) g.places g.within) in
    record {
      groups_are = ap (λ k. with_name k y) g.groups_are ∙ sym (seen_more n names y);
      places = ap (λ k. k ++ replicate (suc n) place) (g.places ∙ sym stay)
          ∙ ap (λ k. places_in now names ++ k)
          (sym (map_replicate (λ name. position_or_len (bytes_eq name) now) (suc n) y))
          ∙ sym (map-append (λ name. position_or_len (bytes_eq name) now) names new);
      within = All-append (IsPlaceIn (length now)) group_of (replicate (suc n) place)
          (wider (length groups) (length now) group_of (more_names groups y) g.within)
          (All-replicate (IsPlaceIn (length now)) (suc n) place (place_of_seen (bytes_eq y) now (now_seen groups y)));
      few = omega (
        arith,
        g.few,
        few_more (list_any (bytes_eq y) groups) groups y,
        length-append group_of (replicate (suc n) place),
        length-replicate (suc n) place,
      );
    }

-- so many faces of one name more
pub faces_grouped : (names groups : List (List ℕ)) (group_of : List ℕ) (faces : ℕ) (name : List ℕ)
    → IsGrouped names groups group_of
    → IsGrouped (names ++ replicate faces name) (groups_with groups name faces)
    (group_of ++ replicate faces (position_or_len (bytes_eq name) (groups_with groups name faces)))
faces_grouped names groups group_of zero name g =
    subst (λ k. IsGrouped k groups (group_of ++ [])) (sym (append-nil names))
    (subst (IsGrouped names groups) (sym (append-nil group_of)) g)
faces_grouped names groups group_of (suc n) name g =
    let some : nat_lt 0 (suc n) ≡ true = grind (arith, nat_tests) in
    let grouped = λ (k : Bool). IsGrouped (names ++ replicate (suc n) name) (cond k (with_name groups name) groups)
    (group_of ++ replicate (suc n) (position_or_len (bytes_eq name) (cond k (with_name groups name) groups))) in
    subst grouped (sym some) (more_grouped names groups group_of n name g)

-- each name has its group
pub length-grouped : (names groups : List (List ℕ)) (group_of : List ℕ) → IsGrouped names groups group_of
    → length group_of ≡ length names
length-grouped names groups group_of g = ap (λ k. length k) g.places ∙ length-map names _
