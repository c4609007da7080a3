-- Flags and a list of marked vertices, while one more is marked and when none is.
use Rattle.std.proofs.Common.{◌≡◌, ℕ, suc, ◌<◌, ◌≤◌, Bool, true, false, cond, inl, inr, refl, sym, ap, ◌∙◌, arith, subst, List, [], ◌∷◌, ◌++◌, length, get_or, set, All}
use Rattle.std.specs.Prelude.{count_by, Vec}
use Rattle.std.specs.List.{Contains}
use Rattle.std.specs.Vec.{vec_capacity}
use Rattle.std.specs.declared.alloc.Global.{Global}
use Rattle.std.proofs.Math.ListN.{length-set}
use Rattle.std.proofs.lemmas.Bool.{cases_eq, false≢true}
use Rattle.std.proofs.lemmas.List.{get_or-set_same, get_or-set_other, length-append}
use Rattle.std.proofs.lemmas.List.Elements.{All-push, All-weaker, Contains-push, Contains-append_left}
use Rattle.std.proofs.lemmas.List.Sums.{sum_by-set, sum_by-cons, count_by-le-length}
use Rattle.world_index.specs.Marks.{IsMarking}

-- what a flag counts
abbrev weight : Bool → ℕ
weight flag = cond flag 1 0

-- an unflagged vertex leaves room: fewer are flagged than there are
pub one_is_not : (flags : List Bool) (v : ℕ) → v < length flags → get_or flags v false ≡ false →
    count_by (λ flag. flag) flags < length flags
one_is_not flags v lt off =
    let raised = sum_by-set weight flags v true false lt in
    let none : weight (get_or flags v false) ≡ 0 = ap weight off in
    let most = count_by-le-length (λ flag. flag) (set flags v true) in
    omega (arith, raised, none, most, length-set flags v true)

-- no flag is counted where none is up
pub none_counted : (flags : List Bool) → ((v : ℕ) → get_or flags v false ≡ false) → count_by (λ flag. flag) flags ≡ 0
none_counted [] off = refl
none_counted (flag ∷ flags) off =
    let here : weight flag ≡ 0 = ap weight (off 0) in
    let rest = none_counted flags (λ v. off (suc v)) in
    omega (arith, sum_by-cons weight flag flags, here, rest)

-- one more is marked
pub marked_more : (flags : List Bool) (list new : Vec ℕ Global) (v : ℕ) → IsMarking flags list → v < length flags →
    get_or flags v false ≡ false → new.items ≡ list.items ++ v ∷ [] → vec_capacity list ≤ vec_capacity new →
    IsMarking (set flags v true) new
marked_more flags list new v old lt off items capacity =
    let raised = sum_by-set weight flags v true false lt in
    let none : weight (get_or flags v false) ≡ 0 = ap weight off in
    record {
      within = subst (All (λ u. u < length (set flags v true))) (sym items)
          (All-push (λ u. u < length (set flags v true)) list.items v
          (All-weaker (λ u. u < length flags) (λ u. u < length (set flags v true))
          (λ u below. omega (arith, below, length-set flags v true)) list.items old.within)
          (omega (arith, lt, length-set flags v true)));
      flagged = subst (All (λ u. get_or (set flags v true) u false ≡ true)) (sym items)
          (All-push (λ u. get_or (set flags v true) u false ≡ true) list.items v
          (All-weaker (λ u. get_or flags u false ≡ true) (λ u. get_or (set flags v true) u false ≡ true)
          (λ u up. elim (cases_eq u v) [
            | inl e ↦ subst (λ w. get_or (set flags v true) w false ≡ true) (sym e)
                (get_or-set_same flags v true false lt)
            | inr ne ↦ get_or-set_other flags v u true false ne ∙ up
          ]) list.items old.flagged)
          (get_or-set_same flags v true false lt));
      listed = λ u up. subst (λ xs. Contains xs u) (sym items) (elim (cases_eq u v) [
        | inl e ↦ subst (Contains (list.items ++ v ∷ [])) (sym e) (Contains-push list.items v)
        | inr ne ↦ Contains-append_left list.items (v ∷ []) u
            (old.listed u (sym (get_or-set_other flags v u true false ne) ∙ up))
      ]);
      each_once = omega (
        arith,
        raised,
        none,
        old.each_once,
        ap length items,
        length-append list.items (v ∷ []),
      );
      room = omega (arith, length-set flags v true, old.room, capacity);
    }

-- none is marked
pub marked_none : (flags : List Bool) (list : Vec ℕ Global) → list.items ≡ [] → length flags ≤ vec_capacity list →
    ((v : ℕ) → get_or flags v false ≡ false) → IsMarking flags list
marked_none flags list items room off = record {
  within = subst (All (λ u. u < length flags)) (sym items) (λ k d lt. absurd (omega arith));
  flagged = subst (All (λ u. get_or flags u false ≡ true)) (sym items) (λ k d lt. absurd (omega arith));
  listed = λ u up. absurd (false≢true (sym (off u) ∙ up));
  each_once = none_counted flags off ∙ sym (ap length items);
  room = room;
}
