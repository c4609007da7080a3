-- A shelf of one file: what it holds at a name, and what a fetch from a place gives.
use Rattle.std.proofs.Common.{◌≡◌, ◌≢◌, ◌≤◌, min, Some, None, Bool, true, false, cond, ◌++◌, inl, inr, drop, take, ℕ, length, List, refl, sym, ap, subst, ◌∙◌, arith, nat_cmp}
use Rattle.std.proofs.lemmas.List.{length-drop}
use Rattle.std.proofs.lemmas.Map.Text.{is_eq-slice_cmp}
use Rattle.std.proofs.lemmas.Slice.Eq.{bytes_eq-Decides}
use Rattle.std.proofs.lemmas.Bool.{cases_lt}
use Rattle.std.proofs.Math.ListN.{drop_of_length-le}
use Rattle.std.specs.Bool.{Decides}
use Rattle.std.specs.Str.{bytes_eq}
use Rattle.std.specs.FinMap.{empty, get, get-insert, get-empty}
use Rattle.std.specs.Cmp.Lexicographic.{slice_cmp, nat_list_cmp_total}
use Rattle.outside.specs.Files.{FetchGives}
use Rattle.outside.specs.Fakes.{FakeShelf, files_of}
use Rattle.outside.proofs.Pieces.{take-piece}

-- the file at a name, by a test of the name
get-files_of : (shelf : FakeShelf) (q : List ℕ)
    → get (files_of shelf) q ≡ cond (bytes_eq q shelf.name) (Some shelf.bytes) None
get-files_of shelf q =
    get-insert nat_list_cmp_total empty shelf.name shelf.bytes q
    ∙ ap (λ b. cond b (Some shelf.bytes) (get (empty {X = List ℕ} {R = slice_cmp nat_cmp}) q))
    (is_eq-slice_cmp q shelf.name)
    ∙ ap (cond (bytes_eq q shelf.name) (Some shelf.bytes)) (get-empty {X = List ℕ} (slice_cmp nat_cmp) q)

-- another name is not held
pub other_is_absent : (shelf : FakeShelf) (q : List ℕ) → q ≢ shelf.name → get (files_of shelf) q ≡ None
other_is_absent shelf q ne = get-files_of shelf q ∙ other (bytes_eq q shelf.name) (bytes_eq-Decides q shelf.name)
  where
    other : (b : Bool) → Decides b (q ≡ shelf.name) → cond b (Some shelf.bytes) None ≡ None
    other true d = absurd (ne (d.0 refl))
    other false d = refl

-- the name of the file gives it
pub name_is_held : (shelf : FakeShelf) (q : List ℕ) → q ≡ shelf.name → get (files_of shelf) q ≡ Some shelf.bytes
name_is_held shelf q e = get-files_of shelf q ∙ same (bytes_eq q shelf.name) (bytes_eq-Decides q shelf.name)
  where
    same : (b : Bool) → Decides b (q ≡ shelf.name) → cond b (Some shelf.bytes) None ≡ Some shelf.bytes
    same true d = refl
    same false d = let no : false ≡ true = d.1 e in cc

-- so it is not absent
pub held_is_not_absent : (shelf : FakeShelf) (q : List ℕ) → q ≡ shelf.name → get (files_of shelf) q ≡ None → ⊥
held_is_not_absent shelf q e none = let held : get (files_of shelf) q ≡ Some shelf.bytes = name_is_held shelf q e in cc

-- a place that is brought to the file's end leaves the same bytes
drop-min : (file : List ℕ) (at start : ℕ) → start ≡ min at (length file) → drop start file ≡ drop at file
drop-min file at start s = elim (cases_lt at (length file)) [
  | inl below ↦ let e : start ≡ at = omega arith in ap (λ k. drop k file) e
  | inr past ↦
      let low : length file ≤ start = omega arith in
      drop_of_length-le file low ∙ sym (drop_of_length-le file past)
]

-- what a copy of the file's bytes from a place on left in the buffer is what a fetch gives
pub copy_is_fetched : (shelf : FakeShelf) (q front back : List ℕ) (at start n : ℕ) → q ≡ shelf.name
    → start ≡ min at (length shelf.bytes)
    → front ≡ take n (drop start shelf.bytes) → n ≤ length (drop start shelf.bytes)
    → (n ≡ 0 → length (drop start shelf.bytes) ≡ 0)
    → FetchGives (get (files_of shelf) q) at n (take n (front ++ back))
copy_is_fetched shelf q front back at start n same from is fits none =
    let file = shelf.bytes in
    subst (λ held. FetchGives held at n (take n (front ++ back))) (sym (name_is_held shelf q same)) record {
      bytes = take-piece n (drop start file) front back fits is ∙ ap (take n) (drop-min file at start from);
      end = λ zero. omega (arith, none zero, length-drop start file);
      past = λ high. omega (arith, high, fits, from, length-drop start file);
    }
