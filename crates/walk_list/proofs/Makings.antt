-- How the parts of a list of records come together.
use Rattle.std.proofs.Common.{◌≡◌, ℕ, ◌+◌, ◌-◌, ◌*◌, ◌<◌, refl, sym, ap, ◌∙◌, arith, subst, List, [], ◌∷◌, ◌++◌, length, set}
use Rattle.std.proofs.lemmas.List.{length-append}
use Rattle.fixed_box.specs.declared.shapes.Box3.{Box3}
use Rattle.walk_list.specs.declared.records.Leaf.{Leaf}
use Rattle.walk_list.specs.declared.records.Record.{Record}
use Rattle.walk_list.specs.Covering.{Bounds, Covers, CoversAll, run, fork}
use Rattle.walk_list.specs.Parts.{IsPart}
use Rattle.walk_list.proofs.Coverings.{whole_list}

-- the record that was put before two parts, written again
set_own : (old l r : List Record) (blank own : Record) →
    set (((old ++ blank ∷ []) ++ l) ++ r) (length old) own ≡ old ++ own ∷ (l ++ r)
set_own [] l r blank own = refl
set_own (x ∷ old) l r blank own = ap (λ xs. x ∷ xs) (set_own old l r blank own)

-- a run is a part
pub run_part : (leaves : List Leaf) (fit : Box3) (a e : ℕ) (before after : List Record) → Bounds leaves fit a e →
    a < e → after ≡ before ++ record { fit = fit; escape = 1; end = e } ∷ [] → IsPart leaves a e before after
run_part leaves fit a e before after b lt grown = record {
  part = record { fit = fit; escape = 1; end = e } ∷ [];
  grown = grown;
  some = omega arith;
  few = omega arith;
  covers = run refl refl b;
}

-- what is known at an inner node while its parts are listed
module _ (leaves : List Leaf) (fit : Box3) (a s e : ℕ) (bounds : Bounds leaves fit a e) (blank : Record)
    (before first second third : List Record)
    (pushed : first ≡ before ++ blank ∷ [])
    (on_left : IsPart leaves a s first second) (on_right : IsPart leaves s e second third)
    (low : a < s) (high : s < e) where
  -- the list is what stood, the node's own record, and the parts
  whole : third ≡ ((before ++ blank ∷ []) ++ on_left.part) ++ on_right.part
  whole = on_right.grown ∙ ap (λ xs. xs ++ on_right.part)
      (on_left.grown ∙ ap (λ xs. xs ++ on_left.part) pushed)

  -- and so long
  pub long : length third ≡ length before + 1 + length on_left.part + length on_right.part
  long = omega (
    arith,
    ap length whole,
    length-append ((before ++ blank ∷ []) ++ on_left.part) on_right.part,
    length-append (before ++ blank ∷ []) on_left.part,
    length-append before (blank ∷ []),
  )

  -- there are fewer than two records a leaf
  pub few_below : length third - length before < 2 * (e - a)
  few_below = omega (arith, long, on_left.few, on_right.few)

  -- the node's own record is one of them
  pub own_inside : length before < length third
  own_inside = omega (arith, long)

  -- the node's own record, with the parts below it, is a part
  pub fork_part : (escape : ℕ) → escape ≡ length third - length before →
      IsPart leaves a e before (set third (length before) (record { fit = fit; escape = escape; end = e }))
  fork_part escape is =
      let own : Record = record { fit = fit; escape = escape; end = e } in
      let both = on_left.part ++ on_right.part in
      let count : length both ≡ length on_left.part + length on_right.part =
      length-append on_left.part on_right.part in
      record {
        part = own ∷ both;
        grown = ap (λ xs. set xs (length before) own) whole
            ∙ set_own before on_left.part on_right.part blank own;
        some = omega arith;
        few = omega (arith, on_left.few, on_right.few);
        covers = fork on_left.part on_right.part s refl (omega (arith, long, count)) refl bounds on_left.covers
            on_right.covers;
      }

-- the records of all leaves are a whole list
pub whole_covers : (leaves : List Leaf) (e : ℕ) (before after : List Record) → IsPart leaves 0 e before after →
    before ≡ [] → e ≡ length leaves → CoversAll leaves after
whole_covers leaves e before after p empty end =
    subst (CoversAll leaves) (sym (p.grown ∙ ap (λ xs. xs ++ p.part) empty))
    (whole_list leaves p.part (subst (λ z. Covers leaves p.part 0 z) end p.covers))

-- and where there is no leaf, no record is one
pub empty_covers : (leaves : List Leaf) (rs : List Record) → length leaves ≡ 0 → rs ≡ [] → CoversAll leaves rs
empty_covers leaves rs no_leaves e = subst (CoversAll leaves) (sym e) no_leaves
