-- What records that cover leaves say of their first one, and of the two parts behind it.
use Rattle.std.proofs.Common.{◌≡◌, ℕ, ◌+◌, ◌<◌, refl, sym, arith, subst, List, [], ◌∷◌, ◌++◌, length, drop}
use Rattle.fixed_box.specs.declared.shapes.Box3.{Box3}
use Rattle.walk_list.specs.declared.records.Leaf.{Leaf}
use Rattle.walk_list.specs.declared.records.Record.{Record}
use Rattle.walk_list.specs.Covering.{Bounds, Covers, CoversAll, CoversBy, run, fork}

-- what is behind a front
pub drop_front : (xs ys : List Record) → drop (length xs) (xs ++ ys) ≡ ys
drop_front [] ys = refl
drop_front (x ∷ xs) ys = drop_front xs ys

module _ (bounds : Box3 → ℕ → ℕ → Type 0) where
  -- there is a record
  pub covers_some : (rs : List Record) (a b : ℕ) → CoversBy bounds rs a b → 0 < length rs
  covers_some [] a b h = elim h [ ]
  covers_some (r ∷ []) a b (run one end here) = omega arith
  covers_some (r ∷ rs) a b (fork left right middle parts escape end here on_left on_right) = omega arith

  -- the first one ends where the leaves end
  pub covers_end : (r : Record) (rs : List Record) (a b : ℕ) → CoversBy bounds (r ∷ rs) a b → r.end ≡ b
  covers_end r [] a b (run one end here) = end
  covers_end r rs a b (fork left right middle parts escape end here on_left on_right) = end

  -- it leads past all
  pub covers_escape : (r : Record) (rs : List Record) (a b : ℕ) → CoversBy bounds (r ∷ rs) a b →
      r.escape ≡ 1 + length rs
  covers_escape r [] a b (run one end here) = omega arith
  covers_escape r rs a b (fork left right middle parts escape end here on_left on_right) = escape

  -- and its box is as they say
  pub covers_bounds : (r : Record) (rs : List Record) (a b : ℕ) → CoversBy bounds (r ∷ rs) a b → bounds r.fit a b
  covers_bounds r [] a b (run one end here) = here
  covers_bounds r rs a b (fork left right middle parts escape end here on_left on_right) = here

  -- the two parts behind the first record
  pub record Parts (rs : List Record) (a b : ℕ) : Type 0 where
    pub l : Record
    pub ls : List Record
    pub r : Record
    pub rs' : List Record
    pub parts : rs ≡ (l ∷ ls) ++ (r ∷ rs')
    pub on_left : CoversBy bounds (l ∷ ls) a l.end
    pub on_right : CoversBy bounds (r ∷ rs') l.end b

  -- a record that leads past others has two parts
  pub covers_parts : (r : Record) (rs : List Record) (a b : ℕ) → CoversBy bounds (r ∷ rs) a b → 1 < r.escape →
      Parts rs a b
  covers_parts r [] a b (run one end here) many = absurd (omega arith)
  covers_parts r rs a b (fork left right middle parts escape end here on_left on_right) many =
      found left right parts on_left on_right
    where
      found : (left right : List Record) → rs ≡ left ++ right → CoversBy bounds left a middle →
          CoversBy bounds right middle b → Parts rs a b
      found [] right e c d = absurd (omega (arith, covers_some [] a middle c))
      found (l ∷ ls) [] e c d = absurd (omega (arith, covers_some [] middle b d))
      found (l ∷ ls) (x ∷ xs) e c d =
          let end = covers_end l ls a middle c in
          record {
            l = l;
            ls = ls;
            r = x;
            rs' = xs;
            parts = e;
            on_left = subst (λ z. CoversBy bounds (l ∷ ls) a z) (sym end) c;
            on_right = subst (λ z. CoversBy bounds (x ∷ xs) z b) (sym end) d;
          }

-- records that cover leaves cover one at least
pub covers_order : (leaves : List Leaf) (rs : List Record) (a b : ℕ) → CoversBy (Bounds leaves) rs a b → a < b
covers_order leaves [] a b h = elim h [ ]
covers_order leaves (r ∷ []) a b (run one end here) = here.order
covers_order leaves (r ∷ rs) a b (fork left right middle parts escape end here on_left on_right) = here.order

-- records that cover all leaves are a whole list
pub whole_list : (leaves : List Leaf) (rs : List Record) → Covers leaves rs 0 (length leaves) → CoversAll leaves rs
whole_list leaves [] c = absurd (omega (arith, covers_some (Bounds leaves) [] 0 (length leaves) c))
whole_list leaves (r ∷ rs) c = c
