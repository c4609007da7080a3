-- A subtree's records while they are mended: the record of the subtree, and those of its two parts.
use Rattle.std.proofs.Common.{◌≡◌, ℕ, ◌+◌, ◌<◌, ◌≤◌, ◌≢◌, refl, sym, ap, ◌∙◌, arith, subst, List, [], ◌∷◌, ◌++◌, length, drop, take, get_or, set}
use Rattle.std.proofs.Math.Seq.{take-append_seam}
use Rattle.std.proofs.lemmas.List.{get_or_default, length-append}
use Rattle.fixed_box.specs.declared.shapes.Box3.{Box3}
use Rattle.fixed_box.specs.Boxes.{IsLeastBox}
use Rattle.walk_list.specs.declared.records.Leaf.{Leaf}
use Rattle.walk_list.specs.declared.records.Record.{Record}
use Rattle.walk_list.specs.Covering.{Bounds, Covers, CoversBy, run, fork}
use Rattle.walk_list.specs.Records.{record_at, no_record}
use Rattle.walk_list.specs.Stale.{IsMovedBetween, BoundsBut}
use Rattle.walk_list.proofs.Coverings.{drop_front, covers_end, covers_escape, covers_bounds, covers_parts}
use Rattle.walk_list.proofs.Mended.{union_bounds}

-- the first record, as it is read
pub first_read : (rs : List Record) (x : Record) → 0 < length rs → get_or rs 0 x ≡ record_at rs 0
unfolding record_at
first_read rs x some = get_or_default rs 0 x no_record some

-- the records of the two parts, cut apart: the first record, those of the left part, and those of the right one
pub record Halved (leaves : List Leaf) (moved : List ℕ) (rs first on_left on_right : List Record) (left : Record)
    (a b : ℕ) : Type 0 where
  pub own : Record
  pub first_is : first ≡ own ∷ []
  pub own_is : own ≡ record_at rs 0
  pub escape : own.escape ≡ 1 + (length on_left + length on_right)
  pub cut : length rs ≡ 1 + (length on_left + length on_right)
  pub left_some : 0 < length on_left
  pub right_some : 0 < length on_right
  pub left_end : (record_at on_left 0).end ≡ left.end
  pub right_end : (record_at on_right 0).end ≡ b
  pub left_covers : CoversBy (BoundsBut leaves moved) on_left a (record_at on_left 0).end
  pub right_covers : CoversBy (BoundsBut leaves moved) on_right left.end (record_at on_right 0).end
  pub middle : left.end < b

module _ {leaves : List Leaf} {moved : List ℕ} where
  -- there is a leaf
  stale_order : (rs : List Record) (a b : ℕ) → CoversBy (BoundsBut leaves moved) rs a b → a < b
  stale_order [] a b h = elim h [ ]
  stale_order (r ∷ []) a b (run one end here) = here.order
  stale_order (r ∷ rs) a b (fork left right middle parts escape end here on_left on_right) = here.order

  -- where no leaf moved, all is as it was
  pub kept_covers : (rs : List Record) (a b : ℕ) → CoversBy (BoundsBut leaves moved) rs a b →
      (IsMovedBetween moved a b → ⊥) → Covers leaves rs a b
  kept_covers [] a b h none = elim h [ ]
  kept_covers (r ∷ []) a b (run one end here) none = run one end (here.kept none)
  kept_covers (r ∷ rs) a b (fork left right middle parts escape end here on_left on_right) none =
      let low = stale_order left a middle on_left in
      let high = stale_order right middle b on_right in
      fork left right middle parts escape end (here.kept none)
      (kept_covers left a middle on_left (λ (k, lt, l, h). none (k, lt, l, omega (arith, h, high))))
      (kept_covers right middle b on_right (λ (k, lt, l, h). none (k, lt, omega (arith, l, low), h)))

  -- a run with a new box
  pub run_mended : {rs : List Record} {a b : ℕ} {fit : Box3} {own : Record} (x : Record) →
      CoversBy (BoundsBut leaves moved) rs a b → own ≡ get_or rs 0 own → own.escape ≡ 1 →
      Bounds leaves fit a own.end →
      Covers leaves (set rs 0 (record { fit = fit; escape = (get_or rs 0 x).escape; end = (get_or rs 0 x).end })) a b
  run_mended {rs = []} x h read one bounds = elim h [ ]
  run_mended {rs = r ∷ []} {a = a} {b = b} {fit = fit} x h read one bounds =
      let end = covers_end (BoundsBut leaves moved) r [] a b h in
      run (ap (λ (z : Record). z.escape) (sym read) ∙ one) end
      (subst (Bounds leaves fit a) (ap (λ (z : Record). z.end) read ∙ end) bounds)
  run_mended {rs = r ∷ y ∷ rs} {a = a} {b = b} x h read one bounds =
      absurd (omega (
        arith,
        covers_escape (BoundsBut leaves moved) r (y ∷ rs) a b h,
        ap (λ (z : Record). z.escape) read,
      ))

  -- what is known where the records are cut apart: the left part's ends within the list
  pub cut_within : {rs : List Record} {own left : Record} {a b : ℕ} → CoversBy (BoundsBut leaves moved) rs a b →
      own ≡ get_or rs 0 own → own.escape ≢ 1 → left ≡ get_or rs 1 left → 1 + left.escape ≤ length rs
  cut_within {rs = []} h own_read inner read = elim h [ ]
  cut_within {rs = r ∷ rs} {left = left} {a = a} {b = b} h own_read inner read =
      let B = BoundsBut leaves moved in
      let escape = covers_escape B r rs a b h in
      let many : 1 < r.escape = omega (arith, ap (λ (z : Record). z.escape) own_read) in
      let parts = covers_parts B r rs a b h many in
      let is : left ≡ parts.l = read ∙ ap (λ zs. get_or (r ∷ zs) 1 left) parts.parts in
      omega (
        arith,
        ap (λ (z : Record). z.escape) is,
        covers_escape B parts.l parts.ls a parts.l.end parts.on_left,
        ap length parts.parts,
        length-append (parts.l ∷ parts.ls) (parts.r ∷ parts.rs'),
      )

  -- the same, of records that are named
  halved_of : (r : Record) (ls : List Record) (l x : Record) (xs : List Record) (left : Record) (a b : ℕ)
      (front first on_left on_right : List Record) → r.escape ≡ 1 + length ((l ∷ ls) ++ (x ∷ xs)) → r.end ≡ b →
      CoversBy (BoundsBut leaves moved) (l ∷ ls) a l.end → CoversBy (BoundsBut leaves moved) (x ∷ xs) l.end b →
      left ≡ l → front ≡ take (1 + left.escape) (r ∷ ((l ∷ ls) ++ (x ∷ xs))) →
      on_right ≡ drop (1 + left.escape) (r ∷ ((l ∷ ls) ++ (x ∷ xs))) → first ≡ take 1 front → on_left ≡ drop 1 front →
      Halved leaves moved (r ∷ ((l ∷ ls) ++ (x ∷ xs))) first on_left on_right left a b
  unfolding record_at
  halved_of r ls l x xs left a b front first on_left on_right escape end near far is f g p q =
      let B = BoundsBut leaves moved in
      let whole = (r ∷ l ∷ ls) ++ (x ∷ xs) in
      let cut : 1 + left.escape ≡ length (r ∷ l ∷ ls) = omega (
        arith,
        ap (λ (z : Record). z.escape) is,
        covers_escape B l ls a l.end near,
      ) in
      let front_is : front ≡ r ∷ l ∷ ls = f ∙ (ap (λ n. take n whole) cut ∙ take-append_seam (r ∷ l ∷ ls) (x ∷ xs)) in
      let right_is : on_right ≡ x ∷ xs = g ∙ (ap (λ n. drop n whole) cut ∙ drop_front (r ∷ l ∷ ls) (x ∷ xs)) in
      let first_is : first ≡ r ∷ [] = p ∙ ap (take 1) front_is in
      let left_is : on_left ≡ l ∷ ls = q ∙ ap (drop 1) front_is in
      let left_end : left.end ≡ l.end = ap (λ (z : Record). z.end) is in
      let x_end : x.end ≡ b = covers_end B x xs l.end b far in
      let order = stale_order (x ∷ xs) l.end b far in
      let both : length on_left + length on_right ≡ length ((l ∷ ls) ++ (x ∷ xs)) = omega (
        arith,
        ap length left_is,
        ap length right_is,
        length-append (l ∷ ls) (x ∷ xs),
      ) in
      record {
        own = r;
        first_is = first_is;
        own_is = refl;
        escape = omega (arith, escape, both);
        cut = omega (arith, both);
        left_some = omega (arith, ap length left_is);
        right_some = omega (arith, ap length right_is);
        left_end = ap (λ zs. let z : Record = record_at zs 0 in z.end) left_is ∙ sym left_end;
        right_end = ap (λ zs. let z : Record = record_at zs 0 in z.end) right_is ∙ x_end;
        left_covers = subst (λ zs. CoversBy B zs a (record_at zs 0).end) (sym left_is) near;
        right_covers = subst (λ zs. CoversBy B zs left.end (record_at zs 0).end) (sym right_is)
            (subst (λ z. CoversBy B (x ∷ xs) z x.end) (sym left_end)
            (subst (λ z. CoversBy B (x ∷ xs) l.end z) (sym x_end) far));
        middle = omega (arith, order, left_end);
      }

  -- and what is known of them where they were cut apart
  pub halved : {rs : List Record} {own left : Record} {a b : ℕ} {front first on_left on_right : List Record} →
      CoversBy (BoundsBut leaves moved) rs a b → own ≡ get_or rs 0 own → own.escape ≢ 1 → left ≡ get_or rs 1 left →
      front ≡ take (1 + left.escape) rs → on_right ≡ drop (1 + left.escape) rs → first ≡ take 1 front →
      on_left ≡ drop 1 front → Halved leaves moved rs first on_left on_right left a b
  halved {rs = []} h own_read inner read f g p q = elim h [ ]
  halved {rs = r ∷ rs} {own = own} {left = left} {a = a} {b = b} {front = front} {first = first} {on_left = on_left}
      {on_right = on_right} h own_read inner read f g p q =
      let B = BoundsBut leaves moved in
      let escape = covers_escape B r rs a b h in
      let many : 1 < r.escape = omega (arith, ap (λ (z : Record). z.escape) own_read) in
      let parts = covers_parts B r rs a b h many in
      let e = parts.parts in
      subst (λ zs. Halved leaves moved (r ∷ zs) first on_left on_right left a b) (sym e)
      (halved_of r parts.ls parts.l parts.r parts.rs' left a b front first on_left on_right
      (escape ∙ ap (λ zs. 1 + length zs) e) (covers_end B r rs a b h) parts.on_left parts.on_right
      (read ∙ ap (λ zs. get_or (r ∷ zs) 1 left) e) (f ∙ ap (λ zs. take (1 + left.escape) (r ∷ zs)) e)
      (g ∙ ap (λ zs. drop (1 + left.escape) (r ∷ zs)) e) p q)

-- a run's new box is its first record's
pub run_fit : (rs : List Record) (own : Record) → 0 < length rs → own.fit ≡ (record_at (set rs 0 own) 0).fit
unfolding record_at
run_fit [] own some = absurd (omega arith)
run_fit (r ∷ rs) own some = refl

-- the first record's box
pub first_bounds : (leaves : List Leaf) (rs : List Record) (a b : ℕ) → Covers leaves rs a b →
    Bounds leaves (record_at rs 0).fit a b
unfolding record_at
first_bounds leaves [] a b h = elim h [ ]
first_bounds leaves (r ∷ rs) a b h = covers_bounds (Bounds leaves) r rs a b h

module _ {leaves : List Leaf} {moved : List ℕ} {rs first on_left on_right : List Record} {left : Record} {a : ℕ}
    (h : Halved leaves moved rs first on_left on_right left a (record_at rs 0).end) (fit : Box3)
    (new_left new_right : List Record) (x : Record) where
  -- the first record with a new box, then the parts
  abbrev joined : List Record → List Record
  joined zs =
      (set zs 0 (record { fit = fit; escape = (get_or zs 0 x).escape; end = (get_or zs 0 x).end }) ++ new_left)
      ++ new_right

  -- the first record with a new box, and the two parts as they were mended
  pub fork_mended : {near far : Box3} → length new_left ≡ length on_left → length new_right ≡ length on_right →
      Covers leaves new_left a (record_at on_left 0).end → Covers leaves new_right left.end (record_at on_right 0).end →
      near ≡ (record_at new_left 0).fit → far ≡ (record_at new_right 0).fit → IsLeastBox (near ∷ far ∷ []) fit →
      Covers leaves (joined first) a (record_at rs 0).end
  fork_mended {near = near} {far = far} left_long right_long cl cr near_is far_is least =
      let end = (record_at rs 0).end in
      let on_l : Covers leaves new_left a left.end = subst (Covers leaves new_left a) h.left_end cl in
      let on_r : Covers leaves new_right left.end end = subst (Covers leaves new_right left.end) h.right_end cr in
      let bounds = union_bounds leaves near far fit a left.end end
      (subst (λ b. Bounds leaves b a left.end) (sym near_is) (first_bounds leaves new_left a left.end on_l))
      (subst (λ b. Bounds leaves b left.end end) (sym far_is) (first_bounds leaves new_right left.end end on_r))
      least in
      let escape : h.own.escape ≡ 1 + length (new_left ++ new_right) = omega (
        arith,
        h.escape,
        left_long,
        right_long,
        length-append new_left new_right,
      ) in
      subst (λ zs. Covers leaves (joined zs) a end) (sym h.first_is)
      (fork new_left new_right left.end refl escape (ap (λ (z : Record). z.end) h.own_is) bounds on_l on_r)

  -- its box is the new one
  pub joined_fit : fit ≡ (record_at (joined first) 0).fit
  unfolding record_at
  joined_fit = subst (λ zs. fit ≡ (record_at (joined zs) 0).fit) (sym h.first_is) refl
