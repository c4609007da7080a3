-- What stands after leaves moved.
use Rattle.std.proofs.Common.{◌≡◌, ℕ, ◌-◌, ◌<◌, refl, sym, ap, ◌∙◌, arith, inl, inr, subst, List, [], ◌∷◌, ◌++◌, length, get_or, set, All, ◌⊎◌, ◌^◌}
use Rattle.std.specs.Prelude.{Contains}
use Rattle.std.proofs.lemmas.Bool.{cases_eq}
use Rattle.std.proofs.lemmas.List.{get_or_default, get_or-set_same, get_or-set_other, length-set, ext_get_or, get_or-map, length-map}
use Rattle.std.proofs.lemmas.List.Elements.{All-get_or, Contains-append_left, Contains-push, Contains-push_cases, at_from_Contains}
use Rattle.fixed_box.specs.declared.shapes.Box3.{Box3}
use Rattle.fixed_box.specs.Boxes as box
use Rattle.fixed_box.specs.World.{BoxInWorld}
use Rattle.morton_key.specs.Keys.{key_at, tri_at}
use Rattle.morton_key.specs.declared.keys.Key.{Key}
use Rattle.radix_tree.specs.Fit.{box_of_triangle}
use Rattle.radix_tree.specs.Table.{no_box}
use Rattle.traversal.proofs.Approaches.{read_in_world}
use Rattle.walk_list.specs.declared.records.Leaf.{Leaf}
use Rattle.walk_list.specs.declared.records.Record.{Record}
use Rattle.walk_list.specs.Leaves.{leaf_of, leaves_of, leaf_at, no_leaf}
use Rattle.walk_list.specs.Covering.{Bounds, Covers, CoversBy, run, fork}
use Rattle.walk_list.specs.Lists.{Contents, IsOver}
use Rattle.walk_list.specs.Moving.{AreOverBut}
use Rattle.walk_list.specs.Stale.{BoundsBut, AreInWorld, HaveBoxes, IsFitTo, Moves}

-- no position moved
pub moves_none : (boxes : List Box3) (leaves : List Leaf) → Moves boxes [] leaves leaves
moves_none boxes leaves = record {
  count = refl;
  numbers = λ p. refl;
  fits = λ p h. absurd (omega (arith, (at_from_Contains [] p h).1));
  kept = λ p. inl refl;
}

-- a leaf that is read at a position: its number is that of a box, which is read as its triangle's
pub record LeafRead (leaves : List Leaf) (boxes : List Box3) (p : ℕ) (x : Leaf) : Type 0 where
  pub within : p < length leaves
  pub is : x ≡ leaf_at leaves p
  pub from_one : 0 < x.number
  pub inside : x.number - 1 < length boxes
  pub own : {b : Box3} → b ≡ get_or boxes (x.number - 1) b → b ≡ box_of_triangle boxes x.number

-- so it is where each leaf's number is that of a box
pub leaf_read : {leaves : List Leaf} {boxes : List Box3} {x : Leaf} (p : ℕ) (y : Leaf) → HaveBoxes leaves boxes →
    p < length leaves → x ≡ get_or leaves p y → LeafRead leaves boxes p x
unfolding leaf_at box_of_triangle
leaf_read {leaves = leaves} {boxes = boxes} {x = x} p y have lt read =
    let is : x ≡ leaf_at leaves p = read ∙ get_or_default leaves p y no_leaf lt in
    let number : x.number ≡ (leaf_at leaves p).number = ap (λ (l : Leaf). l.number) is in
    let inside : x.number - 1 < length boxes = omega (arith, number, have.from_one p lt, have.to_count p lt) in
    record {
      within = lt;
      is = is;
      from_one = omega (arith, number, have.from_one p lt);
      inside = inside;
      own = λ {b} e. e ∙ get_or_default boxes (x.number - 1) b no_box inside;
    }

-- and after some leaves moved, at the next position that is listed
pub next_read : {boxes : List Box3} {seen : List ℕ} {before now : List Leaf} (moved : List ℕ) (i : ℕ) (y : Leaf) →
    Moves boxes seen before now → HaveBoxes before boxes → All (λ p. p < length before) moved → i < length moved →
    LeafRead now boxes (get_or moved i 0) (get_or now (get_or moved i 0) y)
next_read {boxes = boxes} {before = before} {now = now} moved i y m have within lt =
    let have_now : HaveBoxes now boxes = record {
      from_one = λ p l. omega (arith, m.numbers p, have.from_one p (omega (arith, m.count, l)));
      to_count = λ p l. omega (arith, m.numbers p, have.to_count p (omega (arith, m.count, l)));
    } in
    let here = All-get_or (λ p. p < length before) moved i 0 lt within in
    leaf_read (get_or moved i 0) y have_now (omega (arith, here, m.count)) refl

module _ {boxes : List Box3} {seen : List ℕ} {before now : List Leaf} {q : ℕ} {x : Leaf} (y : Leaf)
    (m : Moves boxes seen before now) (r : LeafRead now boxes q x) (y_number : y.number ≡ x.number)
    (y_fit : y.fit ≡ get_or boxes (x.number - 1) y.fit) where
  -- the leaf that is written stands at its position
  here : (p : ℕ) → p ≡ q → leaf_at (set now q y) p ≡ y
  unfolding leaf_at
  here p e = ap (λ i. get_or (set now q y) i no_leaf) e ∙ get_or-set_same now q y no_leaf r.within

  -- and the others stand where they stood
  elsewhere : (p : ℕ) → (p ≡ q → ⊥) → leaf_at (set now q y) p ≡ leaf_at now p
  unfolding leaf_at
  elsewhere p ne = get_or-set_other now q p y no_leaf ne

  -- it has the box of its triangle
  own_fit : IsFitTo boxes y
  own_fit = r.own y_fit ∙ ap (box_of_triangle boxes) (sym y_number)

  -- one more position moved
  pub moves_more : Moves boxes (seen ++ q ∷ []) before (set now q y)
  moves_more = record {
    count = length-set now q y ∙ m.count;
    numbers = λ p. elim (cases_eq p q) [
      | inl e ↦
          ap (λ (l : Leaf). l.number) (here p e)
          ∙ (y_number ∙ (ap (λ (l : Leaf). l.number) (r.is ∙ ap (leaf_at now) (sym e)) ∙ m.numbers p))
      | inr ne ↦ ap (λ (l : Leaf). l.number) (elsewhere p ne) ∙ m.numbers p
    ];
    fits = λ p h. elim (cases_eq p q) [
      | inl e ↦ subst (IsFitTo boxes) (sym (here p e)) own_fit
      | inr ne ↦ subst (IsFitTo boxes) (sym (elsewhere p ne)) (elim (Contains-push_cases seen q p h) [
        | inl old ↦ m.fits p old
        | inr own ↦ absurd (ne (sym own))
      ])
    ];
    kept = λ p. elim (cases_eq p q) [
      | inl e ↦ inr (subst (Contains (seen ++ q ∷ [])) (sym e) (Contains-push seen q))
      | inr ne ↦ elim (m.kept p) [
        | inl same ↦ inl (elsewhere p ne ∙ same)
        | inr old ↦ inr (Contains-append_left seen (q ∷ []) p old)
      ]
    ];
  }

module _ (boxes : List Box3) (moved : List ℕ) (before after : List Leaf) (m : Moves boxes moved before after) where
  -- what bounded the leaves before bounds them now, where none of them moved
  kept_bounds : (fit : Box3) (a b : ℕ) → Bounds before fit a b → BoundsBut after moved fit a b
  kept_bounds fit a b h = record {
    order = h.order;
    kept = λ none. record {
      order = h.order;
      world = h.world;
      each = λ p low high. elim (m.kept p) [
        | inl same ↦ subst (λ (l : Leaf). box.Contains fit l.fit) (sym same) (h.each p low high)
        | inr moved_here ↦
            let at = at_from_Contains moved p moved_here in
            let is : get_or moved at.0 0 ≡ p = at.2 0 in
            absurd (none (at.0, at.1, omega (arith, is, low), omega (arith, is, high)))
      ];
    };
  }

  -- so the records are stale alone where a leaf below them moved
  pub stale : (rs : List Record) (a b : ℕ) → Covers before rs a b → CoversBy (BoundsBut after moved) rs a b
  stale [] a b h = elim h [ ]
  stale (r ∷ []) a b (run one end here) = run one end (kept_bounds r.fit a b here)
  stale (r ∷ rs) a b (fork left right middle parts escape end here on_left on_right) =
      fork left right middle parts escape end (kept_bounds r.fit a b here) (stale left a middle on_left)
      (stale right middle b on_right)

  module _ (but : AreOverBut before boxes moved) where
    -- each leaf has the number of its key
    number_now : (p : ℕ) → p < length but.keys → (leaf_at after p).number ≡ tri_at but.keys p
    number_now p lt = m.numbers p ∙ but.numbers p lt

    -- and that triangle's box
    fit_now : (p : ℕ) → p < length but.keys → (leaf_at after p).fit ≡ box_of_triangle boxes (tri_at but.keys p)
    fit_now p lt = elim (m.kept p) [
      | inr moved_here ↦ m.fits p moved_here ∙ ap (box_of_triangle boxes) (number_now p lt)
      | inl same ↦ elim (but.fits p lt) [
        | inl moved_here ↦ m.fits p moved_here ∙ ap (box_of_triangle boxes) (number_now p lt)
        | inr fit ↦ ap (λ (l : Leaf). l.fit) same ∙ fit
      ]
    ]

    -- so it is the leaf of its key
    leaf_now : (p : ℕ) → p < length but.keys → leaf_at after p ≡ leaf_of boxes (key_at but.keys p)
    unfolding leaf_of tri_at
    leaf_now p lt = leaf_is (leaf_at after p) (box_of_triangle boxes (tri_at but.keys p)) (tri_at but.keys p)
        (fit_now p lt) (number_now p lt)
      where
        leaf_is : (l : Leaf) (b : Box3) (n : ℕ) → l.fit ≡ b → l.number ≡ n → l ≡ record { fit = b; number = n }
        leaf_is l b n e f = λ i. record { fit = e i; number = f i }

    -- so the list is over the boxes
    pub over_now : (f : Contents) → f.leaves ≡ after → IsOver f boxes
    unfolding leaf_at leaves_of key_at
    over_now f is = record {
      keys = but.keys;
      lawful = but.lawful;
      count = but.count;
      leaves = is ∙ ext_get_or no_leaf after (leaves_of but.keys boxes)
          (m.count ∙ (but.leaf_count ∙ sym (length-map but.keys (leaf_of boxes))))
          (λ p lt.
          let within : p < length but.keys = omega (arith, lt, m.count, but.leaf_count) in
          leaf_now p within
          ∙ sym (get_or-map (leaf_of boxes) but.keys p (record { code = 0; tri = 0 }) no_leaf within));
    }

    -- and each leaf's box is in the world
    pub world_now : All BoxInWorld boxes → AreInWorld after
    world_now all = record {
      each = λ p lt.
          let within : p < length but.keys = omega (arith, lt, m.count, but.leaf_count) in
          subst BoxInWorld (sym (fit_now p within)) (read_in_world boxes all (tri_at but.keys p));
    }

-- the leaves of such a list have boxes
pub have_boxes : (leaves : List Leaf) (boxes : List Box3) (moved : List ℕ) → AreOverBut leaves boxes moved →
    HaveBoxes leaves boxes
have_boxes leaves boxes moved but = record {
  from_one = λ p lt.
      let within : p < length but.keys = omega (arith, lt, but.leaf_count) in
      omega (arith, but.numbers p within, but.lawful.from_one p within);
  to_count = λ p lt.
      let within : p < length but.keys = omega (arith, lt, but.leaf_count) in
      omega (arith, but.numbers p within, but.lawful.to_count p within, but.count);
}

module _ (f : Contents) (before boxes : List Box3) (over : IsOver f before) (same : length boxes ≡ length before) where
  -- the leaf at a position is its key's, with the box of before
  leaf_was : (p : ℕ) → p < length over.keys →
      leaf_at f.leaves p ≡ leaf_of before (key_at over.keys p)
  unfolding leaf_at leaves_of key_at
  leaf_was p lt =
      ap (λ ls. get_or ls p no_leaf) over.leaves
      ∙ get_or-map (leaf_of before) over.keys p (record { code = 0; tri = 0 }) no_leaf lt

  -- so it has that key's number
  number_was : (p : ℕ) → p < length over.keys → (leaf_at f.leaves p).number ≡ tri_at over.keys p
  unfolding leaf_of tri_at
  number_was p lt = ap (λ (l : Leaf). l.number) (leaf_was p lt)

  -- there is one for each key
  count_was : length f.leaves ≡ length over.keys
  unfolding leaves_of
  count_was = ap length over.leaves ∙ length-map over.keys (leaf_of before)

  -- where each leaf has its box or is listed, the list is over the boxes but for those
  pub over_but : (moved : List ℕ) →
      ((p : ℕ) → p < length f.leaves → Contains moved p ⊎ IsFitTo boxes (leaf_at f.leaves p)) →
      AreOverBut f.leaves boxes moved
  over_but moved each = record {
    keys = over.keys;
    lawful = over.lawful;
    count = same ∙ over.count;
    leaf_count = count_was;
    numbers = number_was;
    fits = λ p lt. elim (each p (omega (arith, lt, count_was))) [
      | inl listed ↦ inl listed
      | inr fit ↦ inr (fit ∙ ap (box_of_triangle boxes) (number_was p lt))
    ];
  }

  -- each leaf's number is that of a box
  pub list_has_boxes : HaveBoxes f.leaves boxes
  list_has_boxes = record {
    from_one = λ p lt.
        let within : p < length over.keys = omega (arith, lt, count_was) in
        omega (arith, number_was p within, over.lawful.from_one p within);
    to_count = λ p lt.
        let within : p < length over.keys = omega (arith, lt, count_was) in
        omega (arith, number_was p within, over.lawful.to_count p within, same, over.count);
  }

  -- and a position fits 32 bits
  pub few_leaves : length f.leaves < 2 ^ 32
  few_leaves = omega (arith, count_was, over.lawful.few)

-- a list over boxes whose triangles stand where the keys' do is the list of the keys
pub same_keys : (f g : Contents) (keys : List Key) (before boxes : List Box3) →
    f.leaves ≡ leaves_of keys before → length boxes ≡ length keys → IsOver g boxes →
    ((p : ℕ) → (leaf_at g.leaves p).number ≡ (leaf_at f.leaves p).number) → g.leaves ≡ leaves_of keys boxes
unfolding leaf_at leaves_of leaf_of key_at
same_keys f g keys before boxes was count over numbers =
    let now = over.keys in
    let long : length (leaves_of now boxes) ≡ length (leaves_of keys boxes) =
    omega (arith, length-map now (leaf_of boxes), length-map keys (leaf_of boxes), count, over.count) in
    over.leaves ∙ ext_get_or no_leaf (leaves_of now boxes) (leaves_of keys boxes) long (λ p lt.
    let here : p < length now = omega (arith, lt, length-map now (leaf_of boxes)) in
    let there : p < length keys = omega (arith, here, count, over.count) in
    let no_key : Key = record { code = 0; tri = 0 } in
    let of_now = get_or-map (leaf_of boxes) now p no_key no_leaf here in
    let of_keys = get_or-map (leaf_of boxes) keys p no_key no_leaf there in
    let of_before = get_or-map (leaf_of before) keys p no_key no_leaf there in
    let same : (get_or now p no_key).tri ≡ (get_or keys p no_key).tri =
    sym (ap (λ (l : Leaf). l.number) (ap (λ ls. get_or ls p no_leaf) over.leaves ∙ of_now)) ∙ (numbers p
    ∙ ap (λ (l : Leaf). l.number) (ap (λ ls. get_or ls p no_leaf) was ∙ of_before)) in
    of_now ∙ (ap (λ n. record { fit = box_of_triangle boxes n; number = n }) same ∙ sym of_keys))
