-- What is read at one position: its triangle has a box, and is met or not.
use Rattle.std.proofs.Common.{◌≡◌, ℕ, ◌-◌, ◌<◌, ◌≤◌, sym, ap, ◌∙◌, arith, List, [], ◌∷◌, ◌++◌, length, get_or, append-nil, Bool, true, false}
use Rattle.std.proofs.lemmas.List.{get_or_default}
use Rattle.fixed_box.specs.declared.shapes.Box3.{Box3}
use Rattle.fixed_box.specs.Extent.{boxes_meet}
use Rattle.morton_key.specs.declared.keys.Key.{Key}
use Rattle.morton_key.specs.Keys.{key_at, tri_at}
use Rattle.radix_tree.specs.Table.{Contents, no_box, IsTable}
use Rattle.radix_tree.specs.Fit.{box_of_triangle, IsFitted}
use Rattle.traversal.specs.Walks.{met_in}
use Rattle.traversal.proofs.Parts.{met_in-one, met_in-none}

module _ (t : Contents) (table : IsTable t) (boxes : List Box3) (fitted : IsFitted t boxes) (keys : List Key)
    (same : keys ≡ t.keys)
    (p : ℕ) (lt : p < length t.keys) where
  -- the number of the triangle that was read
  abbrev read : ℕ
  read = (get_or keys p (record { code = 0; tri = 0 })).tri

  -- it is the number of the key at that position
  pub read_is : read ≡ tri_at t.keys p
  unfolding tri_at key_at
  read_is = let none : Key = record { code = 0; tri = 0 } in ap (λ ks. let k : Key = get_or ks p none in k.tri) same

  -- is counted from one
  pub from_one : 1 ≤ read
  from_one = omega (arith, read_is, table.lawful.from_one p lt)

  -- and has a box
  pub has_box : read - 1 < length boxes
  has_box = omega (arith, read_is, table.lawful.from_one p lt, table.lawful.to_count p lt, fitted.count)

  -- which is read
  box_read : (b : Box3) → b ≡ get_or boxes (read - 1) b → b ≡ box_of_triangle boxes (tri_at t.keys p)
  unfolding box_of_triangle
  box_read b e = e ∙ (get_or_default boxes (read - 1) b no_box has_box ∙ ap (λ n. get_or boxes (n - 1) no_box) read_is)

  -- a triangle whose box meets the query is added
  pub added : (q b : Box3) (meets : Bool) (before after : List ℕ) → b ≡ get_or boxes (read - 1) b →
      meets ≡ boxes_meet b q → meets ≡ true →
      after ≡ before ++ read ∷ [] → after ≡ before ++ met_in t.keys boxes q p p
  added q b meets before after at tested passed grown =
      let true_at : boxes_meet (box_of_triangle boxes (tri_at t.keys p)) q ≡ true =
      ap (λ z. boxes_meet z q) (sym (box_read b at)) ∙ (sym tested ∙ passed) in
      grown ∙ ap (λ zs. before ++ zs) (ap (λ n. n ∷ []) read_is ∙ sym (met_in-one t.keys boxes q p lt true_at))

  -- and one whose box misses it is not
  pub passed_over : (q b : Box3) (meets : Bool) (before : List ℕ) → b ≡ get_or boxes (read - 1) b →
      meets ≡ boxes_meet b q → meets ≡ false →
      before ≡ before ++ met_in t.keys boxes q p p
  passed_over q b meets before at tested failed =
      let false_at : boxes_meet (box_of_triangle boxes (tri_at t.keys p)) q ≡ false =
      ap (λ z. boxes_meet z q) (sym (box_read b at)) ∙ (sym tested ∙ failed) in
      sym (ap (λ zs. before ++ zs) (met_in-none t.keys boxes q p lt false_at) ∙ append-nil before)
