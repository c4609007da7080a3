-- A tree that is fitted but for the triangles that moved has the boxes of all ranges without one.
use Rattle.std.proofs.Common.{◌≡◌, ℕ, ◌+◌, ◌-◌, ◌<◌, ◌≤◌, sym, ap, ◌∙◌, arith, subst, List, length, take, drop, get_or, map}
use Rattle.std.proofs.lemmas.List.{ext_get_or, get_or-map, length-map, length-take, get_or-take, get_or-drop}
use Rattle.fixed_box.specs.declared.shapes.Box3.{Box3}
use Rattle.fixed_box.specs.Boxes.{IsLeastBox}
use Rattle.morton_key.specs.declared.keys.Key.{Key}
use Rattle.morton_key.specs.Keys.{key_at, tri_at}
use Rattle.radix_tree.specs.declared.nodes.Child.TheVariants.{Inner}
use Rattle.radix_tree.specs.Table.{Contents, node_at, no_box, IsTable}
use Rattle.radix_tree.specs.Fit.{boxes_in, box_of_triangle}
use Rattle.radix_tree.proofs.DescentLaws.{last_at, row_range}
use Rattle.arrival_core.specs.Tasks.{FitsButFor}
use Rattle.refit.specs.Stale.{AreOutside, AreFittedBut}
use Rattle.refit.proofs.LivePositions.{outside_still}

-- the key that stands where no key is
abbrev no_key : Key
no_key = record { code = 0; tri = 0 }

-- the boxes of a range are the same, where those of its triangles are
pub same_in : (boxes before : List Box3) (keys : List Key) (a b : ℕ) → b < length keys →
    ((p : ℕ) → a ≤ p → p ≤ b → box_of_triangle before (tri_at keys p) ≡ box_of_triangle boxes (tri_at keys p)) →
    boxes_in before keys a b ≡ boxes_in boxes keys a b
unfolding boxes_in tri_at key_at
same_in boxes before keys a b within same =
    let ks = take (b + 1 - a) (drop a keys) in
    let old = λ (k : Key). box_of_triangle before k.tri in
    let new = λ (k : Key). box_of_triangle boxes k.tri in
    let long = length-map ks old in
    ext_get_or no_box (map old ks) (map new ks) (long ∙ sym (length-map ks new)) (λ i lt.
    let here : i < length ks = omega (arith, lt, long) in
    let near : i < b + 1 - a = omega (arith, here, length-take (b + 1 - a) (drop a keys)) in
    let at : get_or ks i no_key ≡ get_or keys (a + i) no_key =
    get_or-take (b + 1 - a) (drop a keys) i no_key near ∙ get_or-drop a keys i no_key in
    get_or-map old ks i no_key no_box here
    ∙ (ap old at ∙ (same (a + i) (omega arith) (omega (arith, near))
    ∙ (ap new (sym at) ∙ sym (get_or-map new ks i no_key no_box here)))))

module _ (t : Contents) (boxes : List Box3) (moved : List ℕ) (table : IsTable t)
    (but : FitsButFor t boxes moved) where
  -- outside the moved positions a triangle has the box that it had
  still : (a b p : ℕ) → AreOutside moved a b → a ≤ p → p ≤ b → p < length t.keys →
      box_of_triangle but.before (tri_at t.keys p) ≡ box_of_triangle boxes (tri_at t.keys p)
  still a b p outside low high lt = but.same p lt (outside_still moved a b p outside low high)

  -- so all rows are right but for those with a moved position in their range
  pub whole_stale : AreFittedBut moved t.keys boxes t.nodes (Inner 0)
  whole_stale k a b under node outside = record {
    here = λ lt.
        let x = node_at t.nodes k in
        let ends = row_range t table k a b node in
        let past = last_at t table k lt in
        let same = same_in boxes but.before t.keys x.first x.last past (λ p low high.
        still a b p outside (omega (arith, ends.1, low)) (omega (arith, ends.2, high)) (omega (arith, high, past))) in
        record {
          row = table.each k lt;
          fit = subst (λ bs. IsLeastBox bs x.fit) same (but.fitted.each k lt);
        };
  }
