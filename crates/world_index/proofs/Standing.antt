-- The tree and the list of an index, which are fitted to the boxes of before, while triangles moved.
use Rattle.std.proofs.Common.{◌≡◌, ◌∙◌, ℕ, ◌-◌, ◌<◌, ap, sym, arith, inl, inr, List, length, get_or}
use Rattle.std.proofs.lemmas.Bool.{false≢true}
use Rattle.std.proofs.lemmas.List.{get_or-map, length-map}
use Rattle.fixed_box.specs.declared.shapes.Point.{Point}
use Rattle.obj_text.specs.declared.face.Face.{Face}
use Rattle.morton_key.specs.Keys.{IsLawful, key_at, tri_at}
use Rattle.radix_tree.specs.Fit.{box_of_triangle}
use Rattle.arrival_core.specs.Tasks.{FitsButFor}
use Rattle.refit.proofs.LivePositions.{listed_live}
use Rattle.walk_list.specs.declared.records.Leaf.{Leaf}
use Rattle.walk_list.specs.Leaves.{leaf_of, leaves_of, leaf_at, no_leaf}
use Rattle.walk_list.specs.Moving.{AreOverBut}
use Rattle.world_index.specs.declared.index.Index.{Index}
use Rattle.world_index.specs.Kept.{IsIndex}
use Rattle.world_index.specs.Live.{AreLive, StandsStill}

module _ (index : Index) (now : List Point) (faces : List Face) (old : IsIndex index now faces)
    (lawful : IsLawful index.tree.keys) (live : List ℕ)
    (listed : AreLive faces index.tree.keys index.marks.moved live) where
  -- the triangle at a position that stands still has the box of before
  same_box : (p : ℕ) → p < length index.tree.keys → StandsStill faces index.tree.keys index.marks.moved p →
      box_of_triangle old.were.before (tri_at index.tree.keys p)
      ≡ box_of_triangle index.boxes.items (tri_at index.tree.keys p)
  unfolding box_of_triangle
  same_box p lt still =
      let t = tri_at index.tree.keys p - 1 in
      let inside : t < length faces =
      omega (arith, lawful.from_one p lt, lawful.to_count p lt, old.triangles) in
      old.were.still t inside still ∙ sym (old.right t inside still)

  -- so the tree is fitted but for the live positions
  pub fitted_but : FitsButFor index.tree index.boxes.items live
  fitted_but = record {
    before = old.were.before;
    fitted = old.were.tree;
    same = λ p lt dead. elim (listed.each p lt) [
      | inl here ↦ absurd (false≢true (sym dead ∙ listed_live live p here))
      | inr still ↦ same_box p lt still
    ];
  }

  -- the leaf at a position is that of the tree's key, with the box of before
  leaf_is : (p : ℕ) → p < length index.tree.keys →
      leaf_at index.list.leaves p ≡ leaf_of old.were.before (key_at index.tree.keys p)
  unfolding leaf_at leaves_of key_at
  leaf_is p lt = ap (λ ls. get_or ls p no_leaf) old.were.leaves
      ∙ get_or-map (leaf_of old.were.before) index.tree.keys p (record { code = 0; tri = 0 }) no_leaf lt

  -- there is a leaf for each key
  pub leaf_count : length index.list.leaves ≡ length index.tree.keys
  unfolding leaves_of
  leaf_count = ap length old.were.leaves ∙ length-map index.tree.keys (leaf_of old.were.before)

  -- and the list is over the boxes but for the same positions
  pub over_but : AreOverBut index.list.leaves index.boxes.items live
  unfolding leaf_of tri_at
  over_but = record {
    keys = index.tree.keys;
    lawful = lawful;
    count = old.boxes ∙ sym old.triangles;
    leaf_count = leaf_count;
    numbers = λ p lt. ap (λ (l : Leaf). l.number) (leaf_is p lt);
    fits = λ p lt. elim (listed.each p lt) [
      | inl here ↦ inl here
      | inr still ↦ inr (ap (λ (l : Leaf). l.fit) (leaf_is p lt) ∙ same_box p lt still)
    ];
  }
