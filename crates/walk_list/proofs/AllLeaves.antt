-- The leaves that a box meets, sorted, are what a test of every triangle finds.
use Rattle.std.proofs.Common.{◌≡◌, ℕ, ◌+◌, ◌-◌, refl, sym, ap, ◌∙◌, arith, subst, List, [], ◌∷◌, length, map, Bool, true, false, cond}
use Rattle.std.specs.Prelude.{filter}
use Rattle.std.specs.List.Sorted.{IsNonDecreasing, IsPermutation}
use Rattle.fixed_box.specs.declared.shapes.Box3.{Box3}
use Rattle.fixed_box.specs.Extent.{boxes_meet}
use Rattle.morton_key.specs.declared.keys.Key.{Key}
use Rattle.radix_tree.specs.Fit.{box_of_triangle}
use Rattle.traversal.specs.Overlaps.{overlaps_of}
use Rattle.traversal.specs.Walks.{key_meets, met_in}
use Rattle.traversal.proofs.Slices.{slice_range-whole}
use Rattle.traversal.proofs.Answer.{answer_is}
use Rattle.walk_list.specs.declared.records.Leaf.{Leaf}
use Rattle.walk_list.specs.Leaves.{leaf_of, leaves_of, leaf_meets, met_of}
use Rattle.walk_list.specs.Lists.{Contents, IsOver}

-- one more leaf and one more key, kept or not
one_more : (c : Bool) (l : Leaf) (k : Key) (ls : List Leaf) (ks : List Key) → l.number ≡ k.tri →
    map (λ (x : Leaf). x.number) ls ≡ map (λ (x : Key). x.tri) ks →
    map (λ (x : Leaf). x.number) (cond c (l ∷ ls) ls) ≡ map (λ (x : Key). x.tri) (cond c (k ∷ ks) ks)
one_more true l k ls ks e h = ap (λ n. n ∷ map (λ (x : Leaf). x.number) ls) e ∙ ap (λ xs. k.tri ∷ xs) h
one_more false l k ls ks e h = h

-- the leaves of keys are met as the keys are
met_of-leaves : (boxes : List Box3) (q : Box3) (keys : List Key) →
    map (λ (l : Leaf). l.number) (filter (leaf_meets q) (map (leaf_of boxes) keys))
    ≡ map (λ (k : Key). k.tri) (filter (key_meets boxes q) keys)
unfolding leaf_of leaf_meets key_meets
met_of-leaves boxes q [] = refl
met_of-leaves boxes q (k ∷ keys) =
    one_more (boxes_meet (box_of_triangle boxes k.tri) q) (leaf_of boxes k) k
    (filter (leaf_meets q) (map (leaf_of boxes) keys)) (filter (key_meets boxes q) keys) refl
    (met_of-leaves boxes q keys)

-- sorted, they are the definition's list
pub sorted_is : (f : Contents) (boxes : List Box3) → IsOver f boxes → (q : Box3) (xs : List ℕ) →
    IsPermutation (met_of q f.leaves) xs → IsNonDecreasing xs → xs ≡ overlaps_of boxes q
unfolding met_of met_in leaves_of
sorted_is f boxes over q xs moved rises =
    let keys = over.keys in
    let same = ap (λ ls. map (λ (l : Leaf). l.number) (filter (leaf_meets q) ls)) over.leaves
    ∙ (met_of-leaves boxes q keys
    ∙ ap (λ ks. map (λ (k : Key). k.tri) (filter (key_meets boxes q) ks))
    (sym (slice_range-whole keys (length keys - 1 + 1) (omega arith)))) in
    answer_is q keys over.lawful boxes over.count xs (subst (λ ys. IsPermutation ys xs) same moved) rises
