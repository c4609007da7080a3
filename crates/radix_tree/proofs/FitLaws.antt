use Rattle.std.proofs.Common.{◌≡◌, ℕ, suc, ◌+◌, ◌-◌, ◌<◌, ◌≤◌, sym, ap, ◌∙◌, arith, subst, List, [], ◌∷◌, ◌++◌, length, map, take, drop}
use Rattle.std.specs.Prelude.{slice_range}
use Rattle.std.proofs.Math.Seq.{drop-cons}
use Rattle.std.proofs.lemmas.List.{take-append-drop, drop-take, take-take, drop-drop, map-append}
use Rattle.fixed_box.specs.declared.shapes.Box3.{Box3}
use Rattle.fixed_box.specs.Boxes.{IsLeastBox}
use Rattle.fixed_box.proofs.LeastBoxes.{least_of_one, least_of_append}
use Rattle.morton_key.specs.declared.keys.Key.{Key}
use Rattle.morton_key.specs.Keys.{key_at, tri_at, IsLawful}
use Rattle.radix_tree.specs.Fit.{box_of_triangle, boxes_in}

-- a range of one position
range_of_one : (keys : List Key) (p : ℕ) → p < length keys → slice_range keys p (p + 1) ≡ key_at keys p ∷ []
unfolding key_at
range_of_one keys p lt =
    let one : p + 1 - p ≡ 1 = omega arith in
    ap (λ n. take n (drop p keys)) one ∙ ap (take 1) (drop-cons keys p _ lt)

-- a range in two parts
range_parted : {X : Type 0} (xs : List X) (a s b : ℕ) → a ≤ s → s ≤ b →
    slice_range xs a b ≡ slice_range xs a s ++ slice_range xs s b
range_parted xs a s b low high =
    let m : ℕ = s - a in
    let n : ℕ = b - s in
    let whole : b - a ≡ m + n = omega arith in
    let middle : a + m ≡ s = omega arith in
    ap (λ k. take k (drop a xs)) whole
    ∙ (sym (take-append-drop m (take (m + n) (drop a xs)))
    ∙ (ap (λ ys. ys ++ drop m (take (m + n) (drop a xs))) (take-take m (m + n) (drop a xs) (omega arith))
    ∙ ap (λ ys. take m (drop a xs) ++ ys)
    (drop-take m n (drop a xs) ∙ ap (take n) (drop-drop m a xs ∙ ap (λ k. drop k xs) middle))))

-- the boxes of one position
pub boxes_in-one : (boxes : List Box3) (keys : List Key) (p : ℕ) → p < length keys →
    boxes_in boxes keys p p ≡ box_of_triangle boxes (tri_at keys p) ∷ []
unfolding boxes_in tri_at
boxes_in-one boxes keys p lt = ap (map (λ k. box_of_triangle boxes k.tri)) (range_of_one keys p lt)

-- the boxes of a range are those of its left part and then those of its right part
pub boxes_in-parted : (boxes : List Box3) (keys : List Key) (a s b : ℕ) → a ≤ s → s < b →
    boxes_in boxes keys a b ≡ boxes_in boxes keys a s ++ boxes_in boxes keys (suc s) b
unfolding boxes_in
boxes_in-parted boxes keys a s b low high =
    let next : s + 1 ≡ suc s = omega arith in
    let parts : slice_range keys a (b + 1) ≡ slice_range keys a (s + 1) ++ slice_range keys (suc s) (b + 1) =
    range_parted keys a (s + 1) (b + 1) (omega arith) (omega arith)
    ∙ ap (λ z. slice_range keys a (s + 1) ++ slice_range keys z (b + 1)) next in
    ap (map (λ k. box_of_triangle boxes k.tri)) parts
    ∙ map-append (λ k. box_of_triangle boxes k.tri) (slice_range keys a (s + 1)) (slice_range keys (suc s) (b + 1))

-- the least box of one position is its triangle's
pub least_of_leaf : (boxes : List Box3) (keys : List Key) (p : ℕ) → p < length keys →
    IsLeastBox (boxes_in boxes keys p p) (box_of_triangle boxes (tri_at keys p))
least_of_leaf boxes keys p lt = subst (λ xs. IsLeastBox xs (box_of_triangle boxes (tri_at keys p)))
    (sym (boxes_in-one boxes keys p lt)) (least_of_one (box_of_triangle boxes (tri_at keys p)))

-- the same, where both ends of a range are that position
pub least_of_leaf_at : (boxes : List Box3) (keys : List Key) (a b : ℕ) (r : Box3) → a ≡ b → a < length keys →
    r ≡ box_of_triangle boxes (tri_at keys a) → IsLeastBox (boxes_in boxes keys a b) r
least_of_leaf_at boxes keys a b r leaf lt e =
    subst (λ z. IsLeastBox (boxes_in boxes keys a z) r) leaf
    (subst (λ x. IsLeastBox (boxes_in boxes keys a a) x) (sym e) (least_of_leaf boxes keys a lt))

-- the least box of a range is the least box of its children's boxes
pub least_of_children : (boxes : List Box3) (keys : List Key) (a s b : ℕ) (l r whole : Box3) → a ≤ s → s < b →
    IsLeastBox (boxes_in boxes keys a s) l → IsLeastBox (boxes_in boxes keys (suc s) b) r →
    IsLeastBox (l ∷ r ∷ []) whole →
    IsLeastBox (boxes_in boxes keys a b) whole
least_of_children boxes keys a s b l r whole low high left right join =
    subst (λ xs. IsLeastBox xs whole) (sym (boxes_in-parted boxes keys a s b low high))
    (least_of_append (boxes_in boxes keys a s) (boxes_in boxes keys (suc s) b) l r whole left right join)

-- each key's triangle has a box
pub tri_below : (keys : List Key) → IsLawful keys → (boxes : List Box3) → length boxes ≡ length keys → (p : ℕ) →
    p < length keys → tri_at keys p - 1 < length boxes
tri_below keys ok boxes count p lt = omega (arith, ok.from_one p lt, ok.to_count p lt)
