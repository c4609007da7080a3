-- What is met in a range of positions and counted in a range of nodes, in parts and one by one.
use Rattle.std.proofs.Common.{◌≡◌, ℕ, ◌+◌, ◌-◌, ◌<◌, ◌≤◌, refl, ap, ◌∙◌, arith, List, [], ◌∷◌, ◌++◌, length, map, drop, get_or, add-zero, Bool, true, false, cond}
use Rattle.std.specs.Prelude.{count_by, filter, slice_range}
use Rattle.std.proofs.lemmas.Bool.{cond-true, cond-false, cond_both}
use Rattle.std.proofs.lemmas.List.{map-append, length-take}
use Rattle.std.proofs.lemmas.List.Elements.{filter-append}
use Rattle.std.proofs.lemmas.List.Sums.{count_by-le-length}
use Rattle.fixed_box.specs.declared.shapes.Box3.{Box3}
use Rattle.fixed_box.specs.Extent.{boxes_meet}
use Rattle.morton_key.specs.declared.keys.Key.{Key}
use Rattle.morton_key.specs.Keys.{key_at, tri_at}
use Rattle.radix_tree.specs.declared.nodes.Node.{Node}
use Rattle.radix_tree.specs.declared.nodes.Child.TheVariants.{Leaf, Inner}
use Rattle.radix_tree.specs.Table.{no_node, node_at}
use Rattle.radix_tree.specs.Fit.{box_of_triangle}
use Rattle.traversal.specs.Walks.{key_meets, met_in, count_meeting, met_below}
use Rattle.traversal.proofs.Slices.{slice_range-one, slice_range-none, slice_range-parted}
use Rattle.traversal.proofs.Counting.{count_by-cons, count_by-append}

-- what is met in a range is what is met in its left part and then what is met in its right part
pub met_in-parted : (keys : List Key) (boxes : List Box3) (q : Box3) (a s b : ℕ) → a ≤ s → s < b →
    met_in keys boxes q a b ≡ met_in keys boxes q a s ++ met_in keys boxes q (s + 1) b
unfolding met_in
met_in-parted keys boxes q a s b low high =
    let xs = slice_range keys a (s + 1) in
    let ys = slice_range keys (s + 1) (b + 1) in
    ap (λ ks. map (λ k. k.tri) (filter (key_meets boxes q) ks))
    (slice_range-parted keys a (s + 1) (b + 1) (omega arith) (omega arith))
    ∙ (ap (map (λ k. k.tri)) (filter-append (key_meets boxes q) xs ys)
    ∙ map-append (λ k. k.tri) (filter (key_meets boxes q) xs) (filter (key_meets boxes q) ys))

-- at one position the triangle is met where its box meets the query
pub met_in-one : (keys : List Key) (boxes : List Box3) (q : Box3) (p : ℕ) → p < length keys →
    boxes_meet (box_of_triangle boxes (tri_at keys p)) q ≡ true →
    met_in keys boxes q p p ≡ tri_at keys p ∷ []
unfolding met_in key_meets tri_at key_at
met_in-one keys boxes q p lt e =
    ap (λ ks. map (λ k. k.tri) (filter (key_meets boxes q) ks)) (slice_range-one keys p _ lt)
    ∙ ap (map (λ k. k.tri)) (cond-true _ _ _ e)

-- and else none is
pub met_in-none : (keys : List Key) (boxes : List Box3) (q : Box3) (p : ℕ) → p < length keys →
    boxes_meet (box_of_triangle boxes (tri_at keys p)) q ≡ false →
    met_in keys boxes q p p ≡ []
unfolding met_in key_meets tri_at key_at
met_in-none keys boxes q p lt e =
    ap (λ ks. map (λ k. k.tri) (filter (key_meets boxes q) ks)) (slice_range-one keys p _ lt)
    ∙ ap (map (λ k. k.tri)) (cond-false _ _ _ e)

-- the nodes of a range are counted in two parts
pub count-parted : (nodes : List Node) (q : Box3) (a s b : ℕ) → a ≤ s → s ≤ b →
    count_meeting (slice_range nodes a b) q
    ≡ count_meeting (slice_range nodes a s) q + count_meeting (slice_range nodes s b) q
unfolding count_meeting
count-parted nodes q a s b low high =
    ap (count_by (λ n. boxes_meet n.fit q)) (slice_range-parted nodes a s b low high)
    ∙ count_by-append (λ n. boxes_meet n.fit q) (slice_range nodes a s) (slice_range nodes s b)

-- the node of one number counts if its box meets the query
pub count-one : (nodes : List Node) (q : Box3) (k : ℕ) → k < length nodes →
    count_meeting (slice_range nodes k (k + 1)) q ≡ cond (boxes_meet (node_at nodes k).fit q) 1 0
unfolding count_meeting node_at
count-one nodes q k lt =
    ap (count_by (λ n. boxes_meet n.fit q)) (slice_range-one nodes k no_node lt)
    ∙ (count_by-cons (λ n. boxes_meet n.fit q) (get_or nodes k no_node) []
    ∙ add-zero (cond (boxes_meet (get_or nodes k no_node).fit q) 1 0))

-- no node stands in an empty range
pub count-none : (nodes : List Node) (q : Box3) (a b : ℕ) → b ≤ a → count_meeting (slice_range nodes a b) q ≡ 0
unfolding count_meeting
count-none nodes q a b le = ap (count_by (λ n. boxes_meet n.fit q)) (slice_range-none nodes a b le)

-- a range has no more nodes than numbers
pub count-few : (nodes : List Node) (q : Box3) (a b : ℕ) → count_meeting (slice_range nodes a b) q ≤ b - a
unfolding count_meeting
count-few nodes q a b = omega (
  arith,
  count_by-le-length (λ n. boxes_meet n.fit q) (slice_range nodes a b),
  length-take (b - a) (drop a nodes),
)

-- a node counts once at most
pub at_most_one : (b : Bool) → cond b 1 0 ≤ 1
at_most_one b = cond_both b 1 0 (λ n. n ≤ 1) (λ e. omega arith) (λ e. omega arith)

-- a node and those between the ends of its range
pub below-inner : (nodes : List Node) (q : Box3) (i a b : ℕ) →
    met_below nodes q (Inner i) a b
    ≡ cond (boxes_meet (node_at nodes i).fit q) 1 0 + count_meeting (slice_range nodes (a + 1) b) q
unfolding met_below count_meeting
below-inner nodes q i a b = count_by-cons (λ n. boxes_meet n.fit q) (node_at nodes i) (slice_range nodes (a + 1) b)

-- a leaf counts no node
pub below-leaf : (nodes : List Node) (q : Box3) (p a b : ℕ) → met_below nodes q (Leaf p) a b ≡ 0
unfolding met_below
below-leaf nodes q p a b = refl
