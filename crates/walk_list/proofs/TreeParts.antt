-- The records of a tree: what is known at a child of it, and what its parts come to.
use Rattle.std.proofs.Common.{◌≡◌, ℕ, ◌+◌, ◌-◌, ◌<◌, ◌≤◌, ◌^◌, sym, ap, ◌∙◌, arith, subst, List, [], ◌∷◌, ◌++◌, length, set, get_or}
use Rattle.std.proofs.lemmas.List.{length-map, get_or-map, get_or_default}
use Rattle.fixed_box.specs.declared.shapes.Box3.{Box3}
use Rattle.fixed_box.specs.Boxes.{Contains}
use Rattle.fixed_box.specs.World.{BoxInWorld}
use Rattle.std.specs.Prelude.{All}
use Rattle.morton_key.specs.declared.keys.Key.{Key}
use Rattle.morton_key.specs.Keys.{key_at, tri_at}
use Rattle.radix_tree.specs.declared.nodes.Node.{Node}
use Rattle.radix_tree.specs.declared.nodes.Child.{Child}
use Rattle.radix_tree.specs.declared.nodes.Child.TheVariants.{Leaf as AtLeaf, Inner}
use Rattle.radix_tree.specs.Ranges.{HasRange}
use Rattle.radix_tree.specs.Table.{Contents, node_at, IsTable}
use Rattle.radix_tree.specs.Fit.{box_of_triangle, IsFitted}
use Rattle.radix_tree.specs.Filling.{IsChild, span_of}
use Rattle.radix_tree.proofs.DescentLaws.{low_at, high_at, last_at, row_range, child_from_range, span_from_range}
use Rattle.traversal.proofs.Approaches.{read_in_world, fitted_in_world}
use Rattle.traversal.proofs.Pruning.{box_contains_triangle}
use Rattle.walk_list.specs.declared.records.Leaf.{Leaf}
use Rattle.walk_list.specs.declared.records.Record.{Record}
use Rattle.walk_list.specs.Leaves.{leaf_of, leaves_of, no_leaf, leaf_at}
use Rattle.walk_list.specs.Covering.{Bounds}
use Rattle.walk_list.specs.Parts.{HoldsLeaves, IsPart}
use Rattle.walk_list.proofs.Makings.{few_below, own_inside, fork_part}

-- the leaf at a position has its triangle's box
leaf_fit : (keys : List Key) (boxes : List Box3) (leaves : List Leaf) → leaves ≡ leaves_of keys boxes → (p : ℕ) →
    p < length keys → (leaf_at leaves p).fit ≡ box_of_triangle boxes (tri_at keys p)
unfolding leaf_at leaves_of leaf_of tri_at key_at
leaf_fit keys boxes leaves is p lt =
    ap (λ ls. let l : Leaf = get_or ls p no_leaf in l.fit) is
    ∙ ap (λ (l : Leaf). l.fit) (get_or-map (leaf_of boxes) keys p (record { code = 0; tri = 0 }) no_leaf lt)

-- the boxes of a fitted tree's nodes contain those of the leaves
pub holds_leaves : (t : Contents) (boxes : List Box3) (leaves : List Leaf) → IsTable t → IsFitted t boxes →
    All BoxInWorld boxes → leaves ≡ leaves_of t.keys boxes → HoldsLeaves t leaves
unfolding leaves_of
holds_leaves t boxes leaves table fitted world is = record {
  count = ap length is ∙ length-map t.keys (leaf_of boxes);
  world = λ p lt.
      let within : p < length t.keys = omega (arith, ap length is, length-map t.keys (leaf_of boxes)) in
      subst BoxInWorld (sym (leaf_fit t.keys boxes leaves is p within)) (read_in_world boxes world (tri_at t.keys p));
  each = λ k lt. record {
    order = omega (arith, low_at t table k lt, high_at t table k lt);
    world = fitted_in_world boxes world t fitted k lt;
    each = λ p low high.
        let within : p < length t.keys = omega (arith, last_at t table k lt) in
        subst (Contains (node_at t.nodes k).fit) (sym (leaf_fit t.keys boxes leaves is p within))
        (box_contains_triangle t boxes fitted k p lt low (omega arith) within);
  };
}

-- the list of records stands at an inner node
pub record AtNode (t : Contents) (leaves : List Leaf) (child : Child) (k : ℕ) : Type 0 where
  pub table : IsTable t
  pub holds : HoldsLeaves t leaves
  pub is : child ≡ Inner k
  pub inside : k < length t.nodes

-- so it does at a child that is one
pub at_node : {t : Contents} {leaves : List Leaf} {child : Child} {k : ℕ} → IsTable t → HoldsLeaves t leaves →
    IsChild t child → child ≡ Inner k → AtNode t leaves child k
at_node {t = t} table holds stands is =
    record { table = table; holds = holds; is = is; inside = subst (IsChild t) is stands }

module _ {t : Contents} {leaves : List Leaf} {child : Child} {k : ℕ} (here : AtNode t leaves child k) where
  -- that node
  abbrev node : Node
  node = node_at t.nodes k

  -- its left part is not empty
  pub low : node.first ≤ node.split
  low = low_at t here.table k here.inside

  -- nor its right one
  pub high : node.split < node.last
  high = high_at t here.table k here.inside

  -- its last leaf is there
  pub within : node.last < length t.keys
  within = last_at t here.table k here.inside

  -- what has the range of its left part is a child
  pub left_is_child : (l : Child) → HasRange t.keys l node.first node.split → IsChild t l
  left_is_child l d = child_from_range t here.table l _ _ (omega (arith, high, within)) d

  -- and spans fewer leaves
  pub left_falls : (l : Child) → HasRange t.keys l node.first node.split → span_of t l < span_of t child
  left_falls l d = omega (arith, low, high, ap (span_of t) here.is, span_from_range t here.table l _ _ d)

  -- so is what has the range of its right part
  pub right_is_child : (r : Child) → HasRange t.keys r (node.split + 1) node.last → IsChild t r
  right_is_child r d = child_from_range t here.table r _ _ within d

  -- which spans fewer too
  pub right_falls : (r : Child) → HasRange t.keys r (node.split + 1) node.last → span_of t r < span_of t child
  right_falls r d = omega (arith, low, high, ap (span_of t) here.is, span_from_range t here.table r _ _ d)

  -- what is a part for the node's range is one for each range of the child
  pub for_child : (before after : List Record) → IsPart leaves node.first (node.last + 1) before after →
      (a b : ℕ) → HasRange t.keys child a b → IsPart leaves a (b + 1) before after
  for_child before after p a b d =
      let row = row_range t here.table k a b (subst (λ x. HasRange t.keys x a b) here.is d) in
      subst (λ z. IsPart leaves z (b + 1) before after) row.1
      (subst (λ z. IsPart leaves node.first (z + 1) before after) row.2 p)

  -- of the node that is read
  module _ (x : Node) (e : x ≡ node_at t.nodes k) where
    -- its range begins before it ends
    pub read_order : x.first ≤ x.last
    read_order = omega (arith, ap (λ (y : Node). y.first) e, ap (λ (y : Node). y.last) e, low, high)

    -- and ends at a number of 32 bits
    pub read_small : x.last + 1 < 2 ^ 32
    read_small = omega (arith, ap (λ (y : Node). y.last) e, within, here.table.lawful.few)

    -- a run is a part of it
    pub run_for_child : (before after : List Record) →
        ((ls : List Leaf) (a : ℕ) → Bounds ls x.fit a (x.last + 1) → a < x.last + 1 →
        IsPart ls a (x.last + 1) before after) →
        (a b : ℕ) → HasRange t.keys child a b → IsPart leaves a (b + 1) before after
    run_for_child before after h =
        let bounds : Bounds leaves x.fit node.first (x.last + 1) =
        subst (λ (y : Node). Bounds leaves y.fit node.first (y.last + 1)) (sym e) (here.holds.each k here.inside) in
        for_child before after
        (subst (λ z. IsPart leaves node.first (z + 1) before after) (ap (λ (y : Node). y.last) e)
        (h leaves node.first bounds (omega (arith, ap (λ (y : Node). y.last) e, low, high))))

    -- and what is listed below it
    module _ (l r : Child) (range_l : HasRange t.keys l node.first node.split)
        (range_r : HasRange t.keys r (node.split + 1) node.last) (blank : Record)
        (before first second third : List Record) (pushed : first ≡ before ++ blank ∷ [])
        (on_left : (a b : ℕ) → HasRange t.keys l a b → IsPart leaves a (b + 1) first second)
        (on_right : (a b : ℕ) → HasRange t.keys r a b → IsPart leaves a (b + 1) second third) where
      -- the left part was listed
      part_l : IsPart leaves node.first (node.split + 1) first second
      part_l = on_left node.first node.split range_l

      -- and the right one
      part_r : IsPart leaves (node.split + 1) (node.last + 1) second third
      part_r = on_right (node.split + 1) node.last range_r

      -- the node's own record is in the list
      pub own_within : length before < length third
      own_within = own_inside leaves node.fit node.first (node.split + 1) (node.last + 1)
          (here.holds.each k here.inside) blank before first second third pushed part_l part_r
          (omega (arith, low)) (omega (arith, high))

      -- its escape fits 32 bits
      pub escape_small : length third - length before < 2 ^ 32
      escape_small = omega (
        arith,
        few_below leaves node.fit node.first (node.split + 1) (node.last + 1)
            (here.holds.each k here.inside) blank before first second third pushed part_l part_r
            (omega (arith, low)) (omega (arith, high)),
        within,
        here.table.lawful.few,
      )

      -- and with it both parts are one for each range of the child
      pub fork_for_child : (own escape : ℕ) → own ≡ length before → escape ≡ length third - own →
          (a b : ℕ) → HasRange t.keys child a b →
          IsPart leaves a (b + 1) before (set third own (record { fit = x.fit; escape = escape; end = x.last + 1 }))
      fork_for_child own escape at is a b d =
          subst (λ (y : Node). IsPart leaves a (b + 1) before
          (set third own (record { fit = y.fit; escape = escape; end = y.last + 1 }))) (sym e)
          (subst (λ z. IsPart leaves a (b + 1) before
          (set third z (record { fit = node.fit; escape = escape; end = node.last + 1 }))) (sym at)
          (for_child before _
          (fork_part leaves node.fit node.first (node.split + 1) (node.last + 1)
          (here.holds.each k here.inside) blank before first second third pushed part_l part_r
          (omega (arith, low)) (omega (arith, high)) escape (omega arith)) a b d))

-- one leaf is a part
pub leaf_for_child : (t : Contents) (leaves : List Leaf) (child : Child) (p : ℕ) (x : Leaf) → HoldsLeaves t leaves →
    IsChild t child → child ≡ AtLeaf p → x ≡ get_or leaves p x → (before after : List Record) →
    ((ls : List Leaf) (a : ℕ) → Bounds ls (get_or leaves p x).fit a (p + 1) → a < p + 1 →
    IsPart ls a (p + 1) before after) →
    (a b : ℕ) → HasRange t.keys child a b → IsPart leaves a (b + 1) before after
unfolding leaf_at
leaf_for_child t leaves child p x holds stands is read before after h a b d =
    let inside : p < length t.keys = subst (IsChild t) is stands in
    let range = subst (λ z. HasRange t.keys z a b) is d in
    let same : x ≡ leaf_at leaves p =
    read ∙ get_or_default leaves p x no_leaf (omega (arith, holds.count)) in
    let bounds : Bounds leaves x.fit p (p + 1) = record {
      order = omega arith;
      world = subst (λ (l : Leaf). BoxInWorld l.fit) (sym same) (holds.world p (omega (arith, holds.count)));
      each = λ i low high.
          let at : p ≡ i = omega arith in
          subst (λ z. Contains x.fit (leaf_at leaves z).fit) at
          (subst (λ (l : Leaf). Contains x.fit l.fit) same (λ point here. here));
    } in
    subst (λ z. IsPart leaves z (b + 1) before after) range.0
    (subst (λ z. IsPart leaves p (z + 1) before after) range.1
    (h leaves p (subst (λ (l : Leaf). Bounds leaves l.fit p (p + 1)) read bounds) (omega arith)))
