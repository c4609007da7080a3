use Rattle.std.proofs.Common.{◌≡◌, ℕ, suc, zero, ◌+◌, ◌-◌, ◌<◌, refl, sym, ap, ◌∙◌, arith, subst, List, [], ◌∷◌, ◌++◌, length}
use Rattle.fixed_box.specs.declared.shapes.Box3.{Box3}
use Rattle.fixed_box.specs.Boxes.{IsLeastBox}
use Rattle.fixed_box.specs.Extent.{union_of}
use Rattle.fixed_box.proofs.LeastBoxes.{least_of_one, least_of_append, one_least_box}
use Rattle.fixed_box.proofs.Extents.{union_of-is_least}
use Rattle.morton_key.specs.declared.keys.Key.{Key}
use Rattle.morton_key.specs.Keys.{tri_at}
use Rattle.radix_tree.specs.declared.nodes.Node.{Node}
use Rattle.radix_tree.specs.Shape.{row_at}
use Rattle.radix_tree.specs.Table.{Contents, node_at, IsTable}
use Rattle.radix_tree.specs.Fit.{box_of_triangle, boxes_in, IsFitted, joined, least_box_of, node_of_row, nodes_from, table_of}
use Rattle.radix_tree.proofs.NumberLaws.{proper}
use Rattle.radix_tree.proofs.NodeLaws.{node_within}
use Rattle.radix_tree.proofs.ShapeRows.{row_at_is}
use Rattle.radix_tree.proofs.FitLaws.{boxes_in-one, boxes_in-parted}

-- ---- boxes

-- the joined box of a list is its least
joined-is_least : (b : Box3) (bs : List Box3) → IsLeastBox (b ∷ bs) (joined b bs)
unfolding joined
joined-is_least b [] = least_of_one b
joined-is_least b (c ∷ cs) = least_of_append (b ∷ []) (c ∷ cs) b (joined c cs) (union_of b (joined c cs))
    (least_of_one b) (joined-is_least c cs) (union_of-is_least b (joined c cs))

-- a range of two or more positions has a first box
boxes_in-first : (boxes : List Box3) (keys : List Key) (a b : ℕ) → a < b → a < length keys →
    boxes_in boxes keys a b ≡ box_of_triangle boxes (tri_at keys a) ∷ boxes_in boxes keys (suc a) b
boxes_in-first boxes keys a b lt h = boxes_in-parted boxes keys a a b (omega arith) lt
    ∙ ap (λ xs. xs ++ boxes_in boxes keys (suc a) b) (boxes_in-one boxes keys a h)

-- the least box round a range, by the function
pub least_box_of-is_least : (boxes : List Box3) (keys : List Key) (a b : ℕ) → a < b → a < length keys →
    IsLeastBox (boxes_in boxes keys a b) (least_box_of (boxes_in boxes keys a b))
unfolding least_box_of
least_box_of-is_least boxes keys a b lt h =
    subst (λ xs. IsLeastBox xs (least_box_of xs)) (sym (boxes_in-first boxes keys a b lt h))
    (joined-is_least (box_of_triangle boxes (tri_at keys a)) (boxes_in boxes keys (suc a) b))

-- ---- nodes

-- as many nodes are made as are asked for
length-nodes_from : (keys : List Key) (boxes : List Box3) (k count : ℕ) →
    length (nodes_from keys boxes k count) ≡ count
unfolding nodes_from
length-nodes_from keys boxes k zero = refl
length-nodes_from keys boxes k (suc count) = ap suc (length-nodes_from keys boxes (suc k) count)

-- a list whose nodes are those of their rows, from a number on
same_from_rows : (keys : List Key) (boxes : List Box3) (nodes : List Node) (k : ℕ) →
    ((j : ℕ) → j < length nodes → node_at nodes j ≡ node_of_row keys boxes (row_at keys (k + j))) →
    nodes ≡ nodes_from keys boxes k (length nodes)
unfolding nodes_from node_at
same_from_rows keys boxes [] k rows = refl
same_from_rows keys boxes (x ∷ xs) k rows =
    let here : k + 0 ≡ k = omega arith in
    let first : x ≡ node_of_row keys boxes (row_at keys k) = rows 0 (omega arith)
    ∙ ap (λ z. node_of_row keys boxes (row_at keys z)) here in
    let rest : xs ≡ nodes_from keys boxes (suc k) (length xs) = same_from_rows keys boxes xs (suc k) (λ j lt.
    let next : k + suc j ≡ suc k + j = omega arith in
    rows (suc j) (omega arith) ∙ ap (λ z. node_of_row keys boxes (row_at keys z)) next) in
    ap (λ z. z ∷ xs) first ∙ ap (λ zs. node_of_row keys boxes (row_at keys k) ∷ zs) rest

-- a node is known by its parts
same_node : (x : Node) (a b s : ℕ) (fit : Box3) → x.first ≡ a → x.last ≡ b → x.split ≡ s → x.fit ≡ fit →
    x ≡ record { first = a; last = b; split = s; fit = fit }
same_node x a b s fit e f g h =
    ap (λ z. record { first = z; last = x.last; split = x.split; fit = x.fit }) e
    ∙ (ap (λ z. record { first = a; last = z; split = x.split; fit = x.fit }) f
    ∙ (ap (λ z. record { first = a; last = b; split = z; fit = x.fit }) g
    ∙ ap (λ z. record { first = a; last = b; split = s; fit = z }) h))

module _ (t : Contents) (boxes : List Box3) (table : IsTable t) (fitted : IsFitted t boxes) where
  -- each node is that of its row
  pub node_is_of_row : (k : ℕ) → k < length t.nodes → node_at t.nodes k ≡ node_of_row t.keys boxes (row_at t.keys k)
  unfolding node_of_row
  node_is_of_row k lt =
      let x = node_at t.nodes k in
      let row = table.each k lt in
      let order = proper t.keys table.lawful row.range in
      let within = node_within t.keys table.lawful row.range in
      let fit : x.fit ≡ least_box_of (boxes_in boxes t.keys x.first x.last) =
      one_least_box (boxes_in boxes t.keys x.first x.last) x.fit
      (least_box_of (boxes_in boxes t.keys x.first x.last)) (fitted.each k lt)
      (least_box_of-is_least boxes t.keys x.first x.last order (omega arith)) in
      same_node x x.first x.last _ _ refl refl row.part fit
      ∙ sym (ap (node_of_row t.keys boxes) (row_at_is t.keys table.lawful row.range))

  -- a fitted table is the one that the function gives
  pub table_is : t.nodes ≡ table_of t.keys boxes
  unfolding table_of
  table_is = same_from_rows t.keys boxes t.nodes 0 (λ k lt. let e : k ≡ 0 + k = omega arith in node_is_of_row k lt
      ∙ ap (λ z. node_of_row t.keys boxes (row_at t.keys z)) e)
      ∙ ap (nodes_from t.keys boxes 0) table.count

-- a list of keys has one table fitted to boxes
pub one_table : (keys : List Key) (boxes : List Box3) (xs ys : List Node) →
    IsTable (record { keys = keys; nodes = xs }) → IsTable (record { keys = keys; nodes = ys }) →
    IsFitted (record { keys = keys; nodes = xs }) boxes → IsFitted (record { keys = keys; nodes = ys }) boxes → xs ≡ ys
one_table keys boxes xs ys p q f g = table_is (record { keys = keys; nodes = xs }) boxes p f
    ∙ sym (table_is (record { keys = keys; nodes = ys }) boxes q g)

-- fewer than two keys have no inner node
pub few_have_none : (keys : List Key) (boxes : List Box3) → length keys < 2 → table_of keys boxes ≡ []
unfolding table_of nodes_from
few_have_none keys boxes few = let none : length keys - 1 ≡ 0 = omega arith in ap (nodes_from keys boxes 0) none
