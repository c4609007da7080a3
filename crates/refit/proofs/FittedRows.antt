-- A node whose subtrees are fitted, once it has the union of their boxes.
use Rattle.std.proofs.Common.{◌≡◌, ℕ, ◌<◌, inl, inr, sym, ap, ◌∙◌, arith, subst, List, [], ◌∷◌, length}
use Rattle.fixed_box.specs.declared.shapes.Box3.{Box3}
use Rattle.fixed_box.specs.Boxes.{IsLeastBox}
use Rattle.radix_tree.specs.declared.nodes.Child.{Child}
use Rattle.radix_tree.specs.declared.nodes.Child.TheVariants.{Inner}
use Rattle.radix_tree.specs.Split.{split}
use Rattle.radix_tree.specs.Ranges.{IsNode, HasRange}
use Rattle.radix_tree.specs.Table.{Contents, node_at, put_fit, IsTable}
use Rattle.radix_tree.specs.Fit.{boxes_in}
use Rattle.radix_tree.specs.Filling.{IsFullRow, HasRow}
use Rattle.radix_tree.proofs.NodeLaws.{full_row}
use Rattle.radix_tree.proofs.DescentLaws.{row_range}
use Rattle.radix_tree.proofs.FillLaws.{row_here, row_kept}
use Rattle.radix_tree.proofs.RowLaws.{row_with_box, table_with_box}
use Rattle.refit.specs.Subtrees.{IsUnder}
use Rattle.refit.proofs.Subtrees.{AreChildren, under_cases}

-- a box is the least round the triangles of a child
abbrev pub IsRound : Contents → List Box3 → Child → Box3 → Type 0
IsRound t boxes child fit = (a b : ℕ) → HasRange t.keys child a b → IsLeastBox (boxes_in boxes t.keys a b) fit

-- the same over a tree with the same keys
pub round_there : (t u : Contents) (boxes : List Box3) (child : Child) (fit : Box3) → u.keys ≡ t.keys →
    IsRound u boxes child fit → IsRound t boxes child fit
round_there t u boxes child fit keys round = λ a b range.
    subst (λ ks. IsLeastBox (boxes_in boxes ks a b) fit) keys
    (round a b (subst (λ ks. HasRange ks child a b) (sym keys) range))

-- a tree t, its node of a number with two children and the boxes round them, a later tree u in which their subtrees are
-- fitted, and that tree with the union of the boxes at the number, v
pub record HasUnion (t u v : Contents) (boxes : List Box3) (number : ℕ) (first second : Child) (l r fit : Box3) :
    Type 0 where
  pub table : IsTable t
  pub kids : AreChildren t number first second
  pub round_first : IsRound t boxes first l
  pub round_second : IsRound t boxes second r
  pub join : IsLeastBox (l ∷ r ∷ []) fit
  pub later : IsTable u
  pub keys : u.keys ≡ t.keys
  pub same : v.keys ≡ u.keys
  pub put : v.nodes ≡ put_fit u.nodes number fit

module _ {t u v : Contents} {boxes : List Box3} {number : ℕ} {first second : Child} {l r fit : Box3}
    (h : HasUnion t u v boxes number first second l r fit) where
  -- the union of two boxes is the node's
  pub round_node : IsRound t boxes (Inner number) fit
  round_node a b node =
      let x = node_at t.nodes number in
      let row = h.table.each number h.kids.inside in
      let same = row_range t h.table number a b node in
      let here = (full_row t.keys h.table.lawful boxes row.range x.split l r fit row.part
      (h.round_first _ _ h.kids.of_first) (h.round_second _ _ h.kids.of_second) h.join).fit in
      subst (λ z. IsLeastBox (boxes_in boxes t.keys a z) fit) same.2
      (subst (λ z. IsLeastBox (boxes_in boxes t.keys z x.last) fit) same.1 here)

  -- the later tree has a node of that number
  inside : number < length u.nodes
  inside = omega (arith, h.kids.inside, h.table.count, h.later.count, ap length h.keys)

  -- its row is full with that box
  row : IsFullRow t.keys boxes number (record (node_at u.nodes number) { fit = fit })
  row =
      let x = node_at u.nodes number in
      let own : IsNode t.keys number x.first x.last =
      subst (λ ks. IsNode ks number x.first x.last) h.keys (h.later.each number inside).range in
      record {
        row = row_with_box t.keys number x fit (record {
          range = own;
          part = (h.later.each number inside).part ∙ ap (λ ks. split ks x.first x.last) h.keys;
        });
        fit = round_node x.first x.last own;
      }

  -- what is left is a table
  pub put_table : IsTable v
  put_table =
      let made : IsTable (record { keys = u.keys; nodes = put_fit u.nodes number fit }) =
      table_with_box u.keys u.nodes number fit inside h.later in
      let there : IsTable (record { keys = u.keys; nodes = v.nodes }) =
      subst (λ ns. IsTable (record { keys = u.keys; nodes = ns })) (sym h.put) made in
      subst (λ ks. IsTable (record { keys = ks; nodes = v.nodes })) (sym h.same) there

  -- in which right rows stay right
  pub put_kept : (k : ℕ) → HasRow t.keys boxes u.nodes k → HasRow t.keys boxes v.nodes k
  put_kept k right = subst (λ ns. HasRow t.keys boxes ns k) (sym h.put)
      (row_kept t.keys boxes u.nodes number k _ row right)

  -- and those of the subtree are right
  pub put_made : ((k : ℕ) → IsUnder t.keys first k → HasRow t.keys boxes u.nodes k) →
      ((k : ℕ) → IsUnder t.keys second k → HasRow t.keys boxes u.nodes k) →
      (k : ℕ) → IsUnder t.keys (Inner number) k → HasRow t.keys boxes v.nodes k
  put_made in_first in_second k under = elim (under_cases t h.table number first second h.kids k under) [
    | inl own ↦ subst (λ ns. HasRow t.keys boxes ns k) (sym h.put)
        (row_here t.keys boxes u.nodes number k _ own row)
    | inr (inl left) ↦ put_kept k (in_first k left)
    | inr (inr right) ↦ put_kept k (in_second k right)
  ]
