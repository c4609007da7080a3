-- The boxes of live nodes are put back one by one, from the packets of their children.
use Rattle.std.proofs.Common.{◌≡◌, ℕ, suc, ◌+◌, ◌-◌, ◌<◌, ◌≤◌, inl, inr, false, refl, sym, ap, ◌∙◌, arith, subst, List, [], ◌∷◌, length}
use Rattle.std.specs.Prelude.{slice_index, All, AllPairs}
use Rattle.std.proofs.lemmas.Bool.{cases_lt, cases_Bool}
use Rattle.fixed_box.specs.declared.shapes.Box3.{Box3}
use Rattle.fixed_box.specs.Boxes.{IsLeastBox}
use Rattle.fixed_box.specs.Extent.{union_of}
use Rattle.fixed_box.proofs.Extents.{union_of-is_least}
use Rattle.radix_tree.specs.declared.nodes.Node.{Node}
use Rattle.radix_tree.specs.Split.{split}
use Rattle.radix_tree.specs.Ranges.{IsNode}
use Rattle.radix_tree.specs.Table.{Contents, node_at, put_fit, IsTable}
use Rattle.radix_tree.specs.Fit.{boxes_in, IsFitted}
use Rattle.radix_tree.specs.Filling.{IsFullRow, HasRow}
use Rattle.radix_tree.proofs.NumberLaws.{proper, range_of_node}
use Rattle.radix_tree.proofs.NodeLaws.{node_within, node_end, one_number, split_low, split_high, full_row}
use Rattle.radix_tree.proofs.DescentLaws.{row_range}
use Rattle.radix_tree.proofs.FillLaws.{row_here, row_kept, full_from_rows}
use Rattle.radix_tree.proofs.RowLaws.{row_with_box, table_with_box}
use Rattle.arrival_core.specs.declared.packets.Packet.{Packet}
use Rattle.arrival_core.specs.declared.packets.Side.TheVariants.{Left, Right}
use Rattle.arrival_core.specs.Settings.{Setting, setting, row_of, live_in, frame_of}
use Rattle.arrival_core.specs.Tasks.{IsTask, FitsButFor}
use Rattle.arrival_core.proofs.LiveRanges.{live_wider}
use Rattle.arrival_core.proofs.SplitNames.{Named, named, one_split, row_of_is}
use Rattle.arrival_core.proofs.StartLaws.{boxes_same}
use Rattle.box_handoff.specs.declared.fitted.Fitted.{Fitted}
use Rattle.box_handoff.specs.LiveNodes.{splits_of}
use Rattle.box_handoff.specs.Packets.{child_packet, AreLiveFitted}
use Rattle.box_handoff.proofs.PacketRows.{left_tells, right_tells}
use Rattle.box_handoff.proofs.SplitLists.{listed_shown, splits_have}
use Rattle.refit.specs.Putting.{IsNodeOf, IsPutting}

-- ---- the number of a node, by its children
module _ (t : Contents) (table : IsTable t) (i : ℕ) (l r : Packet) (d : IsNodeOf t.keys i l r) where
  -- the first position of a left child is a number of the tree
  pub first_inside : l.first < length t.nodes
  first_inside = omega (
    arith,
    node_within t.keys table.lawful d.node,
    split_low t.keys table.lawful d.node,
    split_high t.keys table.lawful d.node,
    table.count,
  )

  module _ (s : ℕ) (e : s ≡ (node_at t.nodes l.first).split) where
    -- a node with the same split has the same range
    pub by_first : s ≡ l.last → IsNode t.keys l.first l.first r.last
    by_first h =
        let y = node_at t.nodes l.first in
        let row = table.each l.first first_inside in
        let same = one_split t.keys table.lawful (range_of_node t.keys table.lawful row.range)
        (proper t.keys table.lawful row.range) (range_of_node t.keys table.lawful d.node)
        (proper t.keys table.lawful d.node) (sym row.part ∙ (sym e ∙ (h ∙ d.part))) in
        subst (λ z. IsNode t.keys l.first z r.last) same.0 (subst (λ z. IsNode t.keys l.first y.first z) same.1 row.range)

    -- else it is numbered by its last position
    pub by_last : (s ≡ l.last → ⊥) → IsNode t.keys r.last l.first r.last
    by_last other = elim (node_end t.keys table.lawful d.node) [
      | inl at ↦
          let y = node_at t.nodes l.first in
          let node : IsNode t.keys l.first l.first r.last = subst (λ z. IsNode t.keys z l.first r.last) at d.node in
          let row = row_range t table l.first l.first r.last node in
          let part = (table.each l.first first_inside).part in
          let same : s ≡ l.last = e ∙ (part
          ∙ (ap (λ z. split t.keys z y.last) row.1 ∙ (ap (λ z. split t.keys l.first z) row.2 ∙ sym d.part))) in
          absurd (other same)
      | inr at ↦ subst (λ z. IsNode t.keys z l.first r.last) at d.node
    ]

-- a table with another box is one
pub put_table : (t u : Contents) → IsTable t → (k : ℕ) (fit : Box3) → k < length t.nodes → u.keys ≡ t.keys →
    u.nodes ≡ put_fit t.nodes k fit → IsTable u
put_table t u table k fit lt keys nodes =
    let made : IsTable (record { keys = t.keys; nodes = put_fit t.nodes k fit }) =
    table_with_box t.keys t.nodes k fit lt table in
    let there : IsTable (record { keys = t.keys; nodes = u.nodes }) =
    subst (λ ns. IsTable (record { keys = t.keys; nodes = ns })) (sym nodes) made in
    subst (λ ks. IsTable (record { keys = ks; nodes = u.nodes })) (sym keys) there

-- ---- rows that are right already
module _ (t : Contents) (table : IsTable t) (boxes : List Box3) (live : List ℕ) (rest : FitsButFor t boxes live) where
  -- a node below which nothing is live is fitted
  pub still_row : (k : ℕ) → (lt : k < length t.nodes) →
      live_in live (node_at t.nodes k).first (node_at t.nodes k).last ≡ false → HasRow t.keys boxes t.nodes k
  still_row k lt dead =
      let x = node_at t.nodes k in
      let row = table.each k lt in
      let less = proper t.keys table.lawful row.range in
      let same : boxes_in rest.before t.keys x.first x.last ≡ boxes_in boxes t.keys x.first x.last =
      boxes_same x.last rest.before boxes t.keys x.first x.last (omega arith) (omega (arith, less))
      (node_within t.keys table.lawful row.range)
      (λ p l h. rest.same p (omega (arith, h, node_within t.keys table.lawful row.range))
      (live_wider live x.first x.last p p l h dead)) in
      record {
        here = λ _. record {
          row = row;
          fit = subst (λ bs. IsLeastBox bs x.fit) same (rest.fitted.each k lt);
        };
      }

  -- so the tree is, where no node is live
  pub still_fitted : length boxes ≡ length t.keys →
      ((k : ℕ) → k < length t.nodes → live_in live (node_at t.nodes k).first (node_at t.nodes k).last ≡ false) →
      IsFitted t boxes
  still_fitted count dead =
      (full_from_rows t.keys boxes t.nodes table.lawful count table.count (λ k lt. still_row k lt (dead k lt))).fitted

-- ---- one node more
module _ (x : Setting) (task : IsTask x) (old : List Node)
    (before : IsTable (record { keys = x.keys; nodes = old })) where
  -- the node with a live split
  pub node_at_split : (i : ℕ) → i < length (splits_of (frame_of x)) →
      Named x.keys task.lawful (slice_index (splits_of (frame_of x)) i)
  unfolding frame_of
  node_at_split i lt =
      let s = (listed_shown (frame_of x) i lt).0 in
      named x.keys task.lawful (slice_index (splits_of (frame_of x)) i) (omega (arith, s, task.two))

  module _ (r : Fitted) (fits : AreLiveFitted x r) (now : Contents) (i : ℕ) (h : IsPutting x old now i)
      (lt : i < length (splits_of (frame_of x))) (p q : Packet)
      (left_is : p ≡ child_packet x.keys x.boxes (slice_index (splits_of (frame_of x)) i) Left)
      (right_is : q ≡ child_packet x.keys x.boxes (slice_index (splits_of (frame_of x)) i) Right) where
    -- the node at that place
    abbrev n : Named x.keys task.lawful (slice_index (splits_of (frame_of x)) i)
    n = node_at_split i lt

    -- it is the node of these packets
    own : IsNodeOf x.keys n.number p q
    own =
        let a = left_tells x.keys task.lawful x.boxes _ p n.node n.parts left_is in
        let b = right_tells x.keys task.lawful x.boxes _ q n.node n.parts right_is in
        record {
          node = subst (λ z. IsNode x.keys n.number z q.last) (sym a.first)
              (subst (λ z. IsNode x.keys n.number n.first z) (sym b.last) n.node);
          part = a.last ∙ (sym n.parts ∙ (ap (λ z. split x.keys z n.last) (sym a.first)
              ∙ ap (λ z. split x.keys p.first z) (sym b.last)));
        }

    -- and so in the tree as it is now
    pub node_of_packets : IsNodeOf now.keys n.number p q
    node_of_packets = subst (λ ks. IsNodeOf ks n.number p q) (sym h.keys) own

    -- its number is one of the tree
    number_inside : n.number < length now.nodes
    number_inside = (row_range now h.table n.number p.first q.last node_of_packets.node).0

    -- its row, with the box round its children's
    abbrev row : Node
    row = record (node_at now.nodes n.number) { fit = union_of p.fit q.fit }

    -- that row is full
    full : IsFullRow x.keys x.boxes n.number row
    full =
        let y = node_at now.nodes n.number in
        let a = left_tells x.keys task.lawful x.boxes _ p n.node n.parts left_is in
        let b = right_tells x.keys task.lawful x.boxes _ q n.node n.parts right_is in
        let there : IsNode now.keys n.number n.first n.last = subst (λ ks. IsNode ks n.number n.first n.last)
        (sym h.keys) n.node in
        let is = row_range now h.table n.number n.first n.last there in
        let own_row = h.table.each n.number number_inside in
        let fit = (full_row x.keys task.lawful x.boxes n.node _ p.fit q.fit (union_of p.fit q.fit) (sym n.parts) a.fit
        (subst (λ z. IsLeastBox (boxes_in x.boxes x.keys z n.last) q.fit)
        (let z : suc (slice_index (splits_of (frame_of x)) i) ≡ slice_index (splits_of (frame_of x)) i + 1 = omega arith
        in z) b.fit) (union_of-is_least p.fit q.fit)).fit in
        record {
          row = row_with_box x.keys n.number y (union_of p.fit q.fit) (record {
            range = subst (λ ks. IsNode ks n.number y.first y.last) h.keys own_row.range;
            part = own_row.part ∙ ap (λ ks. split ks y.first y.last) h.keys;
          });
          fit = subst (λ z. IsLeastBox (boxes_in x.boxes x.keys y.first z) (union_of p.fit q.fit)) (sym is.2)
              (subst (λ z. IsLeastBox (boxes_in x.boxes x.keys z n.last) (union_of p.fit q.fit)) (sym is.1) fit);
        }

    -- an old node with that split is that node
    same_number : (k : ℕ) → k < length old → (node_at old k).split ≡ slice_index (splits_of (frame_of x)) i →
        k ≡ n.number
    same_number k small e =
        let own_row = before.each k small in
        let same = one_split x.keys task.lawful (range_of_node x.keys task.lawful own_row.range)
        (proper x.keys task.lawful own_row.range) (range_of_node x.keys task.lawful n.node)
        (proper x.keys task.lawful n.node) (sym own_row.part ∙ (e ∙ sym n.parts)) in
        one_number x.keys task.lawful (subst (λ z. IsNode x.keys k z n.last) same.0
        (subst (λ z. IsNode x.keys k (node_at old k).first z) same.1 own_row.range)) n.node

    -- one more node is put back
    pub put_more : (new : Contents) → new.keys ≡ now.keys → IsTable new →
        new.nodes ≡ put_fit now.nodes n.number (union_of p.fit q.fit) → IsPutting x old new (i + 1)
    put_more new keys table nodes = record {
      table = table;
      keys = keys ∙ h.keys;
      kept = λ k right. subst (λ ns. HasRow x.keys x.boxes ns k) (sym nodes)
          (row_kept x.keys x.boxes now.nodes n.number k row full (h.kept k right));
      made = λ k j less small e. subst (λ ns. HasRow x.keys x.boxes ns k) (sym nodes) (elim (cases_lt j i) [
        | inl low ↦ row_kept x.keys x.boxes now.nodes n.number k row full (h.made k j low small e)
        | inr high ↦
            let at : j ≡ i = omega arith in
            row_here x.keys x.boxes now.nodes n.number k row
            (same_number k small (e ∙ ap (slice_index (splits_of (frame_of x))) at)) full
      ]);
    }

  -- none yet
  pub put_none : (t : Contents) → t.keys ≡ x.keys → t.nodes ≡ old → IsTable t → IsPutting x old t 0
  put_none t keys nodes table = record {
    table = table;
    keys = keys;
    kept = λ k right. subst (λ ns. HasRow x.keys x.boxes ns k) (sym nodes) right;
    made = λ k j less small e. absurd (omega arith);
  }

  -- whether a node is live, by its row
  live_row : (k : ℕ) → (lt : k < length old) →
      (frame_of x).live_node (node_at old k).split ≡ live_in x.live (node_at old k).first (node_at old k).last
  unfolding frame_of
  live_row k lt =
      let y = node_at old k in
      let row = before.each k lt in
      let is = ap (row_of x.keys) row.part ∙ row_of_is x.keys task.lawful row.range in
      let rf : (row_of x.keys y.split).first ≡ y.first = ap (λ r. r.first) is in
      let rl : (row_of x.keys y.split).last ≡ y.last = ap (λ r. r.last) is in
      rw rf (rw rl refl)

  -- when all are put back, the tree is fitted
  module _ (rest : FitsButFor (record { keys = x.keys; nodes = old }) x.boxes x.live) (now : Contents) (i : ℕ)
      (h : IsPutting x old now i) (all : length (splits_of (frame_of x)) ≤ i) where
    -- the tree has as many nodes as before
    same_count : length now.nodes ≡ length old
    same_count = omega (arith, h.table.count, before.count, ap length h.keys)

    -- each of its rows is full
    right : (k : ℕ) → k < length now.nodes → HasRow x.keys x.boxes now.nodes k
    unfolding frame_of
    right k lt =
        let y = node_at old k in
        let small : k < length old = omega (arith, lt, same_count) in
        elim (cases_Bool ((frame_of x).live_node y.split)) [
          | inl on ↦
              let row = before.each k small in
              let high = split_high x.keys task.lawful row.range in
              let within = node_within x.keys task.lawful row.range in
              let has = splits_have (frame_of x) 0 (frame_of x).nodes y.split (omega arith)
              (omega (arith, row.part, high, within)) on in
              h.made k has.0 (omega (arith, has.1, all)) small (sym has.2)
          | inr off ↦ h.kept k (still_row (record { keys = x.keys; nodes = old }) before x.boxes x.live rest k small
              (sym (live_row k small) ∙ off))
        ]

    -- so it is fitted to the boxes
    pub all_fitted : IsFitted now x.boxes
    all_fitted =
        let room : length now.nodes ≡ length x.keys - 1 = omega (arith, h.table.count, ap length h.keys) in
        let full = full_from_rows x.keys x.boxes now.nodes task.lawful task.boxes_count room right in
        subst (λ ks. IsFitted (record { keys = ks; nodes = now.nodes }) x.boxes) (sym h.keys) full.fitted

-- no position lies in a range where none is live
pub none_live : (live : List ℕ) (a b : ℕ) → length live ≡ 0 → live_in live a b ≡ false
unfolding live_in
none_live [] a b e = refl
none_live (x ∷ xs) a b e = absurd (omega arith)

-- what the machine may be set to over a tree that has a node
pub task_is : (t : Contents) → IsTable t → (boxes : List Box3) (live : List ℕ) (workers : ℕ) →
    length boxes ≡ length t.keys → All (λ p. p < length t.keys) live → AllPairs (λ p q. p < q) live →
    0 < length t.nodes → 0 < length live → 0 < workers → IsTask (setting t.keys boxes live workers)
task_is t table boxes live workers count within rising node some one = record {
  lawful = table.lawful;
  two = omega (arith, table.count, node);
  boxes_count = count;
  within = within;
  rising = rising;
  some = some;
  one_worker = one;
}
