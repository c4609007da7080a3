-- The rows of a table, written from the packets of the nodes' children.
use Rattle.std.proofs.Common.{◌≡◌, ℕ, suc, ◌+◌, ◌-◌, ◌<◌, ◌≤◌, inl, inr, Bool, List, length, sym, refl, ap, ◌∙◌, subst, arith}
use Rattle.std.proofs.lemmas.Bool.{cases_lt}
use Rattle.std.proofs.Math.ListN.{length-set}
use Rattle.fixed_box.specs.declared.shapes.Box3.{Box3}
use Rattle.fixed_box.specs.Boxes.{IsLeastBox}
use Rattle.fixed_box.specs.Extent.{union_of}
use Rattle.fixed_box.proofs.Extents.{union_of-is_least}
use Rattle.morton_key.specs.declared.keys.Key.{Key}
use Rattle.morton_key.specs.Keys.{IsLawful}
use Rattle.radix_tree.specs.declared.nodes.Node.{Node}
use Rattle.radix_tree.specs.Split.{split}
use Rattle.radix_tree.specs.Ranges.{IsNode, root, left_of, right_of}
use Rattle.radix_tree.specs.Table.{Contents}
use Rattle.radix_tree.specs.Fit.{boxes_in, IsFitted}
use Rattle.radix_tree.specs.Filling.{IsFullRow, HasRow}
use Rattle.radix_tree.proofs.NumberLaws.{node_at}
use Rattle.radix_tree.proofs.NodeLaws.{node_within, split_high, full_row}
use Rattle.radix_tree.proofs.FillLaws.{row_here, row_kept, IsFull, full_from_rows}
use Rattle.arrival_core.specs.declared.packets.Packet.{Packet}
use Rattle.arrival_core.specs.declared.packets.Side.TheVariants.{Left, Right}
use Rattle.arrival_core.proofs.SplitNames.{Named, named}
use Rattle.arrival_core.specs.Tasks.{IsWhole}
use Rattle.box_handoff.specs.declared.fitted.Fitted.{Fitted}
use Rattle.box_handoff.specs.declared.slots.SlotPacket.{SlotPacket}
use Rattle.box_handoff.specs.declared.views.Given.{Given}
use Rattle.box_handoff.specs.Entries.{setting_of}
use Rattle.box_handoff.specs.Packets.{child_packet, AreFitted}
use Rattle.box_handoff.specs.Assembling.{row, root_row, IsRoot, PutsChild, PutsRoot, PutsRows, AreWritten, IsWriting, IsWritingOut}
use Rattle.box_handoff.proofs.PacketRows.{tells_row, left_tells, right_tells}

-- the list stays as long
pub child_count : (old new : List Node) (k : ℕ) (p : Packet) → PutsChild old new k p → length new ≡ length old
child_count old new k p puts = elim puts [
  | inl put ↦ ap (λ l. length l) put.1
      ∙ length-set old k (row p)
  | inr same ↦ ap (λ l. length l) same.1
]

-- a root put into a list leaves as many nodes
pub root_count : (old new : List Node) (s : ℕ) (l r : Packet) → PutsRoot old new s l r → length new ≡ length old
root_count old new s l r puts = elim puts [
  | inl put ↦ ap (λ xs. length xs) put.1
      ∙ length-set old 0 (root_row s l r)
  | inr same ↦ ap (λ xs. length xs) same.1
]

-- and so do two rows
pub rows_count : (old new : List Node) (t : ℕ) (l r : Packet) → PutsRows old new t l r → length new ≡ length old
rows_count old new t l r puts = root_count puts.1 new t l r puts.4 ∙ child_count puts.0 puts.1 (t + 1) r puts.3
    ∙ child_count old puts.0 t l puts.2

module _ (keys : List Key) (ok : IsLawful keys) (boxes : List Box3) where
  -- ---- a child's row

  -- what was right stays right
  child_kept : (old new : List Node) (k : ℕ) (p : Packet) → PutsChild old new k p →
      (p.first < p.last → IsFullRow keys boxes k (row p)) →
      (x : ℕ) → HasRow keys boxes old x → HasRow keys boxes new x
  child_kept old new k p puts full x h = elim puts [
    | inl put ↦ rw put.1 (row_kept keys boxes old k x (row p) (full put.0) h)
    | inr same ↦ rw same.1 h
  ]

  -- and the child's is there
  child_here : (old new : List Node) (k : ℕ) (p : Packet) → PutsChild old new k p → p.first < p.last →
      IsFullRow keys boxes k (row p) →
      HasRow keys boxes new k
  child_here old new k p puts lt full = elim puts [
    | inl put ↦ rw put.1 (row_here keys boxes old k k (row p) refl full)
    | inr same ↦ absurd (omega (arith, same.0, lt))
  ]

  -- ---- the root's row
  root_kept : (old new : List Node) (s : ℕ) (l r : Packet) → PutsRoot old new s l r →
      (IsRoot old l r → IsFullRow keys boxes 0 (root_row s l r)) → (x : ℕ) → HasRow keys boxes old x →
      HasRow keys boxes new x
  root_kept old new s l r puts full x h = elim puts [
    | inl put ↦ rw put.1 (row_kept keys boxes old 0 x (root_row s l r) (full put.0) h)
    | inr same ↦ rw same.1 h
  ]

  -- and it is there, where the packets are the root's
  root_here : (old new : List Node) (s : ℕ) (l r : Packet) → PutsRoot old new s l r → IsRoot old l r →
      IsFullRow keys boxes 0 (root_row s l r) → HasRow keys boxes new 0
  root_here old new s l r puts is full = elim puts [
    | inl put ↦ rw put.1 (row_here keys boxes old 0 0 (root_row s l r) refl full)
    | inr same ↦ absurd (same.0 is)
  ]

  -- ---- the packets of the children of the node with split t are written
  module _ (t k : ℕ) (lt : t < length keys - 1) (next : k ≡ suc t) (l r : Packet)
      (l_is : l ≡ child_packet keys boxes t Left)
      (r_is : r ≡ child_packet keys boxes t Right) (a b c d : List Node) (count : length c ≡ length keys - 1)
      (puts_left : PutsChild a b t l) (puts_right : PutsChild b c k r) (puts_root : PutsRoot c d t l r) where
    -- the node that its split names
    node : Named keys ok t
    node = named keys ok t (omega (arith, lt))

    -- the left child's row is right, where that is an inner node
    left_full : l.first < l.last → IsFullRow keys boxes t (row l)
    left_full less =
        let tells = left_tells keys ok boxes t l node.node node.parts l_is in
        let low : node.first < t = omega (arith, less, tells.first, tells.last) in
        tells_row keys ok boxes node.first t l tells low (left_of node.node node.parts low)

    -- so is the right child's
    right_full : r.first < r.last → IsFullRow keys boxes k (row r)
    right_full less =
        let tells = right_tells keys ok boxes t r node.node node.parts r_is in
        let high : suc t < node.last = omega (arith, less, tells.first, tells.last) in
        subst (λ z. IsFullRow keys boxes z (row r)) (sym next)
        (tells_row keys ok boxes (suc t) node.last r tells high (right_of node.node node.parts high))

    -- and the root's, where the node is the root
    root_full : IsRoot c l r → IsFullRow keys boxes 0 (root_row t l r)
    root_full is =
        let lefts = left_tells keys ok boxes t l node.node node.parts l_is in
        let rights = right_tells keys ok boxes t r node.node node.parts r_is in
        let first : node.first ≡ 0 = sym lefts.first ∙ is.0 in
        let last : node.last ≡ r.last = sym rights.last in
        let whole : suc r.last ≡ length keys = omega (arith, is.1, count, lt) in
        let more : 0 < r.last = omega (arith, is.1, count, lt) in
        let part : t ≡ split keys 0 r.last = sym node.parts ∙ ap (λ z. split keys z node.last) first
        ∙ ap (split keys 0) last in
        let above : suc t ≡ t + 1 = omega arith in
        full_row keys ok boxes (root more whole) t l.fit r.fit (union_of l.fit r.fit) part
        (subst (λ z. IsLeastBox (boxes_in boxes keys z t) l.fit) first lefts.fit)
        (subst (λ z. IsLeastBox (boxes_in boxes keys z r.last) r.fit) above
        (subst (λ z. IsLeastBox (boxes_in boxes keys (suc t) z) r.fit) last rights.fit))
        (union_of-is_least l.fit r.fit)

    -- what was right before stays right
    stays : (x : ℕ) → HasRow keys boxes a x → HasRow keys boxes d x
    stays x h = root_kept c d t l r puts_root root_full x
        (child_kept b c k r puts_right right_full x (child_kept a b t l puts_left left_full x h))

    -- so one node more is written
    written : AreWritten keys boxes t a → AreWritten keys boxes (t + 1) d
    written w = record {
      lefts = λ i x y s n e low less. elim (cases_lt s t) [
        | inl before ↦ stays s (w.lefts i x y s n e low before)
        | inr at ↦
            let same : t ≡ s = omega (arith, less, at) in
            let tells = left_tells keys ok boxes t l n (e ∙ sym same) l_is in
            let is : l.first < l.last = omega (arith, tells.first, tells.last, low, same) in
            subst (λ z. HasRow keys boxes d z) same
            (root_kept c d t l r puts_root root_full t (child_kept b c k r puts_right right_full t
            (child_here a b t l puts_left is (left_full is))))
      ];
      rights = λ i x y s n e high less. elim (cases_lt s t) [
        | inl before ↦ stays (suc s) (w.rights i x y s n e high before)
        | inr at ↦
            let same : t ≡ s = omega (arith, less, at) in
            let tells = right_tells keys ok boxes t r n (e ∙ sym same) r_is in
            let is : r.first < r.last = omega (arith, tells.first, tells.last, high, same) in
            subst (λ z. HasRow keys boxes d z) (next ∙ ap suc same)
            (root_kept c d t l r puts_root root_full k (child_here b c k r puts_right is (right_full is)))
      ];
      root = λ y more whole less. elim (cases_lt (split keys 0 y) t) [
        | inl before ↦ stays 0 (w.root y more whole before)
        | inr at ↦
            let same : split keys 0 y ≡ t = omega (arith, less, at) in
            let lefts = left_tells keys ok boxes t l (root more whole) same l_is in
            let rights = right_tells keys ok boxes t r (root more whole) same r_is in
            let is : IsRoot c l r = (lefts.first, omega (arith, rights.last, whole, count)) in
            root_here c d t l r puts_root is (root_full is)
      ];
    }

  -- the rows that the packets of one node's children tell make one split more written
  pub rows_written : (t : ℕ) → t < length keys - 1 → (l r : Packet) → l ≡ child_packet keys boxes t Left →
      r ≡ child_packet keys boxes t Right → (old new : List Node) → length old ≡ length keys - 1 →
      PutsRows old new t l r → AreWritten keys boxes t old → AreWritten keys boxes (t + 1) new
  rows_written t lt l r l_is r_is old new count puts w =
      let b : List Node = puts.0 in
      let c : List Node = puts.1 in
      let long = child_count b c (t + 1) r puts.3 ∙ child_count old b t l puts.2 ∙ count in
      written t (t + 1) lt (omega arith) l r l_is r_is old b c new long puts.2 puts.3 puts.4 w

  -- when all are written, every row is there
  all_rows : (nodes : List Node) (t : ℕ) → length keys - 1 ≤ t → AreWritten keys boxes t nodes →
      {i x y : ℕ} → IsNode keys i x y → HasRow keys boxes nodes i
  all_rows nodes t le w (root {b = b} more e) = w.root b more e (omega (arith, le, split_high keys ok (root more e), e))
  all_rows nodes t le w (left_of {i = i} {a = a} {b = b} {s = s} d e low) =
      w.lefts i a b s d e low (omega (arith, le, split_high keys ok d, node_within keys ok d, e))
  all_rows nodes t le w (right_of {i = i} {a = a} {b = b} {s = s} d e high) =
      w.rights i a b s d e high (omega (arith, le, split_high keys ok d, node_within keys ok d, e))

  -- so the list is the table
  pub all_written : (nodes : List Node) (t : ℕ) → length boxes ≡ length keys → length nodes ≡ length keys - 1 →
      length keys - 1 ≤ t →
      AreWritten keys boxes t nodes → IsFull keys boxes nodes
  all_written nodes t boxed count le w = full_from_rows keys boxes nodes ok boxed count
      (λ i lt. all_rows nodes t le w (node_at keys ok i (omega (arith, count, lt))).is_node)

  -- nothing is to be written before the first
  pub none_written : (nodes : List Node) → AreWritten keys boxes 0 nodes
  none_written nodes = record {
    lefts = λ i a b s d e low lt. absurd (omega arith);
    rights = λ i a b s d e high lt. absurd (omega arith);
    root = λ b more whole lt. absurd (omega arith);
  }

  -- the number of a right child that is inner is a node's
  pub right_within : (t : ℕ) (r : Packet) → t < length keys - 1 → r ≡ child_packet keys boxes t Right →
      r.first < r.last →
      suc t < length keys - 1
  right_within t r lt is less =
      let n = named keys ok t (omega (arith, lt)) in
      let tells = right_tells keys ok boxes t r n.node n.parts is in
      let high = node_within keys ok n.node in omega (arith, less, tells.first, tells.last, high)

-- a list whose rows are all written is the table, fitted to whatever boxes the packets are
pub whole_table : (keys : List Key) (ok : IsLawful keys) (boxes : List Box3) (x : Fitted) (t : ℕ) (nodes : List Node) →
    IsWriting keys x t nodes → length keys - 1 ≤ t → length boxes ≡ length keys → AreFitted keys boxes x →
    IsFull keys boxes nodes
whole_table keys ok boxes x t nodes w le boxed fits =
    all_written keys ok boxes nodes t boxed w.count le (w.written boxes boxed fits)

-- a tree is its keys and its nodes
pub same_tree : (t : Contents) (keys : List Key) (nodes : List Node) (boxes : List Box3) → t.keys ≡ keys →
    t.nodes ≡ nodes →
    IsFitted (record { keys = keys; nodes = nodes }) boxes → IsFitted t boxes
same_tree t keys nodes boxes k n h = subst (λ ks. IsFitted (record { keys = ks; nodes = t.nodes }) boxes) (sym k)
    (subst (λ ns. IsFitted (record { keys = keys; nodes = ns }) boxes) (sym n) h)

-- what is written when all rows are is the table, and fitted
pub all_out : (g : Given) → IsWhole (setting_of g) → (slots : List SlotPacket) (filled : List Bool) (places : ℕ)
    (here : SlotPacket) (t : ℕ) (nodes : List Node) → IsWritingOut g slots filled places here t nodes → length g.keys - 1 ≤ t → IsFull g.keys g.boxes nodes
all_out g whole slots filled places here t nodes w le =
    all_written g.keys whole.lawful g.boxes nodes t whole.boxes_count w.count le w.written
