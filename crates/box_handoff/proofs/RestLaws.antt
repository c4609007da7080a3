-- The packet of a child that has no slot: a leaf's, or one that rests in a tree.
use Rattle.std.proofs.Common.{◌≡◌, ◌≢◌, ℕ, suc, ◌<◌, ◌≤◌, inl, inr, true, false, List, length, sym, refl, ap, ◌∙◌, subst, arith, Some, None}
use Rattle.std.proofs.lemmas.Bool.{cases_eq, cases_lt}
use Rattle.fixed_box.specs.declared.shapes.Box3.{Box3}
use Rattle.morton_key.specs.declared.keys.Key.{Key}
use Rattle.morton_key.specs.Keys.{IsLawful}
use Rattle.radix_tree.specs.declared.nodes.Child.{Child}
use Rattle.radix_tree.specs.declared.nodes.Child.TheVariants.{Leaf, Inner}
use Rattle.radix_tree.specs.Split.{split}
use Rattle.radix_tree.specs.Ranges.{IsRange, IsNode, HasRange}
use Rattle.radix_tree.specs.Ranges.IsNode.{root, left_of, right_of}
use Rattle.radix_tree.specs.Table.{Contents, IsTable, node_at}
use Rattle.radix_tree.proofs.NumberLaws.{proper}
use Rattle.radix_tree.proofs.NodeLaws.{node_within, split_low, split_high}
use Rattle.radix_tree.proofs.RangeLaws.{range_laws}
use Rattle.radix_tree.proofs.DescentLaws.{row_range}
use Rattle.arrival_core.specs.declared.packets.Packet.{Packet}
use Rattle.arrival_core.specs.declared.packets.Side.{Side}
use Rattle.arrival_core.specs.declared.packets.Side.TheVariants.{Left, Right}
use Rattle.arrival_core.specs.Frames.{Frame, packet_at, packet_below}
use Rattle.arrival_core.specs.Frames.Below.{leaf}
use Rattle.arrival_core.specs.Settings.{setting, row_of, below, child_of, frame_of}
use Rattle.arrival_core.specs.Tasks.{IsTask, FitsButFor}
use Rattle.arrival_core.specs.Terrains.{table_packet}
use Rattle.arrival_core.proofs.SplitNames.{Named, named, row_of_is}
use Rattle.arrival_core.proofs.Parents.{range_node, below_leaf, below_inner}
use Rattle.arrival_core.proofs.SplitRanges.{node_of, left_is, right_is, left_range, right_range}
use Rattle.arrival_core.proofs.StartLaws.{table_packet_is}
use Rattle.box_handoff.specs.declared.views.Given.{Given}
use Rattle.box_handoff.specs.declared.laying.Moves.{Moves}
use Rattle.box_handoff.specs.LiveNodes.{AreSpots, slot_below, slotted}
use Rattle.box_handoff.specs.Entries.{IsGiven, IsResting, Rests, setting_of, frame}
use Rattle.box_handoff.specs.Laying.{AreMoves, over, setting_over, terrain_of}
use Rattle.box_handoff.specs.Resting.{first_below, last_below, leaf_below}
use Rattle.box_handoff.proofs.LayLaws.{terrain, live_row}

module _ (keys : List Key) (ok : IsLawful keys) where
  -- a node that ends at its number is the left child of the node with that split
  left_row : {i a b : ℕ} → IsNode keys i a b → i ≡ b → (row_of keys i).first ≡ a
  left_row (root {b = b} more e) is = absurd (omega arith)
  left_row (left_of {i = i} {a = a} {b = b} {s = s} d e low) is =
      subst (λ (n : ℕ). (row_of keys n).first ≡ a) e (ap (λ r. r.first) (row_of_is keys ok d))
  left_row (right_of {i = i} {a = a} {b = b} {s = s} d e high) is = absurd (omega arith)

  -- and one that begins at it is the right child of the one with the split before
  right_row : {i a b : ℕ} → IsNode keys i a b → i ≡ a → (s : ℕ) → i ≡ suc s → (row_of keys s).last ≡ b
  right_row (root {b = b} more e) is s at = absurd (omega arith)
  right_row (left_of {i = i} {a = a} {b = b} {s = t} d e low) is s at = absurd (omega arith)
  right_row (right_of {i = i} {a = a} {b = b} {s = t} d e high) is s at =
      let same : t ≡ s = omega arith in
      subst (λ (n : ℕ). (row_of keys n).last ≡ b) (e ∙ same) (ap (λ r. r.last) (row_of_is keys ok d))

module _ (t : Contents) (table : IsTable t) (s : ℕ) (lt : s < length t.nodes) where
  -- the node with that split
  here : Named t.keys table.lawful s
  here = named t.keys table.lawful s (omega (arith, lt, table.count))

  -- its row begins where it does
  first_is : (row_of t.keys s).first ≡ here.first
  first_is = ap (λ r. r.first) (ap (row_of t.keys) (sym here.parts) ∙ row_of_is t.keys table.lawful here.node)

  -- and ends where it does
  last_is : (row_of t.keys s).last ≡ here.last
  last_is = ap (λ r. r.last) (ap (row_of t.keys) (sym here.parts) ∙ row_of_is t.keys table.lawful here.node)

  -- the left child is the node of that number, if that ends there
  pub left_inner : (node_at t.nodes s).last ≡ s → IsNode t.keys s (row_of t.keys s).first s
  left_inner e =
      let d : IsNode t.keys s (node_at t.nodes s).first s
      = subst (λ (n : ℕ). IsNode t.keys s (node_at t.nodes s).first n) e (table.each s lt).range in
      subst (λ (n : ℕ). IsNode t.keys s n s) (sym (left_row t.keys table.lawful d refl)) d

  -- and else a leaf
  pub left_leaf : (node_at t.nodes s).last ≢ s → s ≡ (row_of t.keys s).first
  left_leaf ne =
      let low = split_low t.keys table.lawful here.node in
      elim (cases_lt here.first s) [
        | inl less ↦
            let row = row_range t table s here.first s (left_of here.node here.parts less) in absurd (ne row.2)
        | inr more ↦ omega (arith, low, here.parts, more, first_is)
      ]

  -- the right child is the node of the next number, if that begins there
  pub right_inner : (k : ℕ) → k ≡ suc s → k < length t.nodes → (node_at t.nodes k).first ≡ k →
      IsNode t.keys k (suc s) (row_of t.keys s).last
  right_inner k is less e =
      let d : IsNode t.keys k k (node_at t.nodes k).last
      = subst (λ (n : ℕ). IsNode t.keys k n (node_at t.nodes k).last) e (table.each k less).range in
      subst (λ (n : ℕ). IsNode t.keys k (suc s) n) (sym (right_row t.keys table.lawful d refl s is))
      (subst (λ (n : ℕ). IsNode t.keys k n (node_at t.nodes k).last) is d)

  -- and else a leaf
  pub right_leaf : (k : ℕ) → k ≡ suc s → (k < length t.nodes → (node_at t.nodes k).first ≢ k) →
      k ≡ (row_of t.keys s).last
  right_leaf k is ne =
      let high = split_high t.keys table.lawful here.node in
      elim (cases_lt (suc s) here.last) [
        | inl less ↦
            let d : IsNode t.keys k k here.last = subst (λ (n : ℕ). IsNode t.keys n n here.last) (sym is)
            (right_of here.node here.parts less) in
            let row = row_range t table k k here.last d in absurd (ne row.0 row.1)
        | inr more ↦ omega (arith, high, here.parts, more, last_is, is)
      ]

module _ (m : Moves) (ok : AreMoves m) where
  -- the packet of what has a range and no slot, as the tree has it
  resting_is : (child : Child) (a b : ℕ) → HasRange m.tree.now.keys child a b → b < length m.tree.now.keys →
      slot_below (over m) (below m.tree.now.keys a b) ≡ false →
      table_packet (terrain_of m) child ≡ packet_below (over m) (below m.tree.now.keys a b)
  unfolding frame_of packet_below slot_below
  resting_is (Leaf p) a b (e, f) lt off =
      subst (λ z. table_packet (terrain_of m) (Leaf p) ≡ packet_below (over m) (below m.tree.now.keys a z)) f
      (subst (λ z. table_packet (terrain_of m) (Leaf p) ≡ packet_below (over m) (below m.tree.now.keys z p)) e
      (rw (below_leaf m.tree.now.keys ok.table.lawful p) refl))
  resting_is (Inner i) a b d lt off =
      let less = proper m.tree.now.keys ok.table.lawful d in
      let still : (over m).live_node (split m.tree.now.keys a b) ≡ false
      = sym (ap (slot_below (over m)) (below_inner m.tree.now.keys ok.table.lawful a b less)) ∙ off in
      table_packet_is (terrain_of m) m.seats (terrain m ok) ok.rest (Inner i) a b d (omega (arith, less)) lt
      (sym (live_row m ok i a b d) ∙ still)

  -- so that of a child
  pub rest_is : (child : Child) (s : ℕ) (d : Side) → s < (over m).nodes → slotted (over m) s d ≡ false →
      HasRange m.tree.now.keys child (first_below m.tree.now.keys s d) (last_below m.tree.now.keys s d) →
      table_packet (terrain_of m) child ≡ packet_at (over m) s d
  unfolding frame_of packet_at slotted child_of
  rest_is child s Left lt off h = resting_is child (row_of m.tree.now.keys s).first s h (omega (arith, lt)) off
  rest_is child s Right lt off h =
      let n = named m.tree.now.keys ok.table.lawful s (omega (arith, lt)) in
      let row : (row_of m.tree.now.keys s).last ≡ n.last
      = ap (λ r. r.last) (ap (row_of m.tree.now.keys) (sym n.parts) ∙ row_of_is m.tree.now.keys ok.table.lawful n.node) in
      let w = node_within m.tree.now.keys ok.table.lawful n.node in
      resting_is child (suc s) (row_of m.tree.now.keys s).last h (omega (arith, w, row)) off

-- a child that is a leaf has a leaf's packet
pub leaf_told : (f : Frame) (s : ℕ) (d e : Side) (k : ℕ) {p : Packet} → d ≡ e → f.child s d ≡ leaf (leaf_below s d) →
    p ≡ f.leaf_packet k → k ≡ leaf_below s e → p ≡ packet_at f s d
unfolding packet_at packet_below
leaf_told f s d e k same child is at = is ∙ ap f.leaf_packet (at ∙ ap (leaf_below s) (sym same))
    ∙ sym (ap (packet_below f) child)

module _ (g : Given) (ok : IsGiven g) where
  -- where all are live, what has no slot is one leaf
  one_leaf : g.spots ≡ None → (a b : ℕ) → IsRange g.keys a b → slot_below (frame g) (below g.keys a b) ≡ false → a ≡ b
  unfolding frame frame_of slot_below
  one_leaf none a b r off = elim (cases_eq a b) [
    | inl e ↦ e
    | inr ne ↦
        let order = (range_laws g.keys ok.task.lawful r).order in
        let lt : a < b = omega (arith, order, ne) in
        let d = range_node g.keys ok.task.lawful r lt in
        let high = split_high g.keys ok.task.lawful d.1 in
        let within = node_within g.keys ok.task.lawful d.1 in
        let all : AreSpots (frame g) None = subst (AreSpots (frame g)) none ok.spots in
        let on : (frame g).live_node (split g.keys a b) ≡ true = all (split g.keys a b) (omega (arith, high, within)) in
        let still : (frame g).live_node (split g.keys a b) ≡ false
        = sym (ap (slot_below (frame g)) (below_inner g.keys ok.task.lawful a b lt)) ∙ off in
        let no : true ≡ false = sym on ∙ still in cc
  ]

  -- so a child that has none is the leaf beside the split
  pub leaf_is : g.spots ≡ None → (t : ℕ) (d : Side) → t < (frame g).nodes → slotted (frame g) t d ≡ false →
      (frame g).child t d ≡ leaf (leaf_below t d)
  unfolding frame frame_of slotted
  leaf_is none t Left lt off =
      let is = left_is (setting_of g) ok.task t lt in
      let e = one_leaf none (node_of (setting_of g) ok.task t lt).first t (left_range (setting_of g) ok.task t lt)
      (sym (ap (slot_below (frame g)) is) ∙ off) in
      is ∙ ap (λ (n : ℕ). below g.keys n t) e ∙ below_leaf g.keys ok.task.lawful t
  leaf_is none t Right lt off =
      let is = right_is (setting_of g) ok.task t lt in
      let e = one_leaf none (suc t) (node_of (setting_of g) ok.task t lt).last (right_range (setting_of g) ok.task t lt)
      (sym (ap (slot_below (frame g)) is) ∙ off) in
      is ∙ ap (below g.keys (suc t)) (sym e) ∙ below_leaf g.keys ok.task.lawful (suc t)

  -- else the tree is there, with a node for each split
  module _ (t : Contents) (tree : g.tree ≡ Some t) where
    -- in which what is not live rests
    resting : IsResting g t
    resting = subst (Rests g) tree ok.rests

    -- it has a node for each split of the frame
    pub nodes_same : (s : ℕ) → s < (frame g).nodes → s < length t.nodes
    unfolding frame frame_of
    nodes_same s lt =
        let n = ap (λ (l : List Key). length l) resting.keys_are in omega (arith, lt, n, resting.table.count)

    -- what stands below a node ends among the keys
    pub last_low : (s : ℕ) (d : Side) → s < (frame g).nodes → last_below t.keys s d < length t.keys
    unfolding frame frame_of
    last_low s Left lt = let n = ap (λ (l : List Key). length l) resting.keys_are in omega (arith, lt, n)
    last_low s Right lt =
        let at = nodes_same s lt in
        let w = node_within t.keys resting.table.lawful (here t resting.table s at).node in
        omega (arith, w, last_is t resting.table s at)

  -- it may be told from
  module _ (m : Moves) (tree : g.tree ≡ Some m.tree.now) (boxes : m.boxes.now ≡ g.boxes) (live : m.live.now ≡ g.live)
      (seats : m.seats ≡ g.seats) where
    -- it rests
    rests : IsResting g m.tree.now
    rests = subst (Rests g) tree ok.rests

    -- over the same keys, boxes and live positions
    setting_same : setting_over m ≡ setting_of g
    setting_same = ap (λ (k : List Key). setting k m.boxes.now m.live.now m.seats) (sym rests.keys_are)
        ∙ ap (λ (b : List Box3). setting g.keys b m.live.now m.seats) boxes
        ∙ ap (λ (l : List ℕ). setting g.keys g.boxes l m.seats) live
        ∙ ap (λ (n : ℕ). setting g.keys g.boxes g.live n) seats

    -- so its frame is the handoff's
    pub frame_same : over m ≡ frame g
    unfolding frame
    frame_same = ap frame_of setting_same

    -- and packets may be told from it
    pub are_moves : AreMoves m
    are_moves = record {
      table = rests.table;
      task = subst IsTask (sym setting_same) ok.task;
      few = subst (λ (n : ℕ). n ≤ 64) (sym seats) ok.few;
      rest = subst (λ (b : List Box3). FitsButFor m.tree.now b m.live.now) (sym boxes)
          (subst (λ (l : List ℕ). FitsButFor m.tree.now g.boxes l) (sym live) rests.rest);
    }
