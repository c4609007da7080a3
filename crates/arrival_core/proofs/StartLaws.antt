-- The packets of a tree's table, where nothing below is live, are those of the machine.
use Rattle.std.proofs.Common.{◌≡◌, ◌≢◌, ℕ, suc, zero, ◌+◌, ◌<◌, ◌≤◌, refl, sym, ap, ◌∙◌, arith, inl, inr, subst, List, [], ◌∷◌, ◌++◌, length, Bool, true, false}
use Rattle.std.specs.Prelude.{◌||◌, not}
use Rattle.std.proofs.lemmas.Bool.{cases_eq}
use Rattle.fixed_box.specs.declared.shapes.Box3.{Box3}
use Rattle.morton_key.specs.declared.keys.Key.{Key}
use Rattle.morton_key.specs.Keys.{tri_at}
use Rattle.radix_tree.specs.Fit.{box_of_triangle, boxes_in}
use Rattle.radix_tree.proofs.FitLaws.{boxes_in-one, boxes_in-parted}
use Rattle.fixed_box.specs.Boxes.{IsLeastBox}
use Rattle.fixed_box.proofs.LeastBoxes.{one_least_box}
use Rattle.radix_tree.specs.declared.nodes.Child.{Child}
use Rattle.radix_tree.specs.declared.nodes.Child.TheVariants.{Leaf, Inner}
use Rattle.radix_tree.specs.Split.{split}
use Rattle.radix_tree.specs.Ranges.{IsRange, HasRange}
use Rattle.radix_tree.specs.Fit.{least_box_of}
use Rattle.radix_tree.specs.Table.{Contents, node_at, IsTable}
use Rattle.radix_tree.proofs.NumberLaws.{proper}
use Rattle.radix_tree.proofs.DescentLaws.{row_range}
use Rattle.radix_tree.proofs.OneTable.{least_box_of-is_least}
use Rattle.arrival_core.specs.declared.packets.Packet.{Packet}
use Rattle.arrival_core.specs.declared.packets.Side.TheVariants.{Left, Right}
use Rattle.arrival_core.specs.declared.terrains.Terrain.{Terrain}
use Rattle.arrival_core.specs.declared.forks.Fork.{Fork}
use Rattle.arrival_core.specs.Frames.{packet_below, live_at, packet_at, Frame}
use Rattle.arrival_core.specs.Settings.{live_in, row_of, below, frame_of, child_of}
use Rattle.arrival_core.specs.Tasks.{IsTask, FitsButFor}
use Rattle.arrival_core.specs.Terrains.{IsTerrain, frame_at, table_packet, start_branch, IsStartFork}
use Rattle.radix_tree.specs.declared.nodes.Node.{Node}
use Rattle.radix_tree.specs.Ranges.IsRange.{left, right}
use Rattle.radix_tree.proofs.NumberLaws.{range_of_node}
use Rattle.arrival_core.proofs.Parents.{child_left, child_right}
use Rattle.arrival_core.proofs.Descending.{read}
use Rattle.arrival_core.proofs.SplitRanges.{live_of_range}
use Rattle.arrival_core.proofs.Framing.{live_is}
use Rattle.arrival_core.specs.Forks.{fork_at}
use Rattle.arrival_core.proofs.ForkLaws.{set_here, set_apart}
use Rattle.std.proofs.Common.{set}
use Rattle.arrival_core.proofs.SplitNames.{row_of_is, named}
use Rattle.arrival_core.proofs.Parents.{below_leaf, below_inner}
use Rattle.arrival_core.proofs.LiveRanges.{live_wider}

-- lists of boxes that agree on a range have the same boxes there
pub boxes_same : (f : ℕ) (xs ys : List Box3) (keys : List Key) (a b : ℕ) → b ≤ a + f → a ≤ b → b < length keys →
    ((p : ℕ) → a ≤ p → p ≤ b → box_of_triangle xs (tri_at keys p) ≡ box_of_triangle ys (tri_at keys p)) →
    boxes_in xs keys a b ≡ boxes_in ys keys a b
boxes_same zero xs ys keys a b le low lt same =
    let e : b ≡ a = omega arith in
    rw e (boxes_in-one xs keys a (omega arith)
    ∙ (ap (λ x. x ∷ []) (same a (omega arith) low) ∙ sym (boxes_in-one ys keys a (omega arith))))
boxes_same (suc f) xs ys keys a b le low lt same = elim (cases_eq a b) [
  | inl e ↦ subst (λ z. boxes_in xs keys a z ≡ boxes_in ys keys a z) e (boxes_in-one xs keys a (omega arith)
      ∙ (ap (λ x. x ∷ []) (same a (omega arith) low) ∙ sym (boxes_in-one ys keys a (omega arith))))
  | inr ne ↦
      let less : a < b = omega arith in
      let rest = boxes_same f xs ys keys (suc a) b (omega arith) less lt (λ p l h. same p (omega arith) h) in
      let one : boxes_in xs keys a a ≡ boxes_in ys keys a a = boxes_in-one xs keys a (omega arith)
      ∙ (ap (λ x. x ∷ []) (same a (omega arith) low) ∙ sym (boxes_in-one ys keys a (omega arith))) in
      boxes_in-parted xs keys a a b (omega arith) less
      ∙ (ap (λ z. z ++ boxes_in xs keys (suc a) b) one
      ∙ (ap (λ z. boxes_in ys keys a a ++ z) rest ∙ sym (boxes_in-parted ys keys a a b (omega arith) less)))
]

-- a branch starts alike from equal facts
pub start_branch_same : (l m : Bool) (p q : Packet) → l ≡ m → (m ≡ false → p ≡ q) → start_branch l p ≡ start_branch m q
start_branch_same l true p q e same = rw e refl
start_branch_same l false p q e same = rw e (rw (same refl) refl)

-- the packet in the table of a child below which nothing is live
pub table_packet_is : (g : Terrain) (workers : ℕ) → IsTerrain g → FitsButFor g.tree.now g.boxes.now g.live.now →
    (ch : Child) (a b : ℕ) → HasRange g.tree.now.keys ch a b → a ≤ b → b < length g.tree.now.keys →
    live_in g.live.now a b ≡ false →
    table_packet g ch ≡ packet_below (frame_at g workers) (below g.tree.now.keys a b)
unfolding frame_of packet_below
table_packet_is g workers ok rest (Leaf p) a b (e, f) low lt dead =
    subst (λ z. table_packet g (Leaf p) ≡ packet_below (frame_at g workers) (below g.tree.now.keys a z)) f
    (subst (λ z. table_packet g (Leaf p) ≡ packet_below (frame_at g workers) (below g.tree.now.keys z p)) e
    (rw (below_leaf g.tree.now.keys ok.table.lawful p) refl))
table_packet_is g workers ok rest (Inner i) a b d low lt dead =
    let keys : List Key = g.tree.now.keys in
    let row = row_range g.tree.now ok.table i a b d in
    let less = proper g.tree.now.keys ok.table.lawful d in
    let named = row_of_is g.tree.now.keys ok.table.lawful d in
    let rf : (row_of g.tree.now.keys (split g.tree.now.keys a b)).first ≡ a = ap (λ r. r.first) named in
    let rl : (row_of g.tree.now.keys (split g.tree.now.keys a b)).last ≡ b = ap (λ r. r.last) named in
    let part : (node_at g.tree.now.nodes i).split ≡ split g.tree.now.keys a b =
    subst (λ z. (node_at g.tree.now.nodes i).split ≡ split g.tree.now.keys z b) row.1
    (subst (λ z. (node_at g.tree.now.nodes i).split ≡ split g.tree.now.keys (node_at g.tree.now.nodes i).first z) row.2
    (ok.table.each i row.0).part) in
    let old : IsLeastBox (boxes_in rest.before g.tree.now.keys a b) (node_at g.tree.now.nodes i).fit =
    subst (λ z. IsLeastBox (boxes_in rest.before g.tree.now.keys z b) (node_at g.tree.now.nodes i).fit) row.1
    (subst (λ z. IsLeastBox (boxes_in rest.before g.tree.now.keys (node_at g.tree.now.nodes i).first z)
    (node_at g.tree.now.nodes i).fit) row.2
    (rest.fitted.each i row.0)) in
    let boxes : boxes_in rest.before g.tree.now.keys a b ≡ boxes_in g.boxes.now g.tree.now.keys a b =
    boxes_same b rest.before g.boxes.now g.tree.now.keys a b (omega arith) low lt
    (λ p l h. rest.same p (omega arith) (live_wider g.live.now a b p p l h dead)) in
    let fit : (node_at g.tree.now.nodes i).fit ≡ least_box_of (boxes_in g.boxes.now g.tree.now.keys a b) =
    one_least_box (boxes_in g.boxes.now g.tree.now.keys a b) _ _
    (subst (λ bs. IsLeastBox bs (node_at g.tree.now.nodes i).fit) boxes old)
    (least_box_of-is_least g.boxes.now g.tree.now.keys a b less (omega arith)) in
    rw (below_inner g.tree.now.keys ok.table.lawful a b less)
    (rw rf (rw rl (rw row.1 (rw row.2 (rw part (rw fit refl))))))

-- the task with more workers
pub task_for : (g : Terrain) (workers : ℕ) → 0 < workers → IsTerrain g →
    IsTask (record { keys = g.tree.now.keys; boxes = g.boxes.now; live = g.live.now; workers = workers })
task_for g workers some ok = record {
  lawful = ok.task.lawful;
  two = ok.task.two;
  boxes_count = ok.task.boxes_count;
  within = ok.task.within;
  rising = ok.task.rising;
  some = ok.task.some;
  one_worker = some;
}

-- a node made of its children's packets is as it starts
pub start_fork_is : (g : Terrain) (workers : ℕ) → 0 < workers → IsTerrain g →
    FitsButFor g.tree.now g.boxes.now g.live.now → (k : ℕ) → k < length g.tree.now.nodes → (x : Node) →
    x ≡ node_at g.tree.now.nodes k → (cl cr : Child) →
    HasRange g.tree.now.keys cl (node_at g.tree.now.nodes k).first (node_at g.tree.now.nodes k).split →
    HasRange g.tree.now.keys cr ((node_at g.tree.now.nodes k).split + 1) (node_at g.tree.now.nodes k).last →
    (ll lr : Bool) → ll ≡ live_in g.live.now x.first x.split → lr ≡ live_in g.live.now (x.split + 1) x.last →
    (c : Fork) → c.left ≡ start_branch ll (table_packet g cl) → c.right ≡ start_branch lr (table_packet g cr) →
    c.returned ≡ not (ll || lr) → IsStartFork (frame_at g workers) (node_at g.tree.now.nodes k).split c
unfolding live_at packet_at frame_of
start_fork_is g workers some ok rest k lt x e cl cr hl hr ll lr el er c cleft cright creturned =
    let keys : List Key = g.tree.now.keys in
    let lawful = ok.table.lawful in
    let r = read g.tree.now ok.table k lt x e in
    let task = task_for g workers some ok in
    let next : (node_at g.tree.now.nodes k).split + 1 ≡ suc x.split = omega (arith, r.part_is) in
    let next2 : x.split + 1 ≡ suc x.split = omega arith in
    let hl2 : HasRange g.tree.now.keys cl x.first x.split = subst (λ z. HasRange g.tree.now.keys cl z x.split)
    r.first_is
    (subst (λ z. HasRange g.tree.now.keys cl (node_at g.tree.now.nodes k).first z) r.part_is hl) in
    let hr2 : HasRange g.tree.now.keys cr (suc x.split) x.last = subst (λ z. HasRange g.tree.now.keys cr z x.last) next
    (subst (λ z. HasRange g.tree.now.keys cr ((node_at g.tree.now.nodes k).split + 1) z) r.last_is hr) in
    let child_l : child_of g.tree.now.keys x.split Left ≡ below g.tree.now.keys x.first x.split =
    subst (λ z. child_of g.tree.now.keys z Left ≡ below g.tree.now.keys x.first z) (sym r.split_is)
    (child_left g.tree.now.keys lawful r.node) in
    let child_r : child_of g.tree.now.keys x.split Right ≡ below g.tree.now.keys (suc x.split) x.last =
    subst (λ z. child_of g.tree.now.keys z Right ≡ below g.tree.now.keys (suc z) x.last) (sym r.split_is)
    (child_right g.tree.now.keys lawful r.node) in
    let range_l : IsRange g.tree.now.keys x.first x.split =
    left (range_of_node g.tree.now.keys lawful r.node) (proper g.tree.now.keys lawful r.node) (sym r.split_is) in
    let range_r : IsRange g.tree.now.keys (suc x.split) x.last =
    right (range_of_node g.tree.now.keys lawful r.node) (proper g.tree.now.keys lawful r.node) (sym r.split_is) in
    let live_l : live_at (frame_at g workers) x.split Left ≡ live_in g.live.now x.first x.split =
    rw child_l (live_of_range _ task x.first x.split range_l) in
    let live_r : live_at (frame_at g workers) x.split Right ≡ live_in g.live.now (suc x.split) x.last =
    rw child_r (live_of_range _ task (suc x.split) x.last range_r) in
    let same_l : ll ≡ live_at (frame_at g workers) x.split Left = el ∙ sym live_l in
    let same_r : lr ≡ live_at (frame_at g workers) x.split Right =
    er ∙ (ap (λ z. live_in g.live.now z x.last) next2 ∙ sym live_r) in
    let whole : (frame_at g workers).live_node x.split
    ≡ (live_at (frame_at g workers) x.split Left || live_at (frame_at g workers) x.split Right) =
    live_is _ task x.split (omega (arith, r.high, r.within)) in
    subst (λ t. IsStartFork (frame_at g workers) t c) (sym r.part_is) (record {
      left = cleft ∙ start_branch_same ll (live_at (frame_at g workers) x.split Left) _ _ same_l
          (λ dead. rw child_l (table_packet_is g workers ok rest cl x.first x.split hl2 r.low
          (omega (arith, r.high, r.within)) (sym live_l ∙ dead)));
      right = cright ∙ start_branch_same lr (live_at (frame_at g workers) x.split Right) _ _ same_r
          (λ dead. rw child_r (table_packet_is g workers ok rest cr (suc x.split) x.last hr2 r.high r.within
          (sym live_r ∙ dead)));
      returned = creturned ∙ ap not (ap (λ z. z || lr) same_l
          ∙ (ap (λ z. live_at (frame_at g workers) x.split Left || z) same_r ∙ sym whole));
    })

-- a write of a node as it starts, at its split
pub start_more : (f : Frame) (forks : List Fork) (s t : ℕ) (x : Fork) → s < length forks → IsStartFork f s x →
    (s ≢ t → IsStartFork f t (fork_at forks t)) → IsStartFork f t (fork_at (set forks s x) t)
start_more f forks s t x lt here old = elim (cases_eq s t) [
  | inl e ↦ subst (λ t. IsStartFork f t (fork_at (set forks s x) t)) e
      (subst (IsStartFork f s) (sym (set_here forks s x lt)) here)
  | inr ne ↦ subst (IsStartFork f t) (sym (set_apart forks s t x ne)) (old ne)
]

-- each split is that of some number
pub number_of : (t : Contents) → IsTable t → (s : ℕ) → s < length t.nodes →
    (i : ℕ) × (i < length t.nodes) × ((node_at t.nodes i).split ≡ s)
number_of t table s lt =
    let n = named t.keys table.lawful s (omega (arith, table.count)) in
    let row = row_range t table n.number n.first n.last n.node in
    let part : (node_at t.nodes n.number).split ≡ split t.keys n.first n.last =
    subst (λ z. (node_at t.nodes n.number).split ≡ split t.keys z n.last) row.1
    (subst (λ z. (node_at t.nodes n.number).split ≡ split t.keys (node_at t.nodes n.number).first z) row.2
    (table.each n.number row.0).part) in
    (n.number, row.0, part ∙ n.parts)
