-- A walk down to the live leaves meets the live nodes, and lays them down in order.
use Rattle.std.proofs.Common.{◌≡◌, ℕ, zero, suc, ◌+◌, ◌-◌, ◌<◌, ◌≤◌, inl, inr, Bool, true, false, List, [], ◌∷◌, ◌++◌, length, sym, refl, ap, ◌∙◌, subst, arith, append_assoc, append-nil}
use Rattle.std.specs.Prelude.{Result, Ok, Err, IfOk}
use Rattle.std.proofs.lemmas.Bool.{cases_order, cases_Bool}
use Rattle.outside.specs.declared.errors.Memory.{Memory}
use Rattle.morton_key.specs.declared.keys.Key.{Key}
use Rattle.radix_tree.specs.declared.nodes.Node.{Node}
use Rattle.radix_tree.specs.declared.nodes.Child.{Child}
use Rattle.radix_tree.specs.declared.nodes.Child.TheVariants.{Leaf, Inner}
use Rattle.radix_tree.specs.Split.{split}
use Rattle.radix_tree.specs.Ranges.{IsNode, HasRange}
use Rattle.radix_tree.specs.Ranges.IsNode.{left_of, right_of}
use Rattle.radix_tree.specs.Table.{node_at}
use Rattle.radix_tree.proofs.SplitLaws.{split_laws}
use Rattle.radix_tree.proofs.NumberLaws.{proper}
use Rattle.radix_tree.proofs.NodeLaws.{node_within, root_node}
use Rattle.radix_tree.proofs.DescentLaws.{row_range}
use Rattle.arrival_core.specs.declared.packets.Side.TheVariants.{Left, Right}
use Rattle.arrival_core.specs.Frames.{Frame, live_at, live_below}
use Rattle.arrival_core.specs.Settings.{row_of, live_in, frame_of}
use Rattle.arrival_core.specs.Terrains.{IsTerrain}
use Rattle.arrival_core.proofs.Descending.{read}
use Rattle.arrival_core.proofs.LiveRanges.{live_wider}
use Rattle.arrival_core.proofs.SplitNames.{row_of_is}
use Rattle.arrival_core.proofs.SplitRanges.{first_is, last_is, left_is, right_is, left_range, right_range, live_of_range}
use Rattle.box_handoff.specs.declared.laying.Moves.{Moves}
use Rattle.box_handoff.specs.declared.laying.Laid.{Laid}
use Rattle.box_handoff.specs.LiveNodes.{live_splits, splits_of}
use Rattle.box_handoff.specs.Starting.{start_word}
use Rattle.box_handoff.specs.Laying.{AreMoves, Added, over, setting_over, terrain_of, words_of}
use Rattle.box_handoff.proofs.SplitLists.{splits_on, splits_off, splits_none}

-- the live splits of a range, parted at a live one
parted : (f : Frame) (a m k : ℕ) → f.live_node (a + m) ≡ true →
    live_splits f a (m + suc k) ≡ live_splits f a m ++ ((a + m) ∷ live_splits f (suc (a + m)) k)
unfolding live_splits
parted f a zero k h =
    let z : a + 0 ≡ a = omega arith in
    let w : 0 + suc k ≡ suc k = omega arith in
    ap (live_splits f a) w
    ∙ subst (λ (n : ℕ). live_splits f a (suc k) ≡ n ∷ live_splits f (suc n) k) (sym z)
    (splits_on f a k (subst (λ (n : ℕ). f.live_node n ≡ true) z h))
parted f a (suc m) k h =
    let z : a + suc m ≡ suc a + m = omega arith in
    let w : suc m + suc k ≡ suc (m + suc k) = omega arith in
    let i = parted f (suc a) m k (subst (λ (n : ℕ). f.live_node n ≡ true) z h)
    ∙ ap (λ (n : ℕ). live_splits f (suc a) m ++ (n ∷ live_splits f (suc n) k)) (sym z) in
    ap (live_splits f a) w ∙ elim (cases_Bool (f.live_node a)) [
      | inl on ↦ splits_on f a (m + suc k) on ∙ ap (λ (l : List ℕ). a ∷ l) i
          ∙ ap (λ (l : List ℕ). l ++ ((a + suc m) ∷ live_splits f (suc (a + suc m)) k)) (sym (splits_on f a m on))
      | inr off ↦ splits_off f a (m + suc k) off ∙ i
          ∙ ap (λ (l : List ℕ). l ++ ((a + suc m) ∷ live_splits f (suc (a + suc m)) k)) (sym (splits_off f a m off))
    ]

-- the same, by the first and the last position
parted_at : (f : Frame) (a s b : ℕ) → a ≤ s → s < b → f.live_node s ≡ true →
    live_splits f a (b - a) ≡ live_splits f a (s - a) ++ (s ∷ live_splits f (s + 1) (b - (s + 1)))
parted_at f a s b low high h =
    let x : b - a ≡ (s - a) + suc (b - (s + 1)) = omega arith in
    let y : a + (s - a) ≡ s = omega arith in
    let z : suc s ≡ s + 1 = omega arith in
    ap (live_splits f a) x ∙ parted f a (s - a) (b - (s + 1)) (subst (λ (n : ℕ). f.live_node n ≡ true) (sym y) h)
    ∙ ap (λ (n : ℕ). live_splits f a (s - a) ++ (n ∷ live_splits f (suc n) (b - (s + 1)))) y
    ∙ ap (λ (n : ℕ). live_splits f a (s - a) ++ (s ∷ live_splits f n (b - (s + 1)))) z

-- the words of two lists in a row
words_append : (f : Frame) (xs ys : List ℕ) → words_of f (xs ++ ys) ≡ words_of f xs ++ words_of f ys
unfolding words_of
words_append f [] ys = refl
words_append f (x ∷ xs) ys = ap (λ (l : List ℕ). start_word (live_at f x Left) (live_at f x Right) ∷ l)
    (words_append f xs ys)

-- nothing was laid down
added_none : (f : Frame) (l : Laid) (splits : List ℕ) → splits ≡ [] → Added f l l splits
unfolding words_of
added_none f l splits e = subst (Added f l l) (sym e) (record {
  spots = sym (append-nil l.spots.items);
  words = sym (append-nil l.words.items);
})

-- more was laid down behind it
added_more : (f : Frame) (a b c : Laid) (xs ys : List ℕ) → Added f a b xs → Added f b c ys → Added f a c (xs ++ ys)
added_more f a b c xs ys p q = record {
  spots = q.spots ∙ ap (λ (l : List ℕ). l ++ ys) p.spots ∙ append_assoc a.spots.items xs ys;
  words = q.words ∙ ap (λ (l : List ℕ). l ++ words_of f ys) p.words
      ∙ append_assoc a.words.items (words_of f xs) (words_of f ys)
      ∙ ap (λ (l : List ℕ). a.words.items ++ l) (sym (words_append f xs ys));
}

-- one node was laid down
pub added_one : {A : Type 0} (f : Frame) (a b : Laid) (s word : ℕ) →
    word ≡ start_word (live_at f s Left) (live_at f s Right) → (r : Result A Memory) →
    IfOk r (λ x. b.spots.items ≡ a.spots.items ++ s ∷ []) → IfOk r (λ x. b.words.items ≡ a.words.items ++ word ∷ []) →
    IfOk r (λ x. Added f a b (s ∷ []))
unfolding words_of
added_one f a b s word w (Ok x) p q = record {
  spots = p;
  words = q ∙ ap (λ (n : ℕ). a.words.items ++ n ∷ []) w;
}
added_one f a b s word w (Err x) p q = tt

-- nodes below, the node, nodes above
around : {A : Type 0} (f : Frame) (a b c d : Laid) (first s last : ℕ) → first ≤ s → s < last → f.live_node s ≡ true →
    Added f a b (live_splits f first (s - first)) → Added f b c (s ∷ []) → (r : Result A Memory) →
    IfOk r (λ x. Added f c d (live_splits f (s + 1) (last - (s + 1)))) →
    IfOk r (λ x. Added f a d (live_splits f first (last - first)))
around f a b c d first s last low high on p q (Ok x) r =
    subst (Added f a d) (sym (parted_at f first s last low high on))
    (added_more f a b d (live_splits f first (s - first)) (s ∷ live_splits f (s + 1) (last - (s + 1))) p
    (added_more f b c d (s ∷ []) (live_splits f (s + 1) (last - (s + 1))) q r))
around f a b c d first s last low high on p q (Err x) r = tt

module _ (m : Moves) (ok : AreMoves m) where
  -- the task over the tree
  pub terrain : IsTerrain (terrain_of m)
  terrain = record {
    table = ok.table;
    task = record {
      lawful = ok.task.lawful;
      two = ok.task.two;
      boxes_count = ok.task.boxes_count;
      within = ok.task.within;
      rising = ok.task.rising;
      some = ok.task.some;
      one_worker = omega arith;
    };
    batches_is = refl;
  }

  -- whether a node is live, by its range
  pub live_row : (x a b : ℕ) → IsNode m.tree.now.keys x a b →
      (over m).live_node (split m.tree.now.keys a b) ≡ live_in m.live.now a b
  unfolding frame_of
  live_row x a b d =
      let row = row_of_is m.tree.now.keys ok.table.lawful d in
      let rf : (row_of m.tree.now.keys (split m.tree.now.keys a b)).first ≡ a = ap (λ r. r.first) row in
      let rl : (row_of m.tree.now.keys (split m.tree.now.keys a b)).last ≡ b = ap (λ r. r.last) row in
      rw rf (rw rl refl)

  -- below a node that is not live none is
  dead : (f x a b t : ℕ) → b ≤ a + f → IsNode m.tree.now.keys x a b → live_in m.live.now a b ≡ false → a ≤ t → t < b →
      (over m).live_node t ≡ false
  dead zero x a b t le d off low high = absurd (omega arith)
  dead (suc f) x a b t le d off low high =
      let keys : List Key = m.tree.now.keys in
      let q = split_laws m.tree.now.keys ok.table.lawful a b (split m.tree.now.keys a b)
      (proper m.tree.now.keys ok.table.lawful d) (node_within m.tree.now.keys ok.table.lawful d) refl in
      elim (cases_order (split m.tree.now.keys a b) t) [
        | inl e ↦ subst (λ (n : ℕ). (over m).live_node n ≡ false) e (live_row x a b d ∙ off)
        | inr (inl less) ↦ dead f (suc (split m.tree.now.keys a b)) (suc (split m.tree.now.keys a b)) b t
            (omega (arith, q.low)) (right_of d refl (omega arith))
            (live_wider m.live.now a b (suc (split m.tree.now.keys a b)) b (omega (arith, q.low)) (omega arith) off)
            less high
        | inr (inr more) ↦ dead f (split m.tree.now.keys a b) a (split m.tree.now.keys a b) t (omega (arith, q.high))
            (left_of d refl (omega arith))
            (live_wider m.live.now a b a (split m.tree.now.keys a b) (omega arith) (omega (arith, q.high)) off)
            low more
      ]

  -- a leaf has no node
  pub under_leaf : (p a b : ℕ) → HasRange m.tree.now.keys (Leaf p) a b → (l : Laid) →
      Added (over m) l l (live_splits (over m) a (b - a))
  under_leaf p a b range l = added_none (over m) l (live_splits (over m) a (b - a))
      (splits_none (over m) a (b - a) (λ t low high. absurd (omega (arith, range.0, range.1, low, high))))

  -- the node of a number, as it was read
  module _ (k : ℕ) (lt : k < length m.tree.now.nodes) (x : Node) (e : x ≡ node_at m.tree.now.nodes k) where
    -- its range is not empty
    pub low : x.first ≤ x.split
    low = (read m.tree.now ok.table k lt x e).low

    -- and goes on behind its split
    pub high : x.split < x.last
    high = (read m.tree.now ok.table k lt x e).high

    -- among the keys
    pub within : x.last < length m.tree.now.keys
    within = (read m.tree.now ok.table k lt x e).within

    -- it has one range
    pub range_is : (a b : ℕ) → IsNode m.tree.now.keys k a b → (x.first ≡ a) × (x.last ≡ b)
    range_is a b d =
        let row = row_range m.tree.now ok.table k a b d in
        (ap (λ (y : Node). y.first) e ∙ row.1, ap (λ (y : Node). y.last) e ∙ row.2)

    -- a node that is not live, and all below it
    pub under_still : live_in m.live.now x.first x.last ≡ false → (l : Laid) → (a b : ℕ) →
        HasRange m.tree.now.keys (Inner k) a b → Added (over m) l l (live_splits (over m) a (b - a))
    under_still off l a b d =
        let r = range_is a b d in
        let still : live_in m.live.now a b ≡ false = subst (λ (n : ℕ). live_in m.live.now n b ≡ false) r.0
        (subst (λ (n : ℕ). live_in m.live.now x.first n ≡ false) r.1 off) in
        added_none (over m) l (live_splits (over m) a (b - a))
        (splits_none (over m) a (b - a) (λ t low high. dead b k a b t (omega arith) d still low (omega (arith, high))))

    -- its split is a node's
    split_low : x.split < length m.tree.now.keys - 1
    split_low = omega (arith, high, within)

    -- the row of its split is its own
    row_first : (row_of m.tree.now.keys x.split).first ≡ x.first
    row_first =
        let y = read m.tree.now ok.table k lt x e in
        subst (λ (n : ℕ). (row_of m.tree.now.keys n).first ≡ x.first) (sym y.split_is)
        (ap (λ r. r.first) (row_of_is m.tree.now.keys ok.table.lawful y.node))

    -- and so is its end
    row_last : (row_of m.tree.now.keys x.split).last ≡ x.last
    row_last =
        let y = read m.tree.now ok.table k lt x e in
        subst (λ (n : ℕ). (row_of m.tree.now.keys n).last ≡ x.last) (sym y.split_is)
        (ap (λ r. r.last) (row_of_is m.tree.now.keys ok.table.lawful y.node))

    -- so its left child is live where its range is
    live_left : live_at (over m) x.split Left ≡ live_in m.live.now x.first x.split
    unfolding live_at frame_of
    live_left = ap (live_below (over m)) (left_is (setting_over m) ok.task x.split split_low)
        ∙ live_of_range (setting_over m) ok.task _ x.split (left_range (setting_over m) ok.task x.split split_low)
        ∙ ap (λ (n : ℕ). live_in m.live.now n x.split)
        (sym (first_is (setting_over m) ok.task x.split split_low) ∙ row_first)

    -- and its right one
    live_right : live_at (over m) x.split Right ≡ live_in m.live.now (suc x.split) x.last
    unfolding live_at frame_of
    live_right = ap (live_below (over m)) (right_is (setting_over m) ok.task x.split split_low)
        ∙ live_of_range (setting_over m) ok.task (suc x.split) _
        (right_range (setting_over m) ok.task x.split split_low)
        ∙ ap (live_in m.live.now (suc x.split))
        (sym (last_is (setting_over m) ok.task x.split split_low) ∙ row_last)

    -- that tells its word
    pub word_is : (l r : Bool) → l ≡ live_in m.live.now x.first x.split → r ≡ live_in m.live.now (x.split + 1) x.last →
        start_word l r ≡ start_word (live_at (over m) x.split Left) (live_at (over m) x.split Right)
    word_is l r el er =
        let next : x.split + 1 ≡ suc x.split = omega arith in
        ap (λ (z : Bool). start_word z r) (el ∙ sym live_left)
        ∙ ap (start_word (live_at (over m) x.split Left))
        (er ∙ ap (λ (n : ℕ). live_in m.live.now n x.last) next ∙ sym live_right)

    -- with its children
    module _ (first second : Child)
        (of_first : HasRange m.tree.now.keys first (node_at m.tree.now.nodes k).first (node_at m.tree.now.nodes k).split)
        (of_second : HasRange m.tree.now.keys second ((node_at m.tree.now.nodes k).split + 1)
        (node_at m.tree.now.nodes k).last)
      where
        -- a live node and all below it
        pub under_live : {A : Type 0} → live_in m.live.now x.first x.last ≡ true → (l b c d : Laid) →
            ((p q : ℕ) → HasRange m.tree.now.keys first p q → Added (over m) l b (live_splits (over m) p (q - p))) →
            Added (over m) b c (x.split ∷ []) → (r : Result A Memory) →
            ((p q : ℕ) → HasRange m.tree.now.keys second p q →
            IfOk r (λ y. Added (over m) c d (live_splits (over m) p (q - p)))) → (p q : ℕ) →
            HasRange m.tree.now.keys (Inner k) p q → IfOk r (λ y. Added (over m) l d (live_splits (over m) p (q - p)))
        under_live on l b c d below here r above p q node =
            let y = read m.tree.now ok.table k lt x e in
            let is = range_is p q node in
            let live : (over m).live_node x.split ≡ true = ap (λ (n : ℕ). (over m).live_node n) y.split_is
            ∙ (live_row k x.first x.last y.node ∙ on) in
            let before : Added (over m) l b (live_splits (over m) x.first (x.split - x.first)) = below x.first x.split
            (subst (λ (n : ℕ). HasRange m.tree.now.keys first n x.split) y.first_is
            (subst (λ (n : ℕ). HasRange m.tree.now.keys first (node_at m.tree.now.nodes k).first n) y.part_is of_first))
            in
            let after : IfOk r (λ z. Added (over m) c d (live_splits (over m) (x.split + 1) (x.last - (x.split + 1)))) =
            above (x.split + 1) x.last
            (subst (λ (n : ℕ). HasRange m.tree.now.keys second (n + 1) x.last) y.part_is
            (subst (λ (n : ℕ). HasRange m.tree.now.keys second ((node_at m.tree.now.nodes k).split + 1) n) y.last_is
            of_second)) in
            subst (λ (n : ℕ). IfOk r (λ z. Added (over m) l d (live_splits (over m) n (q - n)))) is.0
            (subst (λ (n : ℕ). IfOk r (λ z. Added (over m) l d (live_splits (over m) x.first (n - x.first)))) is.1
            (around (over m) l b c d x.first x.split x.last y.low y.high live before here r after))

  -- what was laid down from the root
  pub from_root : (a b : Laid) → ((p q : ℕ) → HasRange m.tree.now.keys (Inner 0) p q →
      Added (over m) a b (live_splits (over m) p (q - p))) → Added (over m) a b (splits_of (over m))
  unfolding frame_of
  from_root a b h =
      let last = length m.tree.now.keys - 1 in
      let all : last - 0 ≡ last = omega arith in
      subst (λ (n : ℕ). Added (over m) a b (live_splits (over m) 0 n)) all (h 0 last (root_node m.tree.now.keys ok.table.lawful last refl (omega (arith, ok.task.two))))
