-- All nodes are fitted, where all leaves are live: the boxes of a tree that is built are put in, one by one.
use Rattle.std.proofs.Common.{◌≡◌, ℕ, ◌+◌, ◌-◌, ◌*◌, ◌/◌, ◌<◌, ◌≤◌, inl, inr, refl, sym, ap, ◌∙◌, arith, subst, List, length, suc, zero}
use Rattle.std.specs.Prelude.{slice_index_or, All, AllPairs}
use Rattle.std.proofs.lemmas.Bool.{cases_lt}
use Rattle.std.proofs.lemmas.List.Elements.{All-get_or}
use Rattle.fixed_box.specs.declared.shapes.Box3.{Box3}
use Rattle.fixed_box.specs.Boxes.{IsLeastBox}
use Rattle.morton_key.specs.declared.keys.Key.{Key}
use Rattle.radix_tree.specs.declared.nodes.Node.{Node}
use Rattle.radix_tree.specs.Ranges.{IsNode}
use Rattle.radix_tree.specs.Table.{Contents, node_at, put_fit, IsRow, IsTable}
use Rattle.radix_tree.specs.Fit.{boxes_in, IsFitted}
use Rattle.radix_tree.specs.Filling.{IsFullRow, HasRow}
use Rattle.radix_tree.proofs.DescentLaws.{row_range}
use Rattle.radix_tree.proofs.FillLaws.{row_here, row_kept, full_from_rows}
use Rattle.radix_tree.proofs.RowLaws.{row_with_box}
use Rattle.arrival_core.specs.declared.packets.Tally.{Tally}
use Rattle.arrival_core.specs.declared.packets.TheConstants.{MOST_WORKERS}
use Rattle.arrival_core.specs.Settings.{Setting, frame_of, batch_count}
use Rattle.arrival_core.specs.Tasks.{IsTask, IsWhole}
use Rattle.arrival_core.proofs.WholeLaws as core
use Rattle.box_handoff.specs.Counts.{IsCounted, IsLiveCounted}
use Rattle.refit.specs.Counts.{IsRefitCounted}
use Rattle.refit.specs.Putting.{IsRenewing}
use Rattle.refit.proofs.PutRows.{put_table}

module _ (keys : List Key) (boxes : List Box3) (made : List Node)
    (table : IsTable (record { keys = keys; nodes = made }))
    (fitted : IsFitted (record { keys = keys; nodes = made }) boxes) where
  module _ (now : Contents) (i : ℕ) (h : IsRenewing keys boxes now i) (lt : i < length made) where
    -- the number is one of the tree
    pub inside : i < length now.nodes
    inside = omega (arith, lt, table.count, h.table.count, ap length h.keys_are)

    -- the row with the box that is put in is full
    full : IsFullRow keys boxes i (record (node_at now.nodes i) { fit = (node_at made i).fit })
    full =
        let y = node_at now.nodes i in
        let x = node_at made i in
        let own = h.table.each i inside in
        let range : IsNode keys i y.first y.last =
        subst (λ ks. IsNode ks i y.first y.last) h.keys_are own.range in
        let is = row_range (record { keys = keys; nodes = made }) table i y.first y.last range in
        record {
          row = row_with_box keys i y x.fit
              (subst (λ ks. IsRow ks i y) h.keys_are own);
          fit = subst (λ z. IsLeastBox (boxes_in boxes keys y.first z) x.fit) is.2
              (subst (λ z. IsLeastBox (boxes_in boxes keys z x.last) x.fit) is.1 (fitted.each i lt));
        }

    -- one more is fitted
    pub renew_more : (new : Contents) → new.keys ≡ now.keys →
        new.nodes ≡ put_fit now.nodes i (node_at made i).fit → IsRenewing keys boxes new (i + 1)
    renew_more new keys_are nodes = record {
      table = put_table now new h.table i (node_at made i).fit inside keys_are nodes;
      keys_are = keys_are ∙ h.keys_are;
      made = λ k less. subst (λ ns. HasRow keys boxes ns k) (sym nodes) (elim (cases_lt k i) [
        | inl low ↦ row_kept keys boxes now.nodes i k _ full (h.made k low)
        | inr high ↦
            let at : k ≡ i = omega arith in
            row_here keys boxes now.nodes i k _ at full
      ]);
    }

  -- when all are, the tree is
  pub renewed : (now : Contents) (i : ℕ) → IsRenewing keys boxes now i → length made ≤ i → IsFitted now boxes
  renewed now i h all =
      let room : length now.nodes ≡ length keys - 1 = omega (arith, h.table.count, ap length h.keys_are) in
      let rows = full_from_rows keys boxes now.nodes table.lawful fitted.count room
      (λ k lt. h.made k (omega (arith, lt, room, table.count, all))) in
      subst (λ ks. IsFitted (record { keys = ks; nodes = now.nodes }) boxes) (sym h.keys_are) rows.fitted

-- none is fitted yet
pub renew_none : (t : Contents) (boxes : List Box3) → IsTable t → IsRenewing t.keys boxes t 0
renew_none t boxes table = record {
  table = table;
  keys_are = refl;
  made = λ k lt. absurd (omega arith);
}

-- ---- the counts

-- positions that rise, rise by one at least
grown : (live : List ℕ) → AllPairs (λ p q. p < q) live → (i k : ℕ) → i + k < length live →
    slice_index_or live i 0 + k ≤ slice_index_or live (i + k) 0
grown live rising i zero lt =
    let same : i ≡ i + 0 = omega arith in
    let e = ap (λ (n : ℕ). slice_index_or live n 0) same in omega (arith, e)
grown live rising i (suc k) lt =
    let less = grown live rising i k (omega arith) in
    let more = rising (i + k) (i + suc k) 0 (omega arith) lt in omega (arith, less, more)

-- so as many as there may be are all of them
all_positions : (live : List ℕ) (n : ℕ) → AllPairs (λ p q. p < q) live → All (λ p. p < n) live → length live ≡ n →
    (p : ℕ) → p < length live → slice_index_or live p 0 ≡ p
all_positions live n rising within all p lt =
    let low = grown live rising 0 p (omega (arith, lt)) in
    let at_zero = ap (λ (m : ℕ). slice_index_or live m 0) (let z : 0 + p ≡ p = omega arith in z) in
    let high = grown live rising p (length live - 1 - p) (omega (arith, lt)) in
    let last = All-get_or (λ q. q < n) live (p + (length live - 1 - p)) 0 (omega (arith, lt)) within in
    omega (arith, low, at_zero, high, last, all, lt)

-- a task in which all leaves are live
pub whole_task : (x : Setting) → IsTask x → length x.live ≡ length x.keys → x.workers ≤ MOST_WORKERS → IsWhole x
whole_task x task all few = record {
  lawful = task.lawful;
  two = task.two;
  boxes_count = task.boxes_count;
  live_count = all;
  live_is = all_positions x.live (length x.keys) task.rising task.within all;
  one_worker = task.one_worker;
  few = few;
}

-- counts over all keys are those of the live nodes, and of a refit
module _ (x : Setting) (ok : IsWhole x) where
  -- the frame has a node fewer than keys
  nodes_are : (frame_of x).nodes ≡ length x.keys - 1
  unfolding frame_of
  nodes_are = refl

  -- the counts of a build are those of the live nodes, which are all
  live_counted : (t : Tally) → IsCounted (length x.keys) x.workers t → IsLiveCounted x t
  live_counted t h =
      let n = core.live_nodes_is x ok in
      let k = core.live_children_is x ok in
      let product : x.workers * batch_count x.live ≡ x.workers * ((length x.keys + 63) / 64)
      = ap (λ (l : ℕ). x.workers * ((l + 63) / 64)) ok.live_count in
      record {
        fits = omega (arith, h.fits, n, nodes_are);
        steps = omega (arith, h.steps, product, n, k, nodes_are, ok.two);
      }

  -- and so those of a refit
  pub refit_counted : (t : Tally) → IsCounted (length x.keys) x.workers t → IsRefitCounted x t
  refit_counted t h = record {
    none = λ few. elim few [
      | inl keys ↦ absurd (omega (arith, keys, ok.two))
      | inr live ↦ absurd (omega (arith, live, ok.live_count, ok.two))
    ];
    live = λ two some. live_counted t h;
  }
