-- A climber that carries nothing, as the worker that it shows.
use Rattle.std.proofs.Common.{◌≡◌, ◌≢◌, ℕ, suc, ◌+◌, ◌*◌, ◌-◌, ◌<◌, ◌≤◌, refl, sym, ap, ◌∙◌, arith, inl, inr, subst, List, [], ◌∷◌, length, take, drop, get_or, min, Some, None, zero}
use Rattle.std.specs.Prelude.{All, AllPairs}
use Rattle.std.proofs.Math.Seq.{drop-cons}
use Rattle.std.proofs.lemmas.List.{take_all, length-drop}
use Rattle.std.proofs.lemmas.Bool.{cases_eq, cases_lt}
use Rattle.fixed_box.specs.declared.shapes.Box3.{Box3}
use Rattle.morton_key.specs.declared.keys.Key.{Key}
use Rattle.morton_key.specs.Keys.{tri_at}
use Rattle.radix_tree.specs.Table.{Contents, node_at, IsTable}
use Rattle.radix_tree.specs.Fit.{box_of_triangle}
use Rattle.radix_tree.proofs.NodeLaws.{root_node}
use Rattle.radix_tree.proofs.DescentLaws.{row_range}
use Rattle.arrival_core.specs.declared.packets.TheConstants.{BATCH}
use Rattle.arrival_core.specs.declared.packets.Packet.{Packet}
use Rattle.arrival_core.specs.declared.packets.Up.{Up}
use Rattle.arrival_core.specs.declared.packets.Tally.{Tally}
use Rattle.arrival_core.specs.declared.packets.Phase.TheVariants.{Looking, Carry, Ended}
use Rattle.arrival_core.specs.Events.{resume}
use Rattle.arrival_core.specs.Settings.{frame_of, frame_over, above, row_of, up_or, above_leaf_of, batch_count}
use Rattle.arrival_core.specs.Forks.{worker_of}
use Rattle.radix_tree.specs.Split.{split}
use Rattle.arrival_core.proofs.SplitNames.{row_of_is}
use Rattle.arrival_core.proofs.Parents.{above_whole}
use Rattle.arrival_core.proofs.PutLaws.{eq-true, eq-false}

-- the root goes over all positions
pub root_row : (t : Contents) → IsTable t → 1 < length t.keys →
    (0 < length t.nodes) × ((node_at t.nodes 0).first ≡ 0) × ((node_at t.nodes 0).last ≡ length t.keys - 1)
root_row t table two = row_range t table 0 0 (length t.keys - 1)
    (root_node t.keys table.lawful (length t.keys - 1) refl (omega arith))

-- nothing is above the root, whose split this is
pub root_above : (t : Contents) → IsTable t → 1 < length t.keys → (s : ℕ) → (node_at t.nodes 0).split ≡ s →
    above t.keys (row_of t.keys s).first (row_of t.keys s).last ≡ None
root_above t table two s e =
    let root = root_row t table two in
    let d = root_node t.keys table.lawful (length t.keys - 1) refl (omega arith) in
    let part : split t.keys 0 (length t.keys - 1) ≡ s =
    sym (subst (λ z. (node_at t.nodes 0).split ≡ split t.keys z (length t.keys - 1)) root.1
    (subst (λ z. (node_at t.nodes 0).split ≡ split t.keys (node_at t.nodes 0).first z) root.2
    (table.each 0 root.0).part)) ∙ e in
    let row = ap (row_of t.keys) (sym part) ∙ row_of_is t.keys table.lawful d in
    above_whole t.keys table.lawful (row_of t.keys s).first (row_of t.keys s).last (ap (λ r. r.first) row)
    (let last : (row_of t.keys s).last ≡ length t.keys - 1 = ap (λ r. r.last) row in omega (arith, last))

-- a list of positions that rises is no longer than their bound
rising_at_least : (xs : List ℕ) → AllPairs (λ p q. p < q) xs → (i : ℕ) → i < length xs → i ≤ get_or xs i 0
rising_at_least xs rising zero lt = omega arith
rising_at_least xs rising (suc i) lt =
    let before = rising_at_least xs rising i (omega arith) in
    let less : get_or xs i 0 < get_or xs (suc i) 0 = rising i (suc i) 0 (omega arith) lt in
    omega (arith, before, less)

-- positions that rise below a number are no more than it
pub rising_short : (xs : List ℕ) (n : ℕ) → AllPairs (λ p q. p < q) xs → All (λ p. p < n) xs → length xs ≤ n
rising_short xs n rising within = elim (cases_eq (length xs) 0) [
  | inl e ↦ omega arith
  | inr ne ↦
      let last = rising_at_least xs rising (length xs - 1) (omega arith) in
      let inside : get_or xs (length xs - 1) 0 < n = within (length xs - 1) 0 (omega arith) in
      omega (arith, last, inside)
]

-- a batch as a part of the live positions
pub batch_part : (live : List ℕ) (j to : ℕ) → j * BATCH ≤ length live → to ≡ min (j * BATCH + BATCH) (length live) →
    take (to - j * BATCH) (drop (j * BATCH) live) ≡ take BATCH (drop (BATCH * j) live)
batch_part live j to le e =
    let turn : j * BATCH ≡ BATCH * j = omega arith in
    let long = length-drop (j * BATCH) live in
    elim (cases_lt (length live) (j * BATCH + BATCH)) [
      | inl less ↦
          let a : take (to - j * BATCH) (drop (j * BATCH) live) ≡ drop (j * BATCH) live =
          take_all (to - j * BATCH) (drop (j * BATCH) live) (omega (arith, long, e)) in
          let b : take BATCH (drop (j * BATCH) live) ≡ drop (j * BATCH) live =
          take_all BATCH (drop (j * BATCH) live) (omega (arith, long)) in
          a ∙ (sym b ∙ ap (λ n. take BATCH (drop n live)) turn)
      | inr more ↦
          let a : to - j * BATCH ≡ BATCH = omega (arith, e) in
          ap (λ n. take n (drop (j * BATCH) live)) a ∙ ap (λ n. take BATCH (drop n live)) turn
    ]

-- a part of no length is empty
part_none : (live : List ℕ) (from to : ℕ) → from ≡ to → take (to - from) (drop from live) ≡ []
part_none live from to e = let z : to - from ≡ 0 = omega arith in ap (λ n. take n (drop from live)) z

-- a longer one has a first position
part_some : (live : List ℕ) (from to : ℕ) → from < to → to ≤ length live →
    take (to - from) (drop from live) ≡ get_or live from 0 ∷ take (to - (from + 1)) (drop (from + 1) live)
part_some live from to lt le =
    let z : to - from ≡ suc (to - (from + 1)) = omega arith in
    let next : suc from ≡ from + 1 = omega arith in
    ap (λ n. take n (drop from live)) z
    ∙ (ap (λ xs. take (suc (to - (from + 1))) xs) (drop-cons live from 0 (omega arith))
    ∙ ap (λ n. get_or live from 0 ∷ take (to - (from + 1)) (drop n live)) next)

module _ (keys : List Key) (boxes : List Box3) (live : List ℕ) (workers next from to : ℕ) (tally : Tally) where
  -- a climber that has ended
  pub shown_ended : from ≡ to → next ≡ batch_count live →
      worker_of live (record { next = next; from = from; to = to; phase = Ended; tally = tally })
      ≡ resume (frame_over keys boxes live workers) next (take (to - from) (drop from live)) tally
  unfolding frame_of
  shown_ended e last = rw (part_none live from to e) (rw (eq-true next (batch_count live) last) refl)

  -- and one that looks for a batch
  pub shown_looking : from ≡ to → next ≢ batch_count live →
      worker_of live (record { next = next; from = from; to = to; phase = Looking; tally = tally })
      ≡ resume (frame_over keys boxes live workers) next (take (to - from) (drop from live)) tally
  unfolding frame_of
  shown_looking e more = rw (part_none live from to e) (rw (eq-false next (batch_count live) more) refl)

  -- and one that carries a leaf of its batch up
  pub shown_carry : (u : Up) (p : Packet) → from < to → to ≤ length live →
      above keys (get_or live from 0) (get_or live from 0) ≡ Some u →
      p ≡ record {
        first = get_or live from 0;
        last = get_or live from 0;
        split = get_or live from 0;
        fit = box_of_triangle boxes (tri_at keys (get_or live from 0));
      } →
      worker_of live (record {
        next = next;
        from = from + 1;
        to = to;
        phase = Carry (record { split = u.split; side = u.side; packet = p });
        tally = tally;
      })
      ≡ resume (frame_over keys boxes live workers) next (take (to - from) (drop from live)) tally
  unfolding frame_of above_leaf_of up_or
  shown_carry u p lt le up packet =
      rw (part_some live from to lt le) (rw up (rw packet refl))
