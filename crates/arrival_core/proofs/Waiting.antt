-- The nodes that are not returned are exactly those that wait for a worker or a batch.
use Rattle.std.proofs.Common.{◌≡◌, ℕ, suc, zero, ◌+◌, ◌*◌, ◌<◌, ◌≤◌, Bool, true, false, refl, sym, ◌∙◌, arith, subst, inl, inr, ◌⊎◌}
use Rattle.std.specs.Prelude.{◌&&◌, not, Some}
use Rattle.std.proofs.lemmas.Bool.{cases_eq, cases_Bool}
use Rattle.arrival_core.specs.declared.packets.Side.{Side}
use Rattle.arrival_core.specs.declared.packets.Side.TheVariants.{Left, Right}
use Rattle.arrival_core.specs.declared.packets.Phase.TheVariants.{Ended}
use Rattle.arrival_core.specs.Sums.{bit, sum_below}
use Rattle.arrival_core.specs.declared.packets.Up.{Up}
use Rattle.arrival_core.specs.Frames.{Frame, Below, live_at, live_below}
use Rattle.arrival_core.specs.Frames.Below.{leaf, inner}
use Rattle.arrival_core.specs.FrameLaws.{IsFrame}
use Rattle.arrival_core.specs.States.{State}
use Rattle.arrival_core.specs.Events.{held}
use Rattle.arrival_core.specs.Lawful.{IsLawful, Fits}
use Rattle.arrival_core.specs.Counts.{over, has, times, second_at, collecting_at, unclaimed, ready, ready_below, count_met}
use Rattle.arrival_core.proofs.SumLaws.{sum_plus, sum_le}
use Rattle.arrival_core.proofs.PutLaws.{bit_le, bit-zero, bit-true, bit-false}
use Rattle.arrival_core.proofs.CountLaws.{ready_le, bit-and, side_of}
use Rattle.arrival_core.specs.Stopped.{holds, IsAbove, Waits}
use Rattle.arrival_core.specs.Stopped.IsAbove.{here, up}

-- what is above a side of a node is above all that is below
above_more : (f : Frame) (t i s : ℕ) (e d : Side) → f.above_node i ≡ Some (record { split = t; side = e }) →
    IsAbove f i s d → IsAbove f t s d
above_more f t i s e d h here = up (record { split = t; side = e }) h here
above_more f t i s e d h (up u g rest) = up u g (above_more f t i u.split e u.side h rest)

-- who holds a child has it or is behind the second arrival at its node
holds_parts : (f : Frame) (s : State) (t : ℕ) (e : Side) →
    over f s (holds f t e) ≡ over f s (has f t e) + count_met f s t
unfolding over holds count_met
holds_parts f s t e =
    let a = sum_plus f.workers (λ i. has f t e (s.worker i) + second_at (s.worker i).phase t)
    (λ i. collecting_at (s.worker i).phase t) in
    let b = sum_plus f.workers (λ i. has f t e (s.worker i)) (λ i. second_at (s.worker i).phase t) in
    let c = sum_plus f.workers (λ i. second_at (s.worker i).phase t) (λ i. collecting_at (s.worker i).phase t) in
    omega (arith, a, b, c)

-- a batch has no child that is not live
dead_unbatched : (f : Frame) → IsFrame f → (s : State) (t : ℕ) (e : Side) → t < f.nodes → live_at f t e ≡ false →
    unclaimed f s t e ≡ 0
unfolding unclaimed live_at live_below
dead_unbatched f fr s t e lt dead =
    let all : sum_below f.batches (λ j. times f (f.batch j) t e) ≡ 0 = by_child (f.child t e) refl in
    let most = sum_le f.batches (λ j. bit (not (s.claimed j)) * times f (f.batch j) t e)
    (λ j. times f (f.batch j) t e) (λ j lj. small (not (s.claimed j)) (times f (f.batch j) t e)) in
    omega (arith, all, most)
  where
    small : (b : Bool) (n : ℕ) → bit b * n ≤ n
    small true n = omega arith
    small false n = omega arith

    by_child : (b : Below) → f.child t e ≡ b → sum_below f.batches (λ j. times f (f.batch j) t e) ≡ 0
    by_child (leaf p) h =
        let off : f.live_leaf p ≡ false = rw h at dead in
        fr.batched_leaf t e p lt h ∙ bit-false off
    by_child (inner i) h = fr.batched_inner t e i lt h

module _ (f : Frame) (fr : IsFrame f) (s : State) (ok : IsLawful f s) where
  -- where a side has not arrived its node is not returned
  unreturned_if : (t : ℕ) (e : Side) → t < f.nodes → bit (s.arrived t e) ≡ 0 → s.returned t ≡ false
  unreturned_if t e lt off =
      let m = (ok.nodes t lt).met in
      bit-zero (s.returned t) (omega (arith, m, both_off e off))
    where
      both_off : (e : Side) → bit (s.arrived t e) ≡ 0 → bit (s.arrived t Left && s.arrived t Right) ≡ 0
      both_off Left z = rw (bit-zero (s.arrived t Left) z) refl
      both_off Right z = bit-and (s.arrived t Left) (s.arrived t Right) ∙ rw z (omega arith)

  -- a node whose child is held or in a batch that is not claimed is not returned
  pub waits_here : (t : ℕ) (e : Side) → t < f.nodes →
      (0 < over f s (holds f t e)) ⊎ (0 < unclaimed f s t e) → s.returned t ≡ false
  waits_here t e lt w = elim (cases_Bool (live_at f t e)) [
    | inl live ↦
        let once = (side_of f s ok t e lt).once live in
        let small = ready_le f s t e in
        let m = (ok.nodes t lt).met in
        let parts = holds_parts f s t e in
        let two = bit_le (s.arrived t Left && s.arrived t Right) in
        elim (cases_eq (count_met f s t) 0) [
          | inr some ↦ bit-zero (s.returned t) (omega (arith, m, two))
          | inl none ↦ unreturned_if t e lt (elim w [
            | inl held ↦ omega (arith, once, small, parts, none)
            | inr pending ↦ omega (arith, once, small)
          ])
        ]
    | inr dead ↦
        let alone = (side_of f s ok t e lt).rests_alone dead in
        let parts = holds_parts f s t e in
        let none = dead_unbatched f fr s t e lt dead in
        let m = (ok.nodes t lt).met in
        let two = bit_le (s.arrived t Left && s.arrived t Right) in
        elim w [
          | inl held ↦ bit-zero (s.returned t) (omega (arith, alone, parts, m, two))
          | inr pending ↦ absurd (omega (arith, none))
        ]
  ]

  -- what is above a node that is not returned is not returned
  unreturned_up : (i : ℕ) (u : Up) → i < f.nodes → f.above_node i ≡ Some u → s.returned i ≡ false →
      s.returned u.split ≡ false
  unfolding ready ready_below live_at live_below
  unreturned_up i u lt h off =
      let node = fr.up_node i u lt h in
      let child = fr.up_child i u lt h in
      let live_i : f.live_node i ≡ true = elim (cases_Bool (f.live_node i)) [
        | inl z ↦ z
        | inr z ↦ let on = (ok.nodes i lt).rests_returned z in let wrong : true ≡ false = sym on ∙ off in cc
      ] in
      let live : live_at f u.split u.side ≡ true = rw child live_i in
      let not_ready : ready f s u.split u.side ≡ 0 = rw child (bit-false off) in
      let once = (side_of f s ok u.split u.side node).once live in
      unreturned_if u.split u.side node (omega (arith, once, not_ready))

  -- nothing above a node that is not returned is returned
  above_waits : (t i : ℕ) (d : Side) → i < f.nodes → IsAbove f t i d → s.returned i ≡ false → s.returned t ≡ false
  above_waits t i d lt here off = off
  above_waits t i d lt (up u h rest) off = above_waits t u.split u.side (fr.up_node i u lt h) rest
      (unreturned_up i u lt h off)

  -- a node that waits is not returned
  pub waits_unreturned : (t : ℕ) → Waits f s t → s.returned t ≡ false
  waits_unreturned t w = above_waits t w.split w.side w.node w.is_above (waits_here w.split w.side w.node w.held)

  -- a side that has not arrived waits itself, or its child does
  side_waits : (t : ℕ) (e : Side) → t < f.nodes → bit (s.arrived t e) ≡ 0 →
      ((i : ℕ) → fr.height i < fr.height t → i < f.nodes → s.returned i ≡ false → Waits f s i) → Waits f s t
  unfolding ready ready_below
  side_waits t e lt off below = by_child (f.child t e) refl
    where
      live : live_at f t e ≡ true
      live = elim (cases_Bool (live_at f t e)) [
        | inl z ↦ z
        | inr z ↦ let on = bit-true ((side_of f s ok t e lt).rests_arrived z) in absurd (omega (arith, on, off))
      ]

      waits_if : ready f s t e ≡ 1 → Waits f s t
      waits_if r =
          let once = (side_of f s ok t e lt).once live in
          let parts = holds_parts f s t e in
          record {
            split = t;
            side = e;
            node = lt;
            is_above = here;
            held = elim (cases_eq (unclaimed f s t e) 0) [
              | inl z ↦ inl (omega (arith, once, parts, off, r, z))
              | inr z ↦ inr (omega arith)
            ];
          }

      by_child : (b : Below) → f.child t e ≡ b → Waits f s t
      by_child (leaf p) h = waits_if (rw h refl)
      by_child (inner i) h = elim (cases_Bool (s.returned i)) [
        | inl on ↦ waits_if (rw h (bit-true on))
        | inr no_return ↦
            let w = below i (fr.lower t e i lt h) (fr.child_node t e i lt h) no_return in
            record {
              split = w.split;
              side = w.side;
              node = w.node;
              is_above = above_more f t i w.split e w.side (fr.child_up t e i lt h) w.is_above;
              held = w.held;
            }
      ]

  -- a node that is not returned waits, by its height
  unreturned_by : (n t : ℕ) → fr.height t < n → t < f.nodes → s.returned t ≡ false → Waits f s t
  unreturned_by zero t low lt off = absurd (omega arith)
  unreturned_by (suc n) t low lt off =
      let m = (ok.nodes t lt).met in
      let r = bit-false off in
      elim (cases_Bool (s.arrived t Left)) [
        | inr left_off ↦ side_waits t Left lt (bit-false left_off)
            (λ i less li no_return. unreturned_by n i (omega (arith, less, low)) li no_return)
        | inl left_on ↦ elim (cases_Bool (s.arrived t Right)) [
          | inr right_off ↦ side_waits t Right lt (bit-false right_off)
              (λ i less li no_return. unreturned_by n i (omega (arith, less, low)) li no_return)
          | inl right_on ↦
              let both : bit (s.arrived t Left && s.arrived t Right) ≡ 1 = rw left_on (rw right_on refl) in
              let parts = holds_parts f s t Left in
              record {
                split = t;
                side = Left;
                node = lt;
                is_above = here;
                held = inl (omega (arith, m, r, both, parts));
              }
        ]
      ]

  -- a node that is not returned waits
  pub unreturned_waits : (t : ℕ) → t < f.nodes → s.returned t ≡ false → Waits f s t
  unreturned_waits t lt off = unreturned_by (suc (fr.height t)) t (omega arith) lt off

  -- once a worker has ended every batch is claimed
  pub ended_claimed : (k j : ℕ) → k < f.workers → (s.worker k).phase ≡ Ended → j < f.batches → s.claimed j ≡ true
  unfolding Fits
  ended_claimed k j lk h lj =
      let last = (subst (Fits f (s.worker k)) h (ok.workers k lk).phase).1 in
      (ok.workers k lk).claimed j (omega (arith, last, lj))
