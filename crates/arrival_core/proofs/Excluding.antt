-- What lawful states rule out: a place with two workers, and a node that is collected twice or early.
use Rattle.std.proofs.Common.{◌≡◌, ℕ, ◌+◌, ◌<◌, ◌≤◌, arith, inl, inr}
use Rattle.std.specs.Prelude.{◌&&◌}
use Rattle.std.proofs.lemmas.Bool.{cases_Bool}
use Rattle.arrival_core.specs.declared.packets.Side.TheVariants.{Left, Right}
use Rattle.arrival_core.specs.declared.packets.Load.{Load}
use Rattle.arrival_core.specs.declared.packets.Phase.TheVariants.{Second}
use Rattle.arrival_core.specs.Sums.{bit}
use Rattle.arrival_core.specs.Frames.{Frame}
use Rattle.arrival_core.specs.States.{State}
use Rattle.arrival_core.specs.Lawful.{IsLawful}
use Rattle.arrival_core.specs.Safety.{IsExclusive, IsMet}
use Rattle.arrival_core.proofs.PutLaws.{bit-one, bit-zero, bit_le}
use Rattle.arrival_core.proofs.PlaceCounts.{out_one}
use Rattle.arrival_core.proofs.CountLaws.{side_of, met_parts}
use Rattle.arrival_core.proofs.PlaceLaws.{second_alone, none_collected}

module _ (f : Frame) (s : State) (ok : IsLawful f s) where
  -- no place is out with two workers
  pub lawful_exclusive : IsExclusive f s
  lawful_exclusive = record {
    one_holder = λ j k t d lj lk lt a b.
        let p = (side_of f s ok t d lt).place in
        out_one (s.place t d) j k (omega (arith, p.out j lj, a)) (omega (arith, p.out k lk, b));
  }

  -- at most one side of a node is collected
  pub collected_most : (t : ℕ) → t < f.nodes → bit (s.collected t Left) + bit (s.collected t Right) ≤ 1
  collected_most t lt = elim (cases_Bool (f.live_node t)) [
    | inl on ↦
        let small = bit_le (s.arrived t Left && s.arrived t Right) in
        omega (arith, (ok.nodes t lt).collected on, (ok.nodes t lt).met, met_parts f s t, small)
    | inr off ↦ omega (arith, (ok.nodes t lt).rests_uncollected off)
  ]

  -- a worker that came second finds both sides arrived, and none collected
  pub second_met : (k : ℕ) → k < f.workers → (l : Load) → (s.worker k).phase ≡ Second l → IsMet s l.split
  second_met k lk l phase = record {
    arrived = λ d. bit-one _ ((second_alone f s ok k lk l phase).arrived d);
    uncollected = λ d. bit-zero _ (none_collected f s ok k lk l phase d);
  }
