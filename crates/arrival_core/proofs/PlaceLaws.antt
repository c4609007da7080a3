-- What stands in the places that a worker's next event takes out.
use Rattle.std.proofs.Common.{◌≡◌, ℕ, ◌+◌, ◌<◌, ◌∙◌, arith, subst, inl, inr}
use Rattle.std.proofs.lemmas.Bool.{cases_lt}
use Rattle.arrival_core.specs.declared.packets.Side.{Side}
use Rattle.arrival_core.specs.declared.packets.Side.TheVariants.{Left, Right}
use Rattle.arrival_core.specs.declared.packets.Load.{Load}
use Rattle.arrival_core.specs.declared.packets.Phase.TheVariants.{Carry, Second}
use Rattle.arrival_core.specs.declared.packets.Place.TheVariants.{Nothing, Holds}
use Rattle.arrival_core.specs.Sums.{bit}
use Rattle.arrival_core.specs.Frames.{Frame, other, packet_at}
use Rattle.arrival_core.specs.States.{State}
use Rattle.arrival_core.specs.Lawful.{IsLawful, IsLoad, Carries}
use Rattle.arrival_core.specs.Counts.{turn, opened_at, second_at, collecting_at, count_collecting}
use Rattle.arrival_core.proofs.PutLaws.{at-here, bit-same}
use Rattle.arrival_core.proofs.CountLaws.{IsMetAlone, over_has_one, carried, met_by, met_parts, arrived_alone, side_of, opened_mine, collecting_mine}
use Rattle.arrival_core.proofs.PhaseLaws.{when_carry, when_second}
use Rattle.arrival_core.proofs.PlaceCounts.{nothing_is, full_is}

module _ (f : Frame) (s : State) (ok : IsLawful f s) (k : ℕ) (lt : k < f.workers) (l : Load) where
  -- the place of what a worker carries holds nothing
  pub carried_nothing : (s.worker k).phase ≡ Carry l → s.place l.split l.side ≡ Nothing
  unfolding Carries
  carried_nothing phase =
      let load : IsLoad f l = subst (Carries f s) phase (ok.workers k lt).carries in
      let off = carried f s ok l.split l.side load.node k lt
      ((when_carry (s.worker k).phase l l.split l.side phase).carries_is ∙ at-here l.split l.side) in
      let p = (side_of f s ok l.split l.side load.node).place in
      nothing_is (s.place l.split l.side) (omega (arith, p.nothing, off.1))

  module _ (phase : (s.worker k).phase ≡ Second l) where
    -- what a worker that came second carries is its child's packet
    pub second_load : IsLoad f l
    unfolding Carries
    second_load = subst (Carries f s) phase (ok.workers k lt).carries

    -- it alone is behind the second arrival
    pub second_alone : IsMetAlone f s l.split
    second_alone =
        let c = when_second (s.worker k).phase l l.split l.side phase in
        met_by f s ok l.split l.side second_load.node k lt
        (omega (arith, c.second_is, c.collecting_is, bit-same l.split))

    -- nobody collects there yet
    pub none_collects : count_collecting f s l.split ≡ 0
    none_collects =
        let c = when_second (s.worker k).phase l l.split l.side phase in
        let parts = met_parts f s l.split in
        let mine = over_has_one f s k (λ w. second_at w.phase l.split) lt in
        omega (arith, parts, mine, c.second_is, bit-same l.split, second_alone.alone)

    -- no side of the node is collected
    pub none_collected : (e : Side) → bit (s.collected l.split e) ≡ 0
    none_collected e =
        let both = (ok.nodes l.split second_load.node).collected second_alone.live in
        by_side e (omega (arith, both, none_collects, second_alone.unreturned))
      where
        by_side : (e : Side) → bit (s.collected l.split Left) + bit (s.collected l.split Right) ≡ 0 →
            bit (s.collected l.split e) ≡ 0
        by_side Left sum = omega arith
        by_side Right sum = omega arith

    -- it finds the other child's packet
    pub met_holds : s.place l.split (other l.side) ≡ Holds (packet_at f l.split (other l.side))
    unfolding turn
    met_holds =
        let there = arrived_alone f s ok l.split (other l.side) second_load.node (second_alone.arrived (other l.side)) in
        let p = (side_of f s ok l.split (other l.side) second_load.node).place in
        full_is (s.place l.split (other l.side)) (packet_at f l.split (other l.side)) (omega (arith, p.nothing, there.0))
        (λ j. elim (cases_lt j f.workers) [
          | inl less ↦
              let o : opened_at (s.worker j).phase l.split (other l.side) ≡ 0
              = omega (arith, opened_mine f s j l.split (other l.side) less, there.1) in
              let n : collecting_at (s.worker j).phase l.split ≡ 0 =
              omega (arith, collecting_mine f s j l.split less, none_collects) in
              p.out j less ∙ rw o (rw n (omega arith))
          | inr more ↦ p.nobody j more
        ])
        p.packet
