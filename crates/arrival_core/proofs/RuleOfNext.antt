-- A worker that carries nothing goes on lawfully.
use Rattle.std.proofs.Common.{◌≡◌, ℕ, suc, ◌<◌, ◌≤◌, true, refl, arith, inl, inr, List, [], ◌∷◌}
use Rattle.std.specs.Prelude.{All}
use Rattle.std.proofs.lemmas.Bool.{cases_eq}
use Rattle.arrival_core.specs.declared.packets.Tally.{Tally}
use Rattle.arrival_core.specs.Frames.{Frame, packet_at, packet_below, IsPosition}
use Rattle.arrival_core.specs.FrameLaws.{IsFrame}
use Rattle.arrival_core.specs.States.{State}
use Rattle.arrival_core.specs.Events.{resume}
use Rattle.arrival_core.specs.Lawful.{IsLawfulWorker, Fits, Carries}
use Rattle.arrival_core.proofs.PutLaws.{eq-true, eq-false}

-- no position is wrong where there is none
below_none : (f : Frame) → All (IsPosition f) []
below_none f j d lt = absurd (omega arith)

-- the positions behind the first
behind : (f : Frame) (p : ℕ) (ps : List ℕ) → All (IsPosition f) (p ∷ ps) → All (IsPosition f) ps
behind f p ps all j d lt = all (suc j) d (omega arith)

-- a worker that carries nothing goes on lawfully
pub resume_lawful : (f : Frame) → IsFrame f → (n : State) (next : ℕ) (ps : List ℕ) (tally : Tally) → next ≤ f.batches →
    ((j : ℕ) → j < next → n.claimed j ≡ true) → All (IsPosition f) ps → IsLawfulWorker f n (resume f next ps tally)
unfolding Fits Carries packet_at packet_below
resume_lawful f fr n next [] tally le claimed all = record {
  next = le;
  claimed = claimed;
  positions = below_none f;
  phase = elim (cases_eq next f.batches) [
    | inl e ↦ rw (eq-true next f.batches e) (refl, e)
    | inr e ↦ rw (eq-false next f.batches e) (refl, omega arith)
  ];
  carries = elim (cases_eq next f.batches) [
    | inl e ↦ rw (eq-true next f.batches e) tt
    | inr e ↦ rw (eq-false next f.batches e) tt
  ];
}
resume_lawful f fr n next (p ∷ ps) tally le claimed all =
    let here : IsPosition f p = all 0 p (omega arith) in
    record {
      next = le;
      claimed = claimed;
      positions = behind f p ps all;
      phase = tt;
      carries = record {
        node = fr.leaf_node p here;
        packet = rw (fr.leaf_child p here) refl;
      };
    }
