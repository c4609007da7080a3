-- The exact counts of a refit. Public contracts cite it.
use Rattle.std.specs.Prelude.{◌≡◌, ◌<◌, ◌⊎◌, length}
use Rattle.arrival_core.specs.declared.packets.Tally.{Tally}
use Rattle.arrival_core.specs.Settings.{Setting}
use Rattle.box_handoff.specs.Counts.{IsLiveCounted}

-- those of a run over the live leaves; where none is live, or with fewer than two keys, no worker is started
pub record IsRefitCounted (x : Setting) (t : Tally) : Type 0 where
  pub none : (length x.keys < 2) ⊎ (length x.live ≡ 0) → (t.fits ≡ 0) × (t.steps ≡ 0)
  pub live : 1 < length x.keys → 0 < length x.live → IsLiveCounted x t
