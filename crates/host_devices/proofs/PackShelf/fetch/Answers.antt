use Rattle.std.proofs.Common.{◌≡◌, ◌≢◌, refl, inr, arith, rules, List, ℕ, []}
use Rattle.std.proofs.lemmas.Grind.{common_steps}
use Rattle.outside.specs.Fakes.{FakeShelf}
use Rattle.outside.proofs.OneFile.{other_is_absent, copy_is_fetched}
use Rattle.host_devices.proofs.PackShelf.fetch.Goals as goal

-- a shelf of one file, as the lemmas see it
abbrev one : List ℕ → List ℕ → FakeShelf
one name mesh = record { name = name; bytes = mesh; piece = 1; fail = []; calls = 0; faults = 0 }

pub returns-then-ne-clause-cause : goal.returns-then-ne-clause-cause
returns-then-ne-clause-cause c =
    let other : c.args.name.now ≢ c.args.self.now.name.now = search rules in
    record {
      later = omega arith;
      failed = inr (other_is_absent (one c.args.self.now.name.now c.args.self.now.mesh.now) c.args.name.now other);
      kept = tt;
      absent = λ _. refl;
    }

pub returns-clause-bytes : goal.returns-clause-bytes
returns-clause-bytes c =
    let same : c.args.name.now ≡ c.args.self.now.name.now = search rules in
    copy_is_fetched (one c.args.self.now.name.now c.args.self.now.mesh.now) c.args.name.now c.copy_from_slice.new.self _
    c.args.at c.min-start.result c.min-count.result same (grind (arith, common_steps)) (grind (arith, common_steps))
    (grind (arith, common_steps)) (grind (arith, common_steps))
