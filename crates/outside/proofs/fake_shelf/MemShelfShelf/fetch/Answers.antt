use Rattle.std.proofs.Common.{◌≡◌, ◌≢◌, inl, inr, arith, rules}
use Rattle.std.proofs.lemmas.Grind.{common_steps}
use Rattle.outside.proofs.OneFile.{other_is_absent, held_is_not_absent, copy_is_fetched}
use Rattle.outside.proofs.fake_shelf.MemShelfShelf.fetch.Goals as goal

pub returns-then-ne-clause-cause : goal.returns-then-ne-clause-cause
returns-then-ne-clause-cause c =
    let other : c.args.name.now ≢ c.args.self.now.name = search rules in
    record {
      later = grind (arith, common_steps);
      failed = inr (other_is_absent c.args.self.now c.args.name.now other);
      kept = tt;
      absent = λ _. grind (arith, common_steps);
    }

pub returns-then-contains-clause-cause : goal.returns-then-contains-clause-cause
returns-then-contains-clause-cause c =
    let same : c.args.name.now ≡ c.args.self.now.name = search rules in
    record {
      later = grind (arith, common_steps);
      failed = inl (grind (arith, common_steps));
      kept = tt;
      absent = λ none. absurd (held_is_not_absent c.args.self.now c.args.name.now same none);
    }

pub returns-clause-bytes : goal.returns-clause-bytes
returns-clause-bytes c =
    let same : c.args.name.now ≡ c.args.self.now.name = search rules in
    copy_is_fetched c.args.self.now c.args.name.now c.copy_from_slice.new.self _ c.args.at c.min-start.result
    c.min-count.result same (grind (arith, common_steps)) (grind (arith, common_steps))
    (grind (arith, common_steps)) (grind (arith, common_steps))
