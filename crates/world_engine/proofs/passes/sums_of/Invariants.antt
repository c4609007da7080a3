use Rattle.std.proofs.Common.{◌≡◌, take}
use Rattle.world_engine.specs.Sums.{sums_of}
use Rattle.world_engine.specs.Additions.{IsWithin}
use Rattle.world_engine.proofs.passes.sums_of.Given as goal

abbrev pub invariant-loop-reply : goal.invariant-loop-reply
invariant-loop-reply l = record {
  sums : l.sums ≡ sums_of (take l.reply-index l.replies);
  within : IsWithin l.sums l.reply-index;
}
