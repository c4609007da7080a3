use Rattle.std.proofs.Common.{◌≡◌, ◌-◌, length, ℕ, List, take, drop, sym, ap, ◌∙◌, arith, subst, take-append-drop}
use Rattle.std.proofs.lemmas.Grind.{common_steps}
use Rattle.std.proofs.lemmas.Result.{err_from_is_err_and}
use Rattle.std.proofs.Math.Seq.{take-add, take-length}
use Rattle.std.proofs.lemmas.List.{length-drop}
use Rattle.std.specs.Io.KnownBytes.{Appends}
use Rattle.std.proofs.KnownBytes.{Appends-trans, Appends-kept}
use Rattle.streams.proofs.writing.write_all.Goals as goal

-- what `&text[at..]` is
rest_whole : (at : ℕ) (text : List ℕ) → take (length text - at) (drop at text) ≡ drop at text
rest_whole at text = ap (λ k. take k (drop at text)) (sym (length-drop at text)) ∙ take-length (drop at text)

pub returns-in_err-at-clause-front : goal.returns-in_err-at-clause-front
returns-in_err-at-clause-front g c =
    let p = err_from_is_err_and c.from_residual.result c.from_residual.ensures.1 in
    rw (p.1) (
      drop c.loop-at.at c.args.text.now,
      record {
        front = take c.loop-at.at c.args.text.now;
        whole = sym (take-append-drop c.loop-at.at c.args.text.now);
        taken = Appends-kept _ _ _ _ c.loop-at.invariant.taken c.in_err-at.ensures.bytes;
      },
    )

pub loop-at-preserved : goal.loop-at-preserved
loop-at-preserved g c = record {
  within = grind (arith, common_steps);
  taken =
      rw take-add (Appends-trans _ _ _ _ _ c.loop-at.invariant.taken
      (subst (λ xs. Appends (g.K.Sink.written c.loop-at.out) (g.K.Sink.written c.write.new.self)
      (take c.in_ok-at.field-0 xs)) (rest_whole c.loop-at.at c.args.text.now) c.in_ok-at.ensures.bytes));
  kept = c.in_ok-at.ensures.cause.kept ∙ c.loop-at.invariant.kept;
}
