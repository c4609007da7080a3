use Rattle.std.proofs.Common.{◌≡◌, ℕ, ◌+◌, ◌-◌, ◌<◌, suc, length, sym, ap, ◌∙◌, subst, arith}
use Rattle.morton_key.specs.declared.keys.TheConstants.{LEVELS}
use Rattle.morton_key.specs.Keys.{IsLawful}
use Rattle.octree_cells.specs.CellsOf.{cell_count_of}
use Rattle.octree_cells.specs.Levels.{shared_level}
use Rattle.octree_cells.proofs.Beginnings.{levels_at, begun, levels-first, begun-none, levels-between, pair_step, begun-but_last}
use Rattle.octree_cells.proofs.counting.count.Goals as goal

pub loop-i-init : goal.loop-i-init
loop-i-init c =
    let keys = c.keys-keys.result.now in
    record { sum = sym (begun-none keys LEVELS); own = sym (levels-first keys); few = omega arith; end = omega arith }

pub loop-i-preserved : goal.loop-i-preserved
loop-i-preserved c =
    let keys = c.keys-keys.result.now in
    let ok = subst IsLawful (sym c.keys-keys.ensures.keys) c.keys-keys.ensures.table.lawful in
    let before : ℕ = c.loop-i.i - 1 in
    let here : suc before ≡ c.loop-i.i = omega (arith, c.loop-i.auto.i) in
    let next : c.loop-i.i + 1 - 1 ≡ suc before = omega arith in
    let inside : suc before < length keys = omega (arith, c.loop-i-test.true) in
    let shared = c.shared_level-levels.ensures.value ∙ sym (ap (shared_level keys before) here) in
    record {
      sum = omega (
        arith,
        ap (begun keys LEVELS) next,
        pair_step keys ok before inside,
        shared,
        c.loop-i.invariant.sum,
        c.loop-i.invariant.own,
        c.saturating_sub.ensures,
        c.from-total.ensures,
      );
      own = omega (arith, ap (levels_at keys) next, levels-between keys before inside, shared);
      few = omega (
        arith,
        c.loop-i.invariant.few,
        c.shared_level-levels.ensures.most,
        c.saturating_sub.ensures,
        c.from-total.ensures,
      );
      end = omega (arith, c.loop-i-test.true);
    }

pub returns : goal.returns
returns c =
    let keys = c.keys-keys.result.now in
    let ok = subst IsLawful (sym c.keys-keys.ensures.keys) c.keys-keys.ensures.table.lawful in
    let last : c.loop-i.i - 1 ≡ length keys - 1 = omega (
      arith,
      c.loop-i.auto.i,
      c.loop-i.invariant.end,
      c.loop-i-test.false,
    ) in
    c.loop-i.invariant.sum
    ∙ (ap (begun keys LEVELS) last ∙ (begun-but_last keys ok ∙ ap cell_count_of c.keys-keys.ensures.keys))
