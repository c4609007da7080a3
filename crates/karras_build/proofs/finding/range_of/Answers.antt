use Rattle.std.proofs.Common.{◌-◌, length, arith, subst, sym, refl}
use Rattle.radix_tree.specs.Ranges.{IsNode}
use Rattle.radix_tree.proofs.NodeLaws.{root_node}
use Rattle.karras_build.proofs.NearerNeighbour.{neighbours_of, other_is_nearer, up_found, down_found}
use Rattle.karras_build.proofs.finding.range_of.Goals as goal

pub returns-then-number-eq0-clause-node : goal.returns-then-number-eq0-clause-node
returns-then-number-eq0-clause-node c =
    subst (λ k. IsNode c.args.keys.now k 0 (length c.args.keys.now - 1)) (sym c.if-number-eq0.true)
    (root_node c.args.keys.now c.requires.lawful (length c.args.keys.now - 1) refl (omega arith))

pub furthest-requires-else-before-after-clause-next : goal.furthest-requires-else-before-after-clause-next
furthest-requires-else-before-after-clause-next c = (
  omega arith,
  omega (
    arith,
    other_is_nearer c.args.keys.now c.requires.lawful c.args.number c.common_prefix-before.result c.common_prefix-after.result
        (neighbours_of c.args.keys.now c.requires.lawful c.args.number c.common_prefix-before.result c.common_prefix-after.result
        (omega arith) c.requires.within c.common_prefix-before.ensures.value c.common_prefix-after.ensures.value)
        c.if-before-after.false,
  ),
)

pub returns-then-before-after-clause-node : goal.returns-then-before-after-clause-node
returns-then-before-after-clause-node c =
    up_found c.args.keys.now c.requires.lawful c.args.number c.common_prefix-before.result c.common_prefix-after.result
    c.furthest.result
    (neighbours_of c.args.keys.now c.requires.lawful c.args.number c.common_prefix-before.result c.common_prefix-after.result
    (omega arith) c.requires.within c.common_prefix-before.ensures.value c.common_prefix-after.ensures.value)
    c.if-before-after.true c.furthest.ensures.some c.furthest.ensures.reaches c.furthest.ensures.ends

pub returns-else-before-after-clause-node : goal.returns-else-before-after-clause-node
returns-else-before-after-clause-node c =
    down_found c.args.keys.now c.requires.lawful c.args.number c.common_prefix-before.result c.common_prefix-after.result
    c.furthest-else-before-after.result
    (neighbours_of c.args.keys.now c.requires.lawful c.args.number c.common_prefix-before.result c.common_prefix-after.result
    (omega arith) c.requires.within c.common_prefix-before.ensures.value c.common_prefix-after.ensures.value)
    c.if-before-after.false c.furthest-else-before-after.ensures.some c.furthest-else-before-after.ensures.reaches
    c.furthest-else-before-after.ensures.ends
