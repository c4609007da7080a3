use Rattle.std.proofs.Common.{arith, refl}
use Rattle.morton_key.specs.Keys.{key_at, tri_at}
use Rattle.world_index.proofs.LivePositions.{one_placed}
use Rattle.world_index.proofs.positions.placed.Goals as goal

pub overflow_sub-keys : goal.overflow_sub-keys
unfolding tri_at key_at
overflow_sub-keys c = c.requires.from_one c.loop-position.position c.loop-position-test.true

pub index_mut-requires : goal.index_mut-requires
unfolding tri_at key_at
index_mut-requires c =
    let p = c.loop-position.position in
    let lt = c.loop-position-test.true in
    omega (
      arith,
      c.requires.from_one p lt,
      c.requires.to_count p lt,
      c.loop-position.invariant.count,
      c.loop-position.positions.ok,
    )

pub loop-position-preserved : goal.loop-position-preserved
unfolding tri_at key_at
loop-position-preserved c =
    one_placed c.args.keys.now c.requires c.loop-position.positions.items c.loop-position.position _
    c.loop-position-test.true refl c.loop-position.invariant
