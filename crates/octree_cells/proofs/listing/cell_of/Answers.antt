use Rattle.std.proofs.Common.{◌<◌, length, ap, sym, ◌∙◌, subst, arith}
use Rattle.morton_key.specs.Keys.{key_at, code_at}
use Rattle.octree_cells.specs.Cells.{prefix_at}
use Rattle.octree_cells.specs.Levels.{cell_over}
use Rattle.octree_cells.proofs.Walking.{read_is, first_within, last_within, read_shares, read_cell}
use Rattle.octree_cells.proofs.listing.cell_of.Goals as goal

pub shared_level-requires-clause-first : goal.shared_level-requires-clause-first
shared_level-requires-clause-first c =
    let t = c.args.t.now in
    let table = c.keys-keys.ensures.table in
    let read = read_is t table c.args.level c.requires.level c.args.number c.requires.number c.nodes.result.now
    c.index-nodes-number.result c.nodes.ensures.nodes c.index-nodes-number.is in
    subst (λ ks. c.index-nodes-number.result.first < length ks) (sym c.keys-keys.ensures.keys)
    (first_within t table c.args.level c.requires.level c.args.number c.requires.number c.index-nodes-number.result
    read)

pub shared_level-requires-clause-second : goal.shared_level-requires-clause-second
shared_level-requires-clause-second c =
    let t = c.args.t.now in
    let table = c.keys-keys.ensures.table in
    let read = read_is t table c.args.level c.requires.level c.args.number c.requires.number c.nodes.result.now
    c.index-nodes-number.result c.nodes.ensures.nodes c.index-nodes-number.is in
    subst (λ ks. c.index-nodes-number.result.last < length ks) (sym c.keys-keys.ensures.keys)
    (last_within t table c.args.level c.requires.level c.args.number c.requires.number c.index-nodes-number.result read)

pub bounds-keys-first : goal.bounds-keys-first
bounds-keys-first c =
    let t = c.args.t.now in
    let table = c.keys-keys.ensures.table in
    let read = read_is t table c.args.level c.requires.level c.args.number c.requires.number c.nodes.result.now
    c.index-nodes-number.result c.nodes.ensures.nodes c.index-nodes-number.is in
    subst (λ ks. c.index-nodes-number.result.first < length ks) (sym c.keys-keys.ensures.keys)
    (first_within t table c.args.level c.requires.level c.args.number c.requires.number c.index-nodes-number.result
    read)

pub returns-then-shared_level-level-clause-none : goal.returns-then-shared_level-level-clause-none
returns-then-shared_level-level-clause-none c = λ _.
    let t = c.args.t.now in
    let table = c.keys-keys.ensures.table in
    let read = read_is t table c.args.level c.requires.level c.args.number c.requires.number c.nodes.result.now
    c.index-nodes-number.result c.nodes.ensures.nodes c.index-nodes-number.is in
    omega (
      arith,
      c.shared_level.ensures.value,
      read_shares t table c.args.level c.requires.level c.args.number c.requires.number c.keys-keys.result.now
          c.index-nodes-number.result c.keys-keys.ensures.keys read,
    )

pub returns-clause-some : goal.returns-clause-some
returns-clause-some c =
    let t = c.args.t.now in
    let table = c.keys-keys.ensures.table in
    let read = read_is t table c.args.level c.requires.level c.args.number c.requires.number c.nodes.result.now
    c.index-nodes-number.result c.nodes.ensures.nodes c.index-nodes-number.is in
    omega (
      arith,
      c.shared_level.ensures.value,
      read_shares t table c.args.level c.requires.level c.args.number c.requires.number c.keys-keys.result.now
          c.index-nodes-number.result c.keys-keys.ensures.keys read,
    )

pub returns-clause-cell : goal.returns-clause-cell
unfolding cell_over prefix_at code_at key_at
returns-clause-cell c =
    let t = c.args.t.now in
    let table = c.keys-keys.ensures.table in
    let node = c.index-nodes-number.result in
    let read = read_is t table c.args.level c.requires.level c.args.number c.requires.number c.nodes.result.now
    node c.nodes.ensures.nodes c.index-nodes-number.is in
    let prefix = c.prefix.ensures ∙ ap (λ ks. prefix_at ks c.args.level node.first) c.keys-keys.ensures.keys in
    ap (λ p. record { level = c.args.level; prefix = p; first = node.first; last = node.last }) prefix
    ∙ read_cell t table c.args.level c.requires.level c.args.number c.requires.number node read
