-- A whole list while it is refitted: its leaves were moved, then its records are mended.
use Rattle.std.proofs.Common.{◌≡◌, ℕ, ◌<◌, ◌≤◌, ap, sym, arith, subst, List, [], ◌∷◌, length, All, Global}
use Rattle.std.specs.declared.vec.Vec.{Vec}
use Rattle.std.specs.Vec.{with_items}
use Rattle.std.proofs.lemmas.List.{with_items_is}
use Rattle.fixed_box.specs.declared.shapes.Box3.{Box3}
use Rattle.fixed_box.specs.World.{BoxInWorld}
use Rattle.walk_list.specs.declared.records.Leaf.{Leaf}
use Rattle.walk_list.specs.declared.records.Record.{Record}
use Rattle.walk_list.specs.Covering.{Bounds, Covers, CoversAll, CoversBy}
use Rattle.walk_list.specs.Lists.{Contents, IsOver}
use Rattle.walk_list.specs.Moving.{AreOverBut}
use Rattle.walk_list.specs.Records.{record_at}
use Rattle.walk_list.specs.Stale.{AreInWorld, BoundsBut, Moves}
use Rattle.walk_list.proofs.Coverings.{covers_end, whole_list}
use Rattle.walk_list.proofs.Moved.{over_now, stale, world_now}

-- what is known once the leaves were moved
pub record AfterMoves (boxes : List Box3) (moved : List ℕ) (before now : List Leaf) : Type 0 where
  pub moves : Moves boxes moved before now
  pub world : AreInWorld now
  pub over : (f : Contents) → f.leaves ≡ now → IsOver f boxes

-- as they stand in the list, which lent them
pub after_moves : (leaves : Vec Leaf Global) {boxes : List Box3} {moved : List ℕ} {lent seen after : List Leaf} →
    lent ≡ leaves.items → Moves boxes moved lent after → leaves.items ≡ seen → AreOverBut seen boxes moved →
    All BoxInWorld boxes → AfterMoves boxes moved leaves.items (with_items leaves after).items
after_moves leaves {boxes = boxes} {moved = moved} {after = after} is moves seen_is seen_but world =
    let before = leaves.items in
    let but = subst (λ ls. AreOverBut ls boxes moved) (sym seen_is) seen_but in
    let m : Moves boxes moved before after = subst (λ ls. Moves boxes moved ls after) is moves in
    let held = with_items_is leaves after (omega (arith, m.count, leaves.ok.0)) in
    subst (AfterMoves boxes moved before) (sym held) (record {
      moves = m;
      world = world_now boxes moved before after m but world;
      over = over_now boxes moved before after m but;
    })

module _ {boxes : List Box3} {moved : List ℕ} {before now : List Leaf} (l : AfterMoves boxes moved before now) where
  -- the first record ends where the leaves end
  root_end : (records : List Record) → CoversAll before records → 0 < length records →
      (record_at records 0).end ≡ length now
  unfolding record_at
  root_end [] c some = absurd (omega arith)
  root_end (r ∷ rs) c some =
      let end = covers_end (Bounds before) r rs 0 (length before) c in
      omega (arith, end, l.moves.count)

  -- the records are stale where leaves moved
  root_stale : (records : List Record) → CoversAll before records → 0 < length records →
      CoversBy (BoundsBut now moved) records 0 (record_at records 0).end
  root_stale [] c some = absurd (omega arith)
  root_stale (r ∷ rs) c some =
      let end = root_end (r ∷ rs) c some in
      let long : length before ≡ (record_at (r ∷ rs) 0).end = omega (arith, end, l.moves.count) in
      subst (CoversBy (BoundsBut now moved) (r ∷ rs) 0) long
      (stale boxes moved before now l.moves (r ∷ rs) 0 (length before) c)

  module _ (records : Vec Record Global) (covers : CoversAll before records.items) (some : 0 < length records.items)
      {leaves : List Leaf} {lent : List Record} (leaves_is : leaves ≡ now) (lent_is : lent ≡ records.items) where
    -- the records that are mended cover no leaf that is not there
    pub lent_within : (record_at lent 0).end ≤ length leaves
    lent_within = subst (λ rs. (record_at rs 0).end ≤ length leaves) (sym lent_is)
        (omega (arith, root_end records.items covers some, ap length leaves_is))

    -- they are stale where leaves moved
    pub lent_stale : CoversBy (BoundsBut leaves moved) lent 0 (record_at lent 0).end
    lent_stale = subst (λ ls. CoversBy (BoundsBut ls moved) lent 0 (record_at lent 0).end) (sym leaves_is)
        (subst (λ rs. CoversBy (BoundsBut now moved) rs 0 (record_at rs 0).end) (sym lent_is)
        (root_stale records.items covers some))

    -- and mended they cover all leaves
    pub root_mended : (mended : List Record) → length mended ≡ length lent →
        Covers leaves mended 0 (record_at lent 0).end → CoversAll now (with_items records mended).items
    root_mended mended long h =
        let kept = with_items_is records mended (omega (arith, long, ap length lent_is, records.ok.0)) in
        subst (CoversAll now) (sym kept) (whole_list now mended
        (subst (Covers now mended 0) (root_end records.items covers some)
        (subst (λ rs. Covers now mended 0 (record_at rs 0).end) lent_is
        (subst (λ ls. Covers ls mended 0 (record_at lent 0).end) leaves_is h))))

  -- where there is no record there is no leaf
  pub none_mended : (records : List Record) → CoversAll before records → records ≡ [] → CoversAll now records
  none_mended [] c e = omega (arith, c, l.moves.count)
  none_mended (r ∷ rs) c e = absurd (omega (arith, ap length e))
