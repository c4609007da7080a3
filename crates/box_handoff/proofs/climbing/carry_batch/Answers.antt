use Rattle.std.proofs.Common.{true, arith, refl, ap, ◌∙◌, sym, subst, ◌≡◌, ◌<◌, ◌+◌, ◌-◌, ◌*◌, ℕ, suc, List, length, take, drop}
use Rattle.std.specs.Prelude.{slice_index}
use Rattle.arrival_core.specs.Events.{resume}
use Rattle.box_handoff.specs.declared.views.About.{About}
use Rattle.box_handoff.specs.Entries.{frame, given_of, worker_of}
use Rattle.box_handoff.specs.Plays.{mine}
use Rattle.box_handoff.proofs.FrameOf.{FrameLaws, frame_laws_of}
use Rattle.box_handoff.proofs.GrowLaws.{grew_none}
use Rattle.box_handoff.proofs.BatchLaws.{batches_are, batch_end, climbed_all, at_index, faces, goes_on, phase_of, tally_of}
use Rattle.box_handoff.proofs.climbing.carry_batch.Goals as goal

pub overflow_mul-begin : goal.overflow_mul-begin
overflow_mul-begin g c = let l = (frame_laws_of _ c.requires.over.given).few in
    let b = batches_are (given_of c.args.table.now.key.value) in omega arith

pub overflow_add-begin : goal.overflow_add-begin
overflow_add-begin g c = let l = (frame_laws_of _ c.requires.over.given).few in
    let b = batches_are (given_of c.args.table.now.key.value) in omega arith

pub overflow_step-i : goal.overflow_step-i
overflow_step-i g c = let l = (frame_laws_of _ c.requires.over.given).few in
    let b = batches_are (given_of c.args.table.now.key.value) in omega arith

pub loop-i-init : goal.loop-i-init
loop-i-init g c = let b = batches_are (given_of c.args.table.now.key.value) in
    let same : c.args.table.now.key.value.live.items ≡ c.args.about.now.live.items = ap
    (λ (a : About). a.live.items) c.requires.over.key_is in
    let n : length c.args.table.now.key.value.live.items ≡ length c.args.about.now.live.items = ap
    (λ (x : List ℕ). length x) same in record {
      climbed = record {
        table = refl;
        id = refl;
        view = c.requires.one;
        home = c.requires.home;
        grew = grew_none _ _;
        small = λ h. h;
      };
      worker = c.requires.worker ∙ ap (λ (x : List ℕ). resume (frame (given_of c.args.table.now.key.value))
          (c.args.batch + 1) x c.args.tally) (batch_end (given_of c.args.table.now.key.value) c.args.batch
          c.min-end.result (let e = c.min-end.ensures in let m = c.len.ensures in omega arith) (omega arith))
          ∙ ap (λ (x : List ℕ). resume (frame (given_of c.args.table.now.key.value)) (c.args.batch + 1)
          (take (c.min-end.result - 64 * c.args.batch) (drop (64 * c.args.batch) x)) c.args.tally) same;
    }

pub leaf_load-load-requires-clause-within : goal.leaf_load-load-requires-clause-within
leaf_load-load-requires-clause-within g c = λ κs o. let laws : FrameLaws (given_of c.args.about.now) = subst
    (λ (a : About). FrameLaws (given_of a)) c.requires.over.key_is
    (frame_laws_of (given_of c.args.table.now.key.value) c.requires.over.given) in
    let e = c.min-end.ensures in let m = c.len.ensures in
    let in_ : c.loop-i.i < length c.args.about.now.live.items = omega arith in
    let v : c.index.result.now ≡ slice_index c.args.about.now.live.items c.loop-i.i = at_index _ _ _ c.index.ensures
    in_ in let l : slice_index c.args.about.now.live.items c.loop-i.i < suc
    (frame (given_of c.args.about.now)).nodes = laws.live_in c.loop-i.i in_ in
    subst (λ (x : ℕ). x < suc (frame (given_of c.args.about.now)).nodes) (sym v) l

pub leaf_load-load-requires-clause-live : goal.leaf_load-load-requires-clause-live
leaf_load-load-requires-clause-live g c = λ κs o. let laws : FrameLaws (given_of c.args.about.now) = subst
    (λ (a : About). FrameLaws (given_of a)) c.requires.over.key_is
    (frame_laws_of (given_of c.args.table.now.key.value) c.requires.over.given) in
    let e = c.min-end.ensures in let m = c.len.ensures in
    let in_ : c.loop-i.i < length c.args.about.now.live.items = omega arith in
    let v : c.index.result.now ≡ slice_index c.args.about.now.live.items c.loop-i.i = at_index _ _ _ c.index.ensures
    in_ in
    subst (λ (x : ℕ). (frame (given_of c.args.about.now)).live_leaf x ≡ true) (sym v) (laws.live_leaf c.loop-i.i in_)

pub carry_up-tally-requires-clause-phase : goal.carry_up-tally-requires-clause-phase
carry_up-tally-requires-clause-phase g c = λ κs o. phase_of _ _ _ _ _
    (faces c.args.table.now.key.value c.args.about.now c.requires.over.key_is c.loop-i.seat.me
    (c.args.batch + 1) c.loop-i.i c.min-end.result c.index.result.now c.len.result
    (64 * c.args.batch + 64) c.loop-i.tally c.leaf_load-load.result c.loop-i.invariant.worker c.loop-i-test.true
    c.min-end.ensures (let m = c.len.ensures in let x : c.len.result ≡ length c.args.about.now.live.items = omega
    arith in x) c.index.ensures c.leaf_load-load.ensures.value)

pub carry_up-tally-requires-clause-tally : goal.carry_up-tally-requires-clause-tally
carry_up-tally-requires-clause-tally g c = λ κs o. tally_of (worker_of (mine c.loop-i.seat.me)) _ _ _ _
    (faces c.args.table.now.key.value c.args.about.now c.requires.over.key_is c.loop-i.seat.me
    (c.args.batch + 1) c.loop-i.i c.min-end.result c.index.result.now c.len.result
    (64 * c.args.batch + 64) c.loop-i.tally c.leaf_load-load.result c.loop-i.invariant.worker c.loop-i-test.true
    c.min-end.ensures (let m = c.len.ensures in let x : c.len.result ≡ length c.args.about.now.live.items = omega
    arith in x) c.index.ensures c.leaf_load-load.ensures.value)

pub loop-i-preserved : goal.loop-i-preserved
loop-i-preserved g c = record {
  climbed = climbed_all _ _ _ _ c.loop-i.invariant.climbed c.carry_up-tally.ensures.climbed;
  worker = goes_on (frame (given_of c.args.table.now.key.value)) c.loop-i.seat.me c.carry_up-tally.new.seat.me _ _ _ _
      c.carry_up-tally.result (faces c.args.table.now.key.value c.args.about.now c.requires.over.key_is c.loop-i.seat.me
      (c.args.batch + 1) c.loop-i.i c.min-end.result c.index.result.now c.len.result
      (64 * c.args.batch + 64) c.loop-i.tally c.leaf_load-load.result c.loop-i.invariant.worker c.loop-i-test.true
      c.min-end.ensures (let m = c.len.ensures in let x : c.len.result ≡ length c.args.about.now.live.items = omega
      arith in x) c.index.ensures c.leaf_load-load.ensures.value) c.carry_up-tally.ensures.worker;
}
