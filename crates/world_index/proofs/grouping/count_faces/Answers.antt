use Rattle.std.proofs.Common.{◌≡◌, ◌<◌, ◌≤◌, ◌+◌, ◌∙◌, length, take, get_or, set, ap, sym, arith}
use Rattle.std.proofs.lemmas.List.{length-take}
use Rattle.std.proofs.lemmas.List.Elements.{All-get_or}
use Rattle.obj_text.specs.Meshes.{IsPlaceIn}
use Rattle.world_index.proofs.GroupCounts.{length-counts, counts_of_none, count_few, one_more}
use Rattle.world_index.proofs.grouping.count_faces.Goals as goal

pub loop-place-init : goal.loop-place-init
loop-place-init c = c.in_ok-counts.ensures ∙ sym (counts_of_none 0 c.args.groups)

pub index_mut-requires : goal.index_mut-requires
index_mut-requires c =
    let many : length c.loop-place.counts.items ≡ c.args.groups =
    ap length c.loop-place.invariant
    ∙ length-counts 0 c.args.groups (take c.loop-place.place-index c.args.group_of.now) in
    let place = All-get_or (IsPlaceIn c.args.groups) c.args.group_of.now c.loop-place.place-index 0
    c.loop-place-test.true c.requires.places in
    omega (arith, many, place, c.loop-place.counts.ok)

pub overflow_add-index_mut : goal.overflow_add-index_mut
overflow_add-index_mut c =
    let xs = take c.loop-place.place-index c.args.group_of.now in
    let i = get_or c.args.group_of.now c.loop-place.place-index 0 in
    let x = c.index_mut.result.now in
    let place : i < c.args.groups =
    All-get_or (IsPlaceIn c.args.groups) c.args.group_of.now c.loop-place.place-index 0 c.loop-place-test.true
    c.requires.places in
    let few : x ≤ length xs = count_few xs 0 c.args.groups i x place
    (c.index_mut.ensures.value ∙ ap (λ cs. get_or cs i x) c.loop-place.invariant) in
    let all : length xs ≤ length c.args.group_of.now =
    omega (arith, length-take c.loop-place.place-index c.args.group_of.now) in
    omega (arith, few, all, c.requires.few)

pub loop-place-preserved : goal.loop-place-preserved
loop-place-preserved c =
    let xs = c.args.group_of.now in
    let k = c.loop-place.place-index in
    let i = get_or xs k 0 in
    let x = c.index_mut.result.now in
    let place : i < c.args.groups =
    All-get_or (IsPlaceIn c.args.groups) xs k 0 c.loop-place-test.true c.requires.places in
    ap (λ cs. set cs i (x + 1)) c.loop-place.invariant
    ∙ one_more xs k c.loop-place-test.true 0 c.args.groups i x place (omega arith)
    (c.index_mut.ensures.value ∙ ap (λ cs. get_or cs i x) c.loop-place.invariant)
