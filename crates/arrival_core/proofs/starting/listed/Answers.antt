use Rattle.std.proofs.Common.{◌≡◌, ◌∙◌, ap, length, drop}
use Rattle.std.proofs.lemmas.List.{take_at}
use Rattle.arrival_core.proofs.StartCore.{shows_start, start_core}
use Rattle.arrival_core.proofs.StartLists.{start_lists_of}
use Rattle.arrival_core.proofs.starting.listed.Goals as goal

pub of-requires-clause-core : goal.of-requires-clause-core
of-requires-clause-core c =
    let kept = c.start_forks.auto.forks ∙ c.deref_mut.ensures.len in
    let whole = take_at c.start_forks.new.forks (drop (length c.start_forks.new.forks) c.in_ok-forks.forks.items)
    c.in_ok-forks.forks.len kept in
    let count : length c.start_forks.new.forks ≡ length c.args.g.tree.now.nodes =
    kept ∙ (c.in_ok-forks.ensures.len ∙ ap length c.nodes.ensures.nodes) in
    start_core _ (start_lists_of c.args.g c.args.workers c.requires.one c.requires.few c.requires.terrain
    c.start_forks.new.forks count (λ t lt. c.start_forks.ensures c.args.workers t c.requires.one lt) _ _ _
    (c.in_ok-claimed.ensures.items_if_clones_equal (λ y e. e)) whole
    (c.in_ok-climbers.ensures.items_if_clones_equal (λ y e. e)))

pub returns-clause-start : goal.returns-clause-start
returns-clause-start c =
    let kept = c.start_forks.auto.forks ∙ c.deref_mut.ensures.len in
    let whole = take_at c.start_forks.new.forks (drop (length c.start_forks.new.forks) c.in_ok-forks.forks.items)
    c.in_ok-forks.forks.len kept in
    let count : length c.start_forks.new.forks ≡ length c.args.g.tree.now.nodes =
    kept ∙ (c.in_ok-forks.ensures.len ∙ ap length c.nodes.ensures.nodes) in
    rw c.of.ensures (shows_start _ (start_lists_of c.args.g c.args.workers c.requires.one c.requires.few
    c.requires.terrain c.start_forks.new.forks count (λ t lt. c.start_forks.ensures c.args.workers t c.requires.one lt)
    _ _ _ (c.in_ok-claimed.ensures.items_if_clones_equal (λ y e. e)) whole
    (c.in_ok-climbers.ensures.items_if_clones_equal (λ y e. e))))

pub returns-clause-lawful : goal.returns-clause-lawful
returns-clause-lawful c =
    let kept = c.start_forks.auto.forks ∙ c.deref_mut.ensures.len in
    let whole = take_at c.start_forks.new.forks (drop (length c.start_forks.new.forks) c.in_ok-forks.forks.items)
    c.in_ok-forks.forks.len kept in
    let count : length c.start_forks.new.forks ≡ length c.args.g.tree.now.nodes =
    kept ∙ (c.in_ok-forks.ensures.len ∙ ap length c.nodes.ensures.nodes) in
    rw c.of.ensures (start_core _ (start_lists_of c.args.g c.args.workers c.requires.one c.requires.few
    c.requires.terrain c.start_forks.new.forks count (λ t lt. c.start_forks.ensures c.args.workers t c.requires.one lt)
    _ _ _ (c.in_ok-claimed.ensures.items_if_clones_equal (λ y e. e)) whole
    (c.in_ok-climbers.ensures.items_if_clones_equal (λ y e. e)))).lawful
