use Rattle.walk_list.proofs.Makings.{run_part}
use Rattle.walk_list.proofs.listing.list_run.Goals as goal

pub returns : goal.returns
returns c = λ leaves a bounds lt.
    run_part leaves c.args.fit a c.args.end c.args.records.now.items c.push.new.self.items bounds lt
    c.in_ok-push.ensures.items
