use Rattle.std.proofs.Common.{rules, ◌≡◌, ◌++◌, ◌∙◌, map, decimal, ap}
use Rattle.query_script.specs.Replies.{spaced}
use Rattle.query_script.proofs.SpacedNumbers.{spaced_parted}
use Rattle.query_script.proofs.texts.add_numbers.Goals as goal

pub loop-rest-preserved : goal.loop-rest-preserved
loop-rest-preserved c =
    let was = c.loop-rest.text.items in
    let few = c.split_at.result.0.now in
    let more = c.split_at.result.1.now in
    let added : c.add_few_numbers.new.text.items ≡ was ++ spaced (map decimal few) = search rules in
    let parted = spaced_parted c.min.result c.loop-rest.rest.now few more was (search rules) (search rules) in
    ap (λ t. t ++ spaced (map decimal more)) added ∙ parted ∙ c.loop-rest.invariant
