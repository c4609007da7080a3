use Rattle.std.proofs.Common.{rules, ◌≡◌, ◌≤◌, ◌-◌, ◌∷◌, ◌++◌, ◌∙◌, [], length, take, drop, slice_index_or, ap, sym}
use Rattle.decimals.specs.Rounding.{IsFront}
use Rattle.decimals.proofs.LeadingWords.{word_of, word_parted, rest_within, word_front, word_plain, short_value, first_parted}
use Rattle.decimals.proofs.grid_values.grid_before.Goals as goal

-- the decimal that was read, and what follows it
read : (c : goal.After-short_steps) → IsFront c.args.text.now c.in-Some.decimal c.in-Some.rest.now
read c = search rules

-- what follows it begins with the byte
stops : (c : goal.After-short_steps) → c.in-Some.rest.now
    ≡ c.args.stop ∷ take (length c.in-Some.rest.now - 1) (drop 1 c.in-Some.rest.now)
stops c =
    let rest = c.in-Some.rest.now in
    let some : 1 ≤ length rest = search rules in
    let first : slice_index_or rest 0 0 ≡ c.args.stop = search rules in
    first_parted c.args.stop rest some first

-- its word begins with it
word : (c : goal.After-short_steps) → IsFront (word_of c.args.text.now c.in-Some.rest.now) c.in-Some.decimal []
word c =
    let rest = c.in-Some.rest.now in
    word_front c.args.text.now c.in-Some.decimal rest c.args.stop (take (length rest - 1) (drop 1 rest)) (read c)
    (stops c) c.requires

pub slice_bounds-word-count : goal.slice_bounds-word-count
slice_bounds-word-count c =
    let p : IsFront c.args.text.now c.in-Some.decimal c.in-Some.rest.now = search rules in
    rest_within c.args.text.now c.in-Some.rest.now p.rest_is

pub returns-clause-value : goal.returns-clause-value
returns-clause-value c =
    sym (short_value c.args.unit (word_of c.args.text.now c.in-Some.rest.now) c.in-Some.decimal _ (search rules)
    (search rules) (word c) (search rules))

pub returns-clause-whole : goal.returns-clause-whole
returns-clause-whole c =
    word_parted c.args.text.now c.in-Some.rest.now (read c).rest_is
    ∙ ap (λ r. word_of c.args.text.now c.in-Some.rest.now ++ r) (stops c)

pub returns-clause-plain : goal.returns-clause-plain
returns-clause-plain c = word_plain (word_of c.args.text.now c.in-Some.rest.now) c.in-Some.decimal (word c)
