use Rattle.std.proofs.Common.{ℕ, List, ◌≡◌, ◌≤◌, ◌<◌, ◌+◌, ◌++◌, false, [], length, take, drop, sym, ap, ◌∙◌, subst, arith}
use Rattle.std.proofs.lemmas.Grind.{common_steps}
use Rattle.std.proofs.lemmas.Result.{err_from_is_err_and}
use Rattle.std.specs.Io.KnownBytes.{Consumes}
use Rattle.streams.specs.declared.loads.TheConstants.{PIECE}
use Rattle.streams.proofs.Gifts.{gave_more, gave_map, gave_same, gave_kept, gave_is_taken, loses_given, loses_more}
use Rattle.streams.proofs.Parts.{all_fed, fed_of, gave_fed}
use Rattle.streams.proofs.Prompt.{prompt}
use Rattle.streams.proofs.SoFar.{answered_more, written_now, written_more, all_ended, front_within, front_whole, cut_at_limit}
use Rattle.streams.proofs.answering.answer_lines.Goals as goal

pub returns-in_default-clause-front : goal.returns-in_default-clause-front
returns-in_default-clause-front g c =
    let text = g.A.Answerer.text in
    let after = g.A.Answerer.after in
    let s = c.loop-count.session in
    let sofar = c.loop-count.invariant in
    front_within text after c.args.answerer _ _ _ _ c.args.limit c.loop-count.taken sofar.few
    (gave_map _ _ _ _ _ (written_now text after c.args.answerer _ _ s.answerer s.number s.line.items) sofar.gave)

pub returns-in_default-clause-partial : goal.returns-in_default-clause-partial
returns-in_default-clause-partial g c = λ failed.
    let s = c.loop-count.session in
    let ended = λ (front : List ℕ). all_ended g.A.Answerer.text g.A.Answerer.after c.args.answerer _ _ s.answerer
    s.number s.line.items front s.one_line in
    gave_is_taken _ _ c.loop-count.taken _
    (gave_kept _ _ _ _ _ (gave_map _ _ _ _ _ ended c.loop-count.invariant.gave) c.in_default.ensures.bytes)

pub returns-in_err-answerer-clause-front : goal.returns-in_err-answerer-clause-front
returns-in_err-answerer-clause-front g c =
    let p = err_from_is_err_and c.from_residual.result c.from_residual.ensures.1 in
    let s = c.loop-count.session in
    let sofar = c.loop-count.invariant in
    let read = c.in-Ok.ensures.bytes in
    let room : 0 < length c.read.new.buf = grind (arith, common_steps) in
    let none : take c.in-Ok.count c.read.new.buf ≡ [] = ap (λ k. take k c.read.new.buf) c.if-count-eq0.true in
    rw (p.1) (front_whole g.A.Answerer.text g.A.Answerer.after c.args.answerer _ _ _ _ _ s.answerer c.args.limit
    c.loop-count.taken s.number s.line.items sofar.few (gave_same _ _ _ _ _ _ sofar.gave read.0 none)
    (read.1 c.if-count-eq0.true room) c.in_err-answerer.ensures.front)

pub returns-in_err-answerer-clause-prompt : goal.returns-in_err-answerer-clause-prompt
returns-in_err-answerer-clause-prompt g c = λ failed.
    let s = c.loop-count.session in
    let buf = c.read.new.buf in
    let size : length buf ≤ PIECE = grind (arith, common_steps) in
    let few : length (take c.in-Ok.count buf) ≤ PIECE =
    omega (arith, c.in-Ok.ensures.bound.0, c.in-Ok.ensures.bound.1, size) in
    prompt g.A.Answerer.text g.A.Answerer.after c.args.answerer _ _ _ _ _ _ s.answerer c.loop-count.taken s.number
    s.line.items (take c.in-Ok.count buf) _ s.one_line few c.loop-count.invariant.gave c.in-Ok.ensures.bytes.0
    c.in_err-answerer.ensures.front

pub returns-in_err-feed-clause-front : goal.returns-in_err-feed-clause-front
returns-in_err-feed-clause-front g c =
    let text = g.A.Answerer.text in
    let after = g.A.Answerer.after in
    let p = err_from_is_err_and c.from_residual-in_err-feed.result c.from_residual-in_err-feed.ensures.1 in
    let s = c.loop-count.session in
    let behind = drop c.min-most.result c.loop-count.piece in
    let fed = c.min-within.result in
    let some : fed ≤ c.in-Ok.count = grind (arith, common_steps) in
    let few : c.loop-count.taken + fed ≤ c.args.limit = grind (arith, common_steps) in
    let read = fed_of c.read.new.buf behind c.in-Ok.count fed some c.in-Ok.ensures.bound.0 in
    rw (p.1) (front_within text after c.args.answerer _ _ _ _ c.args.limit (c.loop-count.taken + fed) few
    (gave_fed _ _ _ _ _ _ read c.loop-count.invariant.gave c.in-Ok.ensures.bytes.0
    (λ front. written_more text after c.args.answerer _ _ _ s.answerer s.number s.line.items
    (take fed (c.read.new.buf ++ behind)) front c.in_err-feed.ensures.front)))

pub returns-in_err-feed-clause-prompt : goal.returns-in_err-feed-clause-prompt
returns-in_err-feed-clause-prompt g c = λ failed.
    let s = c.loop-count.session in
    let buf = c.read.new.buf in
    let size : length buf ≤ PIECE = grind (arith, common_steps) in
    let few : length (take c.in-Ok.count buf) ≤ PIECE =
    omega (arith, c.in-Ok.ensures.bound.0, c.in-Ok.ensures.bound.1, size) in
    prompt g.A.Answerer.text g.A.Answerer.after c.args.answerer _ _ _ _ _ _ s.answerer c.loop-count.taken s.number
    s.line.items (take c.in-Ok.count buf) _ s.one_line few c.loop-count.invariant.gave c.in-Ok.ensures.bytes.0
    (c.in_err-feed.ensures.front false [])

pub returns-then-limit-taken-clause-text : goal.returns-then-limit-taken-clause-text
returns-then-limit-taken-clause-text g c =
    let s = c.loop-count.session in
    let t = c.feed.new.self in
    let fed = c.min-within.result in
    let part = fed_of c.read.new.buf (drop c.min-most.result c.loop-count.piece) c.in-Ok.count fed in
    (cut_at_limit g.A.Answerer.text g.A.Answerer.after c.args.answerer _ _ _ _ _ _ s.answerer t.answerer c.args.limit
    c.loop-count.taken s.number t.number s.line.items t.line.items {fed = fed} t.one_line (grind (arith, common_steps))
    c.if-limit-taken.true (part (grind (arith, common_steps)) c.in-Ok.ensures.bound.0) c.loop-count.invariant.gave
    c.in-Ok.ensures.bytes.0 c.in_ok-feed.ensures.owes c.in_ok-feed.ensures.state).text_is

pub returns-then-limit-taken-clause-state : goal.returns-then-limit-taken-clause-state
returns-then-limit-taken-clause-state g c =
    let s = c.loop-count.session in
    let t = c.feed.new.self in
    let fed = c.min-within.result in
    let part = fed_of c.read.new.buf (drop c.min-most.result c.loop-count.piece) c.in-Ok.count fed in
    (cut_at_limit g.A.Answerer.text g.A.Answerer.after c.args.answerer _ _ _ _ _ _ s.answerer t.answerer c.args.limit
    c.loop-count.taken s.number t.number s.line.items t.line.items {fed = fed} t.one_line (grind (arith, common_steps))
    c.if-limit-taken.true (part (grind (arith, common_steps)) c.in-Ok.ensures.bound.0) c.loop-count.invariant.gave
    c.in-Ok.ensures.bytes.0 c.in_ok-feed.ensures.owes c.in_ok-feed.ensures.state).state_is

pub returns-then-limit-taken-clause-taken : goal.returns-then-limit-taken-clause-taken
returns-then-limit-taken-clause-taken g c =
    let count = c.in-Ok.count in
    let all : c.loop-count.taken + count ≡ c.args.limit + 1 = grind (arith, common_steps) in
    loses_given _ _ (c.loop-count.taken + count) (c.args.limit + 1) (λ front. Unit {0}) all
    (gave_more _ _ _ _ count (take count c.read.new.buf) _ _ c.loop-count.invariant.gave c.in-Ok.ensures.bytes.0
    (sym c.in-Ok.ensures.bound.1) (λ front p. tt))

pub returns-in_err-feed-clause-most : goal.returns-in_err-feed-clause-most
returns-in_err-feed-clause-most g c =
    let count = c.in-Ok.count in
    let within : count ≤ length c.read.new.buf = c.in-Ok.ensures.bound.0 in
    let few : c.loop-count.taken + count ≤ c.args.limit + 1 = grind (arith, common_steps) in
    loses_more _ _ _ c.loop-count.taken (c.args.limit + 1) (take count c.read.new.buf) _ c.loop-count.invariant.gave
    c.in-Ok.ensures.bytes.0
    (omega (arith, few, c.in-Ok.ensures.bound.1))

pub returns-then-limit-taken-clause-most : goal.returns-then-limit-taken-clause-most
returns-then-limit-taken-clause-most g c =
    let count = c.in-Ok.count in
    let within : count ≤ length c.read.new.buf = c.in-Ok.ensures.bound.0 in
    let few : c.loop-count.taken + count ≤ c.args.limit + 1 = grind (arith, common_steps) in
    loses_more _ _ _ c.loop-count.taken (c.args.limit + 1) (take count c.read.new.buf) _ c.loop-count.invariant.gave
    c.in-Ok.ensures.bytes.0
    (omega (arith, few, c.in-Ok.ensures.bound.1))

pub loop-count-preserved : goal.loop-count-preserved
loop-count-preserved g c =
    let s = c.loop-count.session in
    let t = c.feed.new.self in
    let did = c.in_ok-feed.ensures in
    let sofar = c.loop-count.invariant in
    let count = c.in-Ok.count in
    let buf = c.read.new.buf in
    let behind = drop c.min-most.result c.loop-count.piece in
    let fed = c.min-within.result in
    let within : count ≤ length buf = c.in-Ok.ensures.bound.0 in
    let all : fed ≡ count = grind (arith, common_steps) in
    let part = take fed (buf ++ behind) in
    let whole : take count buf ≡ part = all_fed buf behind count fed all within in
    let size : length part ≡ count = (fed_of buf behind count fed (omega (arith, all)) within).length_fed ∙ all in
    record {
      few = grind (arith, common_steps);
      number = omega (arith, did.number, size, sofar.number);
      gave = gave_more _ _ _ _ count part _ _ sofar.gave (subst (Consumes _ _) whole c.in-Ok.ensures.bytes.0) size
          (λ front. answered_more g.A.Answerer.text g.A.Answerer.after c.args.answerer _ _ _ s.answerer t.answerer
          s.number t.number s.line.items t.line.items part front did.owes did.state);
      source = c.in-Ok.ensures.cause.kept ∙ sofar.source;
      sink = did.stops.kept (λ no. absurd (let clash : ⊥ = cc in clash)) ∙ sofar.sink;
    }
