use Rattle.std.proofs.Common.{rules, arith, ◌≡◌, ◌≤◌, ◌<◌, ◌-◌, ◌^◌, length, slice_index_or}
use Rattle.query_script.proofs.SpacedNumbers.{few_digits, number_before}
use Rattle.query_script.proofs.texts.add_few_numbers.Goals as goal

pub write_digits-at-requires : goal.write_digits-at-requires
write_digits-at-requires c =
    let small : c.from.result < 2 ^ 32 = search rules in
    let some : 1 ≤ c.loop-left.left = search rules in
    let held = c.loop-left.invariant in
    (omega (arith, few_digits c.from.result small, some, held.room), omega (arith, held.within, held.long))

pub overflow_sub-at : goal.overflow_sub-at
overflow_sub-at c =
    let small : c.from.result < 2 ^ 32 = search rules in
    let some : 1 ≤ c.loop-left.left = search rules in
    let held = c.loop-left.invariant in
    omega (arith, few_digits c.from.result small, some, held.room, c.write_digits-at.ensures.start)

pub loop-left-preserved : goal.loop-left-preserved
loop-left-preserved c =
    let numbers = c.args.numbers.now in
    let end = c.write_digits-at.result in
    let left = c.loop-left.left in
    let held = c.loop-left.invariant in
    let buf = c.write_digits-at.new.buf in
    let small : c.from.result < 2 ^ 32 = search rules in
    let few = few_digits c.from.result small in
    let some : 1 ≤ left = search rules in
    let start = c.write_digits-at.ensures.start in
    let first : 1 ≤ end = omega (arith, few, some, held.room, start) in
    let long : length buf ≡ 176 = search rules in
    let within : end ≤ length buf = omega (arith, start, held.within, long) in
    let number : c.from.result ≡ slice_index_or numbers (left - 1) 0 = search rules in
    record {
      written = number_before c.loop-left.words buf numbers c.loop-left.at end left c.from.result some held.left number
          first within c.write_digits-at.ensures.written held.written;
      room = omega (arith, few, some, held.room, start);
      within = omega (arith, start, held.within);
      left = omega (arith, held.left);
      long = search rules;
    }
