use Rattle.std.proofs.Common.{arith, ap, ◌∙◌, sym, subst, ◌+◌, List, ℕ, length}
use Rattle.std.specs.declared.snapshot.Snapshot.{Snapshot}
use Rattle.atomic_table.specs.Table.{opening}
use Rattle.box_handoff.specs.declared.views.About.{About}
use Rattle.box_handoff.specs.declared.slots.SlotPacket.{SlotPacket}
use Rattle.box_handoff.specs.Slots.{blank}
use Rattle.box_handoff.specs.Entries.{given_of, numbers, first_view}
use Rattle.box_handoff.specs.Rule.{Rule}
use Rattle.box_handoff.proofs.Opening.{opens, length_rep}
use Rattle.box_handoff.proofs.FrameOf.{batches_low, nodes_low}
use Rattle.box_handoff.proofs.NumberLaws.{count_low}
use Rattle.box_handoff.proofs.making.make.Goals as goal

pub new-requires : goal.new-requires
new-requires c =
    subst (λ (a : About). Rule (given_of a) (opening c.as_slice.result.now c.args.slots.items (first_view (given_of a))))
    (sym c.of-about_now.ensures)
    (subst (λ (l : List ℕ). Rule (given_of c.args.about) (opening l c.args.slots.items
    (first_view (given_of c.args.about)))) (sym c.as_slice.ensures.value)
    (opens (given_of c.args.about) c.requires.given c.args.words.items c.args.slots.items c.requires.start))

pub returns-clause-made : goal.returns-clause-made
returns-clause-made c =
    let made = c.in-Ok.ensures.ok in
    let words = made.0 ∙ ap (λ (x : List ℕ). length x) c.as_slice.ensures.value ∙ c.requires.start.word_count in
    let b = batches_low (given_of c.args.about) c.requires.given in
    let n = nodes_low (given_of c.args.about) c.requires.given in
    let k = count_low (given_of c.args.about) c.requires.given in record {
      key_is = ap (λ (s : Snapshot About). s.value) made.5 ∙ c.of-about_now.ensures;
      words = words;
      slots = made.1 ∙ ap (λ (x : List SlotPacket). length x) c.requires.start.blanks
          ∙ length_rep ((numbers (given_of c.args.about)).count + 1) blank;
      room = omega (arith, words, b, n, k);
      given = c.requires.given;
    }
