use Rattle.std.proofs.Common.{arith, ap, ◌∙◌, ◌≡◌, ◌+◌, ◌-◌, ℕ, length, replicate}
use Rattle.box_handoff.specs.declared.views.About.{About}
use Rattle.box_handoff.specs.Slots.{blank}
use Rattle.box_handoff.specs.Entries.{given_of, frame}
use Rattle.box_handoff.proofs.Opening.{whole_starts}
use Rattle.box_handoff.proofs.LeafLaws.{nodes_are}
use Rattle.box_handoff.proofs.WholeFrame.{whole_given}
use Rattle.box_handoff.proofs.making.make_whole.Goals as goal

-- as many words as the rule asks for
word_count : (a : About) (batches : ℕ) → batches ≡ (frame (given_of a)).batches →
    batches + (length a.keys.now - 1) ≡ (frame (given_of a)).batches + (frame (given_of a)).nodes
word_count a batches e = let n = nodes_are (given_of a) in omega (arith, n, e)

-- and so many slots
slot_count : (a : About) → (length a.keys.now - 1) + 1 ≡ (frame (given_of a)).nodes + 1
slot_count a = let n = nodes_are (given_of a) in omega (arith, n)

pub make-requires-clause-given : goal.make-requires-clause-given
make-requires-clause-given c = whole_given (given_of c.args.about) c.requires.whole c.requires.spots c.requires.tree

pub make-requires-clause-start : goal.make-requires-clause-start
make-requires-clause-start c =
    whole_starts (given_of c.args.about) c.requires.whole c.requires.spots c.requires.tree c.in_ok-words.words.items
    c.in_ok-slots.slots.items
    (c.in_ok-words.ensures ∙ ap (λ (n : ℕ). replicate n 0)
    (word_count c.args.about c.batches_of-batches.result c.batches_of-batches.ensures.value))
    (c.in_ok-slots.ensures ∙ ap (λ (n : ℕ). replicate n blank) (slot_count c.args.about))

pub batches_of-batches-requires : goal.batches_of-batches-requires
batches_of-batches-requires c = let w = c.requires.whole in omega (arith, w.live_count, w.lawful.few)
