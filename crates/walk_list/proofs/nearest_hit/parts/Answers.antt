use Rattle.std.proofs.Common.{◌+◌, ◌<◌, length, subst, sym}
use Rattle.walk_list.proofs.Subtrees.{halves, halves_read}
use Rattle.walk_list.proofs.Visiting.{in_turn, in_other_turn}
use Rattle.walk_list.proofs.nearest_hit.parts.Goals as goal

pub bounds-records-left : goal.bounds-records-left
bounds-records-left c =
    subst (λ xs. c.args.v.now.at + 1 < length xs) (sym c.records-records.ensures.records)
    (halves c.requires.subtree c.requires.inner).left_in

pub visit-to_left-requires : goal.visit-to_left-requires
visit-to_left-requires c =
    let h = halves c.requires.subtree c.requires.inner in record {
      within = h.left_in;
      subtree = h.left;
    }

pub visit-to_right-requires : goal.visit-to_right-requires
visit-to_right-requires c =
    let h = halves_read c.requires.subtree c.requires.inner c.records-records.ensures.records c.index-records-left.is in record {
      within = h.right_in;
      subtree = h.right;
    }

pub returns-then-to_right-to_left : goal.returns-then-to_right-to_left
returns-then-to_right-to_left c = λ p q line.
    let h = halves_read c.requires.subtree c.requires.inner c.records-records.ensures.records c.index-records-left.is in
    in_other_turn _ p q _ _ _ _ h c.visit-to_left.ensures.at c.visit-to_left.ensures.position c.visit-to_right.ensures.at
    c.visit-to_right.ensures.position (c.visit-to_left.ensures.way p q line) (c.visit-to_right.ensures.way p q line)

pub returns : goal.returns
returns c = λ p q line.
    let h = halves_read c.requires.subtree c.requires.inner c.records-records.ensures.records c.index-records-left.is in
    in_turn _ p q _ _ _ _ h c.visit-to_left.ensures.at c.visit-to_left.ensures.position c.visit-to_right.ensures.at
    c.visit-to_right.ensures.position (c.visit-to_left.ensures.way p q line) (c.visit-to_right.ensures.way p q line)
