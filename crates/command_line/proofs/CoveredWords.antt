-- Words that make items are at most twice as many as these.
use Rattle.std.proofs.Common.{◌≡◌, ℕ, ◌+◌, ◌*◌, ◌≤◌, Bool, false, if◌then◌else◌, List, [], ◌∷◌, length, Option, None, Some, refl, arith}
use Rattle.text_words.specs.Numbers.{starts_minus}
use Rattle.command_line.specs.Parts.{Name, Item, Part, Part as part}
use Rattle.command_line.specs.Values.{option_item}
use Rattle.command_line.specs.Items.{next_part, part_of, whole_part, joined, items_from}

-- how many words wait for a value
abbrev held : Option Name → ℕ
held None = 0
held (Some name) = 1

-- a word adds to what its items cover
more_covered : (part_read : Part) (later : Option (List Item)) (waiting : Name → Option (List Item)) (count : ℕ)
    (items : List Item) → ((rest : List Item) → later ≡ Some rest → count ≤ 2 * length rest)
    → ((name : Name) → waiting name ≡ Some items → count + 1 ≤ 2 * length items)
    → joined part_read later waiting ≡ Some items → count + 1 ≤ 2 * length items
more_covered (part.Whole first) (Some rest) waiting count items whole front known =
    let bound : count ≤ 2 * length rest = whole rest refl in
    let is : first ∷ rest ≡ items = cc in
    rw (← is) (omega arith)
more_covered (part.Front name) later waiting count items whole front known = front name known
more_covered _ _ waiting count items whole front known = absurd cc

-- an option's value ends an item
value_ends : (name : Name) (word : List ℕ) (later : Option (List Item)) (waiting : Name → Option (List Item))
    (items : List Item) → joined (next_part name word) later waiting ≡ Some items
    → (rest : List Item) × (later ≡ Some rest) × (length items ≡ length rest + 1)
value_ends name word later waiting items known = go (starts_minus word) (option_item name word) later known
  where
    go : (minus : Bool) (item : Option Item) (behind : Option (List Item))
        → joined (if minus then part.Neither else whole_part item) behind waiting ≡ Some items
        → (rest : List Item) × (behind ≡ Some rest) × (length items ≡ length rest + 1)
    go false (Some first) (Some rest) made =
        let is : first ∷ rest ≡ items = cc in (rest, refl, rw (← is) (omega arith))
    go _ _ _ made = absurd cc

-- the words, with one that waits, are at most twice as many as the items
pub covered : (waiting : Option Name) (place : ℕ) (words : List (List ℕ)) (items : List Item)
    → items_from waiting place words ≡ Some items → held waiting + length words ≤ 2 * length items
covered None place [] items known = omega arith
covered (Some name) place [] items known = absurd cc
covered None place (word ∷ words) items known =
    let more : length words + 1 ≤ 2 * length items =
    more_covered (part_of None place word) (items_from None (place + 1) words)
    (λ name. items_from (Some name) (place + 1) words) (length words) items
    (λ rest made. let bound = covered None (place + 1) words rest made in omega arith)
    (λ name made. let bound = covered (Some name) (place + 1) words items made in omega arith) known in
    omega arith
covered (Some name) place (word ∷ words) items known =
    let ends = value_ends name word (items_from None (place + 1) words)
    (λ other. items_from (Some other) (place + 1) words) items known in
    let bound = covered None (place + 1) words ends.0 ends.1 in
    let one_less : length items ≡ length ends.0 + 1 = ends.2 in
    omega arith
