-- How words are cut from left to right into items: the MESH word, `--name=value`, and `--name` with the next word.
use Rattle.std.specs.Prelude.{ℕ, ◌+◌, ◌==◌, List, [], ◌∷◌, take, drop, position, if◌then◌else◌, Option, None, Some, option_map, map, String, string_bytes}
use Rattle.std.specs.declared.alloc.Global.{Global}
use Rattle.text_words.specs.Numbers.{starts_minus}
use Rattle.command_line.specs.Parts.{Name}
use Rattle.command_line.specs.Parts.{Item}
use Rattle.command_line.specs.Parts.{Item as item}
use Rattle.command_line.specs.Parts.{Part}
use Rattle.command_line.specs.Parts.{Part as part}
use Rattle.command_line.specs.Values.{name_of, option_item}

-- ---- one word

-- an item, if there is one
abbrev pub whole_part : Option Item → Part
whole_part None = part.Neither
whole_part (Some i) = part.Whole i

-- an option's name and its value
abbrev pub value_part : Option Name → List ℕ → Part
value_part None text = part.Neither
value_part (Some n) text = whole_part (option_item n text)

-- an option's name, whose value is the next word
abbrev pub front_part : Option Name → Part
front_part None = part.Neither
front_part (Some n) = part.Front n

-- what follows `--`: a name alone, or a name and a value, parted by the first `=`
abbrev pub parted : Option ℕ → List ℕ → Part
parted None text = front_part (name_of text)
parted (Some at) text = value_part (name_of (take at text)) (drop (at + 1) text)

abbrev pub long_part : List ℕ → Part
long_part text = parted (position (λ b. b == 61) text) text

-- what follows one `-`
abbrev pub hyphen_part : List ℕ → Part
hyphen_part [] = part.Neither
hyphen_part (b ∷ bs) = if b == 45 then long_part bs else part.Neither

-- a word at a place, where no option waits for its value
abbrev pub first_part : ℕ → List ℕ → Part
first_part place [] = part.Neither
first_part place (b ∷ bs) = if b == 45 then hyphen_part bs else part.Whole (item.Mesh place)

-- a word that an option waits for
abbrev pub next_part : Name → List ℕ → Part
next_part n word = if starts_minus word then part.Neither else value_part (Some n) word

-- a word at a place, where an option may wait for its value
abbrev pub part_of : Option Name → ℕ → List ℕ → Part
part_of None place word = first_part place word
part_of (Some n) place word = next_part n word

-- ---- all words

-- the items from a part on, by what follows it, and what follows where its value is the next word
abbrev pub joined : Part → Option (List Item) → (Name → Option (List Item)) → Option (List Item)
joined (part.Whole i) later waiting = option_map (λ items. i ∷ items) later
joined (part.Front n) later waiting = waiting n
joined part.Neither later waiting = None

-- the items of the words from a place on, where an option may wait for its value
abbrev pub items_from : Option Name → ℕ → List (List ℕ) → Option (List Item)
items_from None place [] = Some []
items_from (Some n) place [] = None
items_from waiting place (word ∷ words) =
    joined (part_of waiting place word) (items_from None (place + 1) words) (λ n. items_from (Some n) (place + 1) words)

-- the items of all words
abbrev pub items_of : List (List ℕ) → Option (List Item)
items_of words = items_from None 0 words

-- the words' bytes
abbrev pub texts_of : List (String Global) → List (List ℕ)
texts_of words = map string_bytes words
