-- What a line of a script asks, or the first thing that is wrong with it.
use Rattle.std.specs.Prelude.{ℕ, Bool, false, List, [], ◌∷◌, ◌==◌, ◌&&◌, nat_lt, length, drop, if◌then◌else◌, ℤ, neg_ℤ, int_le, int_lt, codes, Option, None, Some, Result, Ok, Err, ⊤}
use Rattle.std.specs.Str.{bytes_eq}
use Rattle.fixed_box.specs.Extent.{corner_box}
use Rattle.fixed_box.specs.World.{IsCoordinate, InWorld}
use Rattle.fixed_box.specs.declared.shapes.Point.{Point}
use Rattle.fixed_box.specs.declared.shapes.TheConstants.{HALF}
use Rattle.text_words.specs.Lines.{words_of}
use Rattle.decimals.specs.Values.{grid_of, whole_of}
use Rattle.decimals.specs.declared.fault.NumberFault.{NumberFault}
use Rattle.decimals.specs.declared.fault.NumberFault.TheVariants as number
use Rattle.query_script.specs.declared.limits.TheConstants.{LINE_MOST, REACH}
use Rattle.query_script.specs.declared.bounds.Bounds.{Bounds}
use Rattle.query_script.specs.declared.bounds.Bounds.TheVariants as bounds
use Rattle.query_script.specs.declared.keywords.Keyword.{Keyword}
use Rattle.query_script.specs.declared.keywords.Keyword.TheVariants as keyword
use Rattle.query_script.specs.declared.asks.Ask.{Ask}
use Rattle.query_script.specs.declared.asks.Ask.TheVariants as ask
use Rattle.query_script.specs.declared.faults.LineFault.{LineFault}
use Rattle.query_script.specs.declared.faults.LineFault.TheVariants.{UnknownWord, WrongCount, NotANumber, NumberTooLong, OutOfRange, NoSuchVertex, NoSuchNode, NoSuchLevel, LineTooLong}

-- a step after a step; the fault is that of the first that fails
abbrev pub onward : {A B : Type 0} → Result A LineFault → (A → Result B LineFault) → Result B LineFault
onward (Ok x) next = next x
onward (Err fault) next = Err fault

-- ---- numbers

-- a count of grid steps, where a queried box may reach so far
abbrev pub within_reach : ℤ → Result ℤ LineFault
within_reach steps = if int_le (neg_ℤ REACH) steps && int_le steps REACH then Ok steps else Err OutOfRange

-- a count of grid steps, where the world goes so far
abbrev pub within_world : ℤ → Result ℤ LineFault
within_world steps = if int_le (neg_ℤ HALF) steps && int_lt steps HALF then Ok steps else Err OutOfRange

-- a count of grid steps, where it is within its bounds
abbrev pub within : Bounds → ℤ → Result ℤ LineFault
within bounds.Reach steps = within_reach steps
within bounds.World steps = within_world steps

-- why a word is no number
abbrev pub fault_of : NumberFault → LineFault
fault_of number.NotANumber = NotANumber
fault_of number.TooLong = NumberTooLong

-- the answer of a number word, with the line's fault
abbrev pub number_or_fault : {A : Type 0} → Result A NumberFault → Result A LineFault
number_or_fault (Ok n) = Ok n
number_or_fault (Err fault) = Err (fault_of fault)

-- the grid steps that a decimal writes, with so many to its unit
unfoldable pub steps_of : ℕ → List ℕ → Result ℤ LineFault
steps_of unit word = number_or_fault (grid_of unit word)

-- the coordinate that it writes
abbrev pub coordinate_of : ℕ → Bounds → List ℕ → Result ℤ LineFault
coordinate_of unit bounds word = onward (steps_of unit word) (within bounds)

-- the whole number that a word writes
abbrev pub number_of : List ℕ → Result ℕ LineFault
number_of word = number_or_fault (whole_of word)

-- ---- what follows a keyword

-- the first of these words
abbrev pub first_of : List (List ℕ) → List ℕ
first_of [] = []
first_of (word ∷ words) = word

-- the point that the first three words write
abbrev pub point_of : ℕ → Bounds → List (List ℕ) → Result Point LineFault
point_of unit bounds words =
    onward (coordinate_of unit bounds (first_of words)) (λ x.
    onward (coordinate_of unit bounds (first_of (drop 1 words))) (λ y.
    onward (coordinate_of unit bounds (first_of (drop 2 words))) (λ z. Ok (record { x = x; y = y; z = z }))))

-- what the words behind a keyword ask, of which there are enough; for `box` the least box that holds both corners
abbrev pub fields_ask : ℕ → Keyword → List (List ℕ) → Result Ask LineFault
fields_ask unit keyword.Box words =
    onward (point_of unit bounds.Reach words) (λ p.
    onward (point_of unit bounds.Reach (drop 3 words)) (λ q. Ok (ask.Overlap (corner_box p q))))
fields_ask unit keyword.Seg words =
    onward (point_of unit bounds.World words) (λ p.
    onward (point_of unit bounds.World (drop 3 words)) (λ q. Ok (ask.Seg p q)))
fields_ask unit keyword.Move words =
    onward (number_of (first_of words)) (λ vertex.
    onward (point_of unit bounds.World (drop 1 words)) (λ to. Ok (ask.Move vertex to)))
fields_ask unit keyword.Refit words = Ok ask.Refit
fields_ask unit keyword.Rebuild words = Ok ask.Rebuild
fields_ask unit keyword.Node words = onward (number_of (first_of words)) (λ n. Ok (ask.NodeOf n))
fields_ask unit keyword.Cells words = onward (number_of (first_of words)) (λ level. Ok (ask.Cells level))
fields_ask unit keyword.Groups words = Ok ask.Groups
fields_ask unit keyword.Stat words = Ok ask.Stat
fields_ask unit keyword.Work words = Ok ask.Work

-- how many words follow a keyword
abbrev pub count_of : Keyword → ℕ
count_of keyword.Box = 6
count_of keyword.Seg = 6
count_of keyword.Move = 4
count_of keyword.Refit = 0
count_of keyword.Rebuild = 0
count_of keyword.Node = 1
count_of keyword.Cells = 1
count_of keyword.Groups = 0
count_of keyword.Stat = 0
count_of keyword.Work = 0

-- ---- a line

-- the keyword that a word is
abbrev pub keyword_of : List ℕ → Option Keyword
keyword_of word =
    if bytes_eq word (codes "box") then Some keyword.Box
    else (if bytes_eq word (codes "seg") then Some keyword.Seg
    else (if bytes_eq word (codes "move") then Some keyword.Move
    else (if bytes_eq word (codes "refit") then Some keyword.Refit
    else (if bytes_eq word (codes "rebuild") then Some keyword.Rebuild
    else (if bytes_eq word (codes "node") then Some keyword.Node
    else (if bytes_eq word (codes "cells") then Some keyword.Cells
    else (if bytes_eq word (codes "groups") then Some keyword.Groups
    else (if bytes_eq word (codes "stat") then Some keyword.Stat
    else (if bytes_eq word (codes "work") then Some keyword.Work else None)))))))))

-- what a keyword and the words behind it ask
abbrev pub counted_ask : ℕ → Option Keyword → List (List ℕ) → Result Ask LineFault
counted_ask unit None words = Err UnknownWord
counted_ask unit (Some k) words = if length words == count_of k then fields_ask unit k words else Err WrongCount

-- the word begins with '#'
abbrev pub starts_comment : List ℕ → Bool
starts_comment [] = false
starts_comment (b ∷ bs) = b == 35

-- what the words of a line ask
abbrev pub words_ask : ℕ → List (List ℕ) → Result Ask LineFault
words_ask unit [] = Ok ask.Nothing
words_ask unit (word ∷ words) = if starts_comment word then Ok ask.Nothing else counted_ask unit (keyword_of word) words

-- what a line asks, with so many grid steps to a unit
abbrev pub ask_of : ℕ → List ℕ → Result Ask LineFault
ask_of unit line = if nat_lt LINE_MOST (length line) then Err LineTooLong else words_ask unit (words_of line)

-- ---- what holds of what is read

-- the coordinate is within its bounds; nothing is said of a box, which may reach beyond the world
abbrev pub Within : Bounds → ℤ → Type 0
Within bounds.Reach x = ⊤
Within bounds.World x = IsCoordinate x

-- each coordinate of the point is within its bounds
abbrev pub IsWithin : Bounds → Point → Type 0
IsWithin bounds.Reach p = ⊤
IsWithin bounds.World p = InWorld p

-- the points of a segment are in the world, and so is the place that a vertex is moved to
abbrev pub IsAskable : Ask → Type 0
IsAskable ask.Nothing = ⊤
IsAskable (ask.Overlap around) = ⊤
IsAskable (ask.Seg p q) = InWorld p × InWorld q
IsAskable (ask.Move vertex to) = InWorld to
IsAskable ask.Refit = ⊤
IsAskable ask.Rebuild = ⊤
IsAskable (ask.NodeOf number) = ⊤
IsAskable (ask.Cells level) = ⊤
IsAskable ask.Groups = ⊤
IsAskable ask.Stat = ⊤
IsAskable ask.Work = ⊤

-- a line alone may have the fault; the others are a world's
abbrev pub IsOfLine : LineFault → Type 0
IsOfLine UnknownWord = ⊤
IsOfLine WrongCount = ⊤
IsOfLine NotANumber = ⊤
IsOfLine NumberTooLong = ⊤
IsOfLine OutOfRange = ⊤
IsOfLine NoSuchVertex = ⊥
IsOfLine NoSuchNode = ⊥
IsOfLine NoSuchLevel = ⊥
IsOfLine LineTooLong = ⊤
