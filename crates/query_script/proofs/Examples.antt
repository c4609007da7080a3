-- Worked lines and replies, tried on the definitions alone.
use Rattle.std.proofs.Common.{◌≡◌, refl, Ok, Err, pos, negsuc}
use Rattle.std.specs.Prelude.{codes}
use Rattle.fixed_box.specs.Extent.{corner_box}
use Rattle.query_script.specs.Asks.{ask_of, steps_of}
use Rattle.query_script.specs.declared.asks.Ask.TheVariants as ask
use Rattle.query_script.specs.declared.faults.LineFault.TheVariants.{UnknownWord, WrongCount, NumberTooLong, OutOfRange}

-- two corners at 64 grid steps to the unit
corners
    : ask_of 64 (codes "box 9 -4 0 4 9 0")
    ≡ Ok (ask.Overlap (corner_box
    (record { x = pos 576; y = negsuc 255; z = pos 0 })
    (record { x = pos 256; y = pos 576; z = pos 0 })))
unfolding steps_of
corners = refl

-- leading zeros, and blanks round the words
zeros : ask_of 1 (codes "\tnode 007 ") ≡ Ok (ask.NodeOf 7)
zeros = refl

-- a comment asks nothing
comment : ask_of 1 (codes " #box") ≡ Ok ask.Nothing
comment = refl

-- nor does a blank line
blank : ask_of 1 (codes " \t ") ≡ Ok ask.Nothing
blank = refl

-- an unknown word is told first
first_word : ask_of 1 (codes "frob a") ≡ Err UnknownWord
first_word = refl

-- then a wrong count
count : ask_of 1 (codes "box a 0 0 0 0") ≡ Err WrongCount
count = refl

-- then the first faulty word from left to right
from_left_to_right : ask_of 1 (codes "box 2147483648 a 0 0 0 0") ≡ Err OutOfRange
unfolding steps_of
from_left_to_right = refl

-- halves of a grid step, upward; a sign and an exponent
decimal_corners
    : ask_of 64 (codes "box 1.5 -0.0078125 +2e0 0.0078125 0 0")
    ≡ Ok (ask.Overlap (corner_box
    (record { x = pos 96; y = pos 0; z = pos 128 })
    (record { x = pos 1; y = pos 0; z = pos 0 })))
unfolding steps_of
decimal_corners = refl

-- a number of 25 digits is too long
twenty_five_digits : ask_of 1 (codes "node 1234567890123456789012345") ≡ Err NumberTooLong
twenty_five_digits = refl
