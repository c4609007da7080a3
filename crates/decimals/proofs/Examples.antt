-- Worked words, tried on the definition alone.
use Rattle.std.proofs.Common.{◌≡◌, [], refl, Ok, Err, pos, neg_ℤ}
use Rattle.std.specs.Prelude.{codes}
use Rattle.decimals.specs.Values.{grid_of, whole_of}
use Rattle.decimals.specs.declared.fault.NumberFault.TheVariants.{NotANumber, TooLong}

-- a half goes up to 1
half : grid_of 1 (codes "0.5") ≡ Ok (pos 1)
half = refl

-- a half below zero goes up to 0
half_below : grid_of 1 (codes "-0.5") ≡ Ok (pos 0)
half_below = refl

-- one and a half below zero goes up to -1
one_and_a_half_below : grid_of 1 (codes "-1.5") ≡ Ok (neg_ℤ (pos 1))
one_and_a_half_below = refl

-- 1 lowered by an exponent of -300 has the grid value 0
small_exponent : grid_of 1 (codes "1e-300") ≡ Ok (pos 0)
small_exponent = refl

-- 2.50 raised by an exponent of 1 is 25
exponent : grid_of 1 (codes "2.50e1") ≡ Ok (pos 25)
exponent = refl

-- a half that is written with no digit before its point goes up to 1
no_whole_part : grid_of 1 (codes ".5") ≡ Ok (pos 1)
no_whole_part = refl

-- 5 behind a '+' and before a point that no digit follows is 5
no_fraction : grid_of 1 (codes "+5.") ≡ Ok (pos 5)
no_fraction = refl

-- 1 raised by an exponent of 40 is brought down to 2^40
past_the_greatest : grid_of 1 (codes "1e40") ≡ Ok (pos 1099511627776)
past_the_greatest = refl

-- six and a half are 416 steps where 64 go to one
steps : grid_of 64 (codes "6.500000") ≡ Ok (pos 416)
steps = refl

-- 12 behind 32 zeros, with 31 places behind the point and an exponent of 31, is 12
zeros_before : grid_of 1 (codes "000.0000000000000000000000000000012e31") ≡ Ok (pos 12)
zeros_before = refl

-- a point alone is not a number
a_point : grid_of 1 (codes ".") ≡ Err NotANumber
a_point = refl

-- 1 and an 'e' with no digit behind it are not a number
no_exponent : grid_of 1 (codes "1e") ≡ Err NotANumber
no_exponent = refl

-- 1 as it is written in base sixteen, behind 0x, is not a number
other_base : grid_of 1 (codes "0x1") ≡ Err NotANumber
other_base = refl

-- the word inf is not a number
infinite : grid_of 1 (codes "inf") ≡ Err NotANumber
infinite = refl

-- the empty word is not a number
no_byte : grid_of 1 [] ≡ Err NotANumber
no_byte = refl

-- a number of 25 digits is too long
too_long : grid_of 1 (codes "1234567890123456789012345") ≡ Err TooLong
too_long = refl

-- 42 behind two zeros is the whole number 42
whole_number : whole_of (codes "0042") ≡ Ok 42
whole_number = refl

-- 42 behind a '+' is not a whole number
whole_sign : whole_of (codes "+42") ≡ Err NotANumber
whole_sign = refl
