-- The floats that the rules of card readings name, the two ranges, and the steps from levels to a value.
-- `fin s m e` is m * 2 ^ e, negative where s is true; `binary32` is `f32`.
use Rattle.std.specs.Prelude.{◌≡◌, Bool, true, false, ◌&&◌, ℤ, pos, refl, Float}
use Rattle.std.specs.Float.{fin, binary32}
use Rattle.std.specs.Float.Ieee.{of_bits, neg, sub, div, mul, le, to_signed}

-- 0, 1, -1, 127 and 32768 by their bits, as the code's literals are; the five lines after them show that these are the numbers
abbrev pub nought : Float
nought = of_bits binary32 0

abbrev pub one : Float
one = of_bits binary32 0x3F80_0000

abbrev pub minus_one : Float
minus_one = neg one

abbrev pub full : Float
full = of_bits binary32 0x42FE_0000

abbrev pub loudest : Float
loudest = of_bits binary32 0x4700_0000

pub nought_is : nought ≡ fin false 0 (pos 0)
unfolding of_bits
nought_is = refl

pub one_is : one ≡ fin false 1 (pos 0)
unfolding of_bits
one_is = refl

pub minus_one_is : minus_one ≡ fin true 1 (pos 0)
unfolding of_bits neg
minus_one_is = refl

pub full_is : full ≡ fin false 127 (pos 0)
unfolding of_bits
full_is = refl

pub loudest_is : loudest ≡ fin false 1 (pos 15)
unfolding of_bits
loudest_is = refl

-- a level lies from 0 to 32768; what is not a number does not
abbrev pub is_level : Float → Bool
is_level x = le nought x && le x loudest

-- a balance lies from -1 to 1
abbrev pub is_balance : Float → Bool
is_balance x = le minus_one x && le x one

-- by how much the level for a 1 exceeds the level for a 0, as a share of the greatest level; each operation is rounded once
abbrev pub share : Float → Float → Float → Float
share ones zeros greatest = div binary32 (sub binary32 ones zeros) greatest

-- the value of a share: 127 times it, rounded once, without the fraction
abbrev pub strength : Float → ℤ
strength part = to_signed 63 (mul binary32 part full)
