-- The coder's shift register: a list of the last five bits, the newest first.
use Rattle.std.specs.Prelude.{ℕ, Bool, false, List, ◌∷◌, map, take, slice_index_or}
use Rattle.std.specs.List.{range_with_len}
use Rattle.code.specs.Coder.{before, parity, sums}

-- what the register holds after step k of a stream of bits
abbrev pub latest : (ℕ → Bool) → ℕ → List Bool
latest b k = map (before b k) (range_with_len 0 5)

-- one more bit comes in, and the oldest drops out
abbrev pub shifted_in : Bool → List Bool → List Bool
shifted_in bit register = bit ∷ take 4 register

-- the four coded bits of a step: each sum modulo 2 over the register
abbrev pub four_sums : List Bool → List Bool
four_sums register = map (λ taps. parity (map (λ d. slice_index_or register d false) taps)) sums
