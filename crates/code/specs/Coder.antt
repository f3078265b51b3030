-- The convolutional code: what is sent for a text.
use Rattle.std.specs.Prelude.{ℕ, ◌+◌, ◌-◌, ◌*◌, ◌/◌, ◌%◌, ◌^◌, Bool, false, cond, List, [], ◌∷◌, map, length, Ok, Result, ◌==◌, nat_le, nat_lt, slice_index, slice_index_or}
use Rattle.std.specs.Bool.{xor}
use Rattle.std.specs.List.{range_with_len}
use Rattle.refusal.specs.declared.Refusal.{Refusal}
use Rattle.refusal.specs.declared.Refusal.TheVariants.{MemoryTooShort, NoSuchPlace}
use Rattle.refusal.specs.Answer.{refused_when, text_checked}

-- the bit at k of a text's octets: each octet is sent lowest bit first, and zero bits follow the last
abbrev pub bit : List ℕ → ℕ → Bool
bit text k = slice_index text (k / 8) / 2 ^ (k % 8) % 2 == 1

-- of a stream of bits the one d steps before step k; zeros stand before the first
abbrev pub before : (ℕ → Bool) → ℕ → ℕ → Bool
before b k d = cond (nat_lt k d) false (b (k - d))

-- the four sums, in the order in which they are sent: how many steps back each bit that it adds up lies
abbrev pub sums : List (List ℕ)
sums =
    (0 ∷ 2 ∷ 4 ∷ []) ∷ (0 ∷ 2 ∷ 3 ∷ 4 ∷ []) ∷ (0 ∷ 1 ∷ 3 ∷ 4 ∷ []) ∷ (0 ∷ 1 ∷ 2 ∷ 3 ∷ 4 ∷ []) ∷ []

-- the sum modulo 2
abbrev pub parity : List Bool → Bool
parity [] = false
parity (b ∷ bs) = xor b (parity bs)

-- the coded bit at index i of a stream of bits: each step sends its four sums
abbrev pub coded : (ℕ → Bool) → ℕ → Bool
coded b i = parity (map (before b (i / 4)) (slice_index_or sums (i % 4) []))

-- how many coded bits a text of m octets has: 8m steps and four more for the zero bits behind
abbrev pub coded_count : ℕ → ℕ
coded_count m = 32 * m + 16

-- the coded bits of a text
abbrev pub coded_bits : List ℕ → List Bool
coded_bits text = map (coded (bit text)) (range_with_len 0 (coded_count (length text)))

-- what asking for the coded bit at i of a text answers
abbrev pub coded_bit_answer : List ℕ → ℕ → Result Bool Refusal
coded_bit_answer text i =
    text_checked (length text) (refused_when (nat_le (coded_count (length text)) i) NoSuchPlace (Ok (coded (bit text) i)))

-- what coding a text into so many places answers: the number of coded bits
abbrev pub encode_answer : List ℕ → ℕ → Result ℕ Refusal
encode_answer text places =
    text_checked (length text) (refused_when (nat_lt places (coded_count (length text))) MemoryTooShort (Ok (coded_count (length text))))
