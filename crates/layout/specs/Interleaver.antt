-- The interleaver: elements are spread over eight columns, column c starting 2c rows late.
use Rattle.std.specs.Prelude.{ℕ, ◌+◌, ◌-◌, ◌*◌, ◌/◌, ◌%◌, ◌^◌, Bool, cond, List, [], ◌∷◌, ◌==◌, nat_lt, slice_index}
use Rattle.stage.specs.declared.Content.{Content}
use Rattle.stage.specs.declared.Content.TheVariants.{Carried, Inverted, Fixed}
use Rattle.stage.specs.declared.Marker.{Marker}
use Rattle.stage.specs.Meaning.{Meaning, meaning_of}
use Rattle.layout.specs.Places.{taken, is_one_of, how_many, markers_at}

-- place 8r + c lies in row r and column c
abbrev pub row : ℕ → ℕ
row p = p / 8

abbrev pub column : ℕ → ℕ
column p = p % 8

-- the columns that are scrambled: what they carry is inverted
abbrev pub scrambled : ℕ → Bool
scrambled c = is_one_of c (0 ∷ 2 ∷ 3 ∷ 6 ∷ 7 ∷ [])

-- a column's first 2c rows hold the preamble
abbrev pub in_preamble : ℕ → Bool
in_preamble p = nat_lt (row p) (2 * column p)

-- the preamble's bit with index k: the first is the highest bit of the first octet
abbrev pub preamble_bit : List ℕ → ℕ → Bool
preamble_bit preamble k = slice_index preamble (k / 8) / 2 ^ (7 - k % 8) % 2 == 1

-- the preamble's bits stand in order of places, never inverted
abbrev pub preamble_at : List ℕ → ℕ → Bool
preamble_at preamble p = preamble_bit preamble (how_many in_preamble p)

-- the element for a place behind the preamble
abbrev pub interleaved : ℕ → ℕ
interleaved p = 8 * (row p - 2 * column p) + column p

-- 112 more leave than enter
abbrev pub interleaver_size : ℕ → ℕ
interleaver_size n = n + 112

-- the preamble, then the elements, then a filler bit: 1 in the scrambled columns, else 0
abbrev pub interleaver_at : List ℕ → ℕ → ℕ → Content
interleaver_at preamble n p =
    cond (in_preamble p) (Fixed (preamble_at preamble p))
    (cond (nat_lt (interleaved p) n)
    (cond (scrambled (column p)) (Inverted (interleaved p)) (Carried (interleaved p)))
    (Fixed (scrambled (column p))))

abbrev pub interleaver_meaning : List ℕ → Meaning
interleaver_meaning preamble = meaning_of taken interleaver_size (interleaver_at preamble)

-- the markers are the preamble's 56 bits
abbrev pub interleaver_markers : List ℕ → ℕ → List Marker
interleaver_markers preamble n = markers_at in_preamble (preamble_at preamble) (interleaver_size n)
