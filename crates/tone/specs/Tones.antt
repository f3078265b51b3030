-- The tones: which frequency a pair of elements sounds at, and its samples.
use Rattle.std.specs.Prelude.{ℕ, ◌+◌, ◌-◌, ◌*◌, ◌/◌, ◌%◌, Bool, false, cond, ◌&&◌, ◌||◌, List, [], ◌∷◌, map, length, ℤ, pos, ◌*ℤ◌, neg_ℤ, Ok, Result, ◌==◌, nat_le, nat_lt, slice_index}
use Rattle.std.specs.List.{range_with_len}
use Rattle.refusal.specs.declared.Refusal.{Refusal}
use Rattle.refusal.specs.declared.Refusal.TheVariants.{BadElements, MemoryTooShort}
use Rattle.refusal.specs.Answer.{refused_when}
use Rattle.tone.specs.declared.Tone.{Tone}
use Rattle.tone.specs.declared.Tone.TheVariants.{Silence, Hz400, Hz600, Hz800, Hz1000}

-- a quarter of a sine of amplitude 2047, at ten steps
abbrev pub quarter : List ℕ
quarter = 0 ∷ 320 ∷ 633 ∷ 929 ∷ 1203 ∷ 1447 ∷ 1656 ∷ 1824 ∷ 1947 ∷ 2022 ∷ 2047 ∷ []

-- the first half of the period rises and falls alike
abbrev pub half : ℕ → ℕ
half j = slice_index quarter (cond (nat_le j 10) j (20 - j))

-- the sine at step j of 40; the second half of the period is the first, negated
abbrev pub sine : ℕ → ℤ
sine j = cond (nat_lt j 20) (pos (half j)) (neg_ℤ (pos (half (j - 20))))

-- the frequency of a tone in hertz; silence has none
abbrev pub hertz : Tone → ℕ
hertz Silence = 0
hertz Hz400 = 400
hertz Hz600 = 600
hertz Hz800 = 800
hertz Hz1000 = 1000

-- sample k of a tone at 8,000 samples a second: eight times the sine, from the period's start; silence is zero
abbrev pub tone_sample : Tone → ℕ → ℤ
tone_sample tone k = pos 8 *ℤ sine (hertz tone * k / 200 % 40)

-- an element, with a mute read as 1
abbrev pub read_as : ℕ → ℕ
read_as e = cond (e == 2) 1 e

-- the tone of two bits
abbrev pub tone_of_bits : ℕ → ℕ → Tone
tone_of_bits a b = cond (a == 0) (cond (b == 0) Hz400 Hz600) (cond (b == 0) Hz800 Hz1000)

-- the tone of a pair of elements: two mutes are silence, and a single mute is read as 1
abbrev pub tone_of : ℕ → ℕ → Tone
tone_of a b = cond (a == 2 && b == 2) Silence (tone_of_bits (read_as a) (read_as b))

-- the tone of frame i of a list of elements
abbrev pub frame : List ℕ → ℕ → Tone
frame elements i = tone_of (slice_index elements (2 * i)) (slice_index elements (2 * i + 1))

-- the samples of a list of elements: 40 a frame
abbrev pub sample : List ℕ → ℕ → ℤ
sample elements p = tone_sample (frame elements (p / 40)) (p % 40)

abbrev pub samples : List ℕ → List ℤ
samples elements = map (sample elements) (range_with_len 0 (20 * length elements))

-- an octet of the list stands for no element
abbrev pub strange : List ℕ → Bool
strange [] = false
strange (e ∷ es) = nat_lt 2 e || strange es

-- elements that cannot be played: an odd count, or an octet above 2
abbrev pub bad : List ℕ → Bool
bad elements = length elements % 2 == 1 || strange elements

-- what playing elements into so many places answers: the number of samples
abbrev pub play_answer : List ℕ → ℕ → Result ℕ Refusal
play_answer elements places =
    refused_when (bad elements) BadElements (refused_when (nat_lt places (20 * length elements)) MemoryTooShort (Ok (20 * length elements)))
