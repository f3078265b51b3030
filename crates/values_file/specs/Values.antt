-- The values file, as it is written: a line for the text's length, then a line a frame.
use Rattle.std.specs.Prelude.{ℕ, ◌+◌, ◌*◌, ◌/◌, ◌%◌, cond, List, [], ◌∷◌, ◌++◌, length, Ok, Result, ◌==◌, nat_lt, slice_index}
use Rattle.std.specs.List.{range_with_len, flat_map}
use Rattle.refusal.specs.declared.Refusal.{Refusal}
use Rattle.refusal.specs.declared.Refusal.TheVariants.{BadElements, BadLine, MemoryTooShort}
use Rattle.refusal.specs.Answer.{refused_when, text_checked}
use Rattle.tone.specs.Tones.{bad}

-- the character of a hexadecimal digit: 0 to 9, then A to F
abbrev pub digit : ℕ → ℕ
digit n = cond (nat_lt n 10) (48 + n) (55 + n)

-- an octet in two digits
abbrev pub two_digits : ℕ → List ℕ
two_digits octet = digit (octet / 16) ∷ digit (octet % 16) ∷ []

-- the full-strength value of an element as an octet in two's complement: 127 for a 1, -127 for a 0, 0 for a mute
abbrev pub value_octet : ℕ → ℕ
value_octet e = cond (e == 0) 129 (cond (e == 1) 127 0)

-- the first line has the number of octets of the text; every line ends with a line feed
abbrev pub first_line : ℕ → List ℕ
first_line m = two_digits m ++ 10 ∷ []

-- the line of a frame has the values of its two elements
abbrev pub line_of : ℕ → ℕ → List ℕ
line_of first second = two_digits (value_octet first) ++ two_digits (value_octet second) ++ 10 ∷ []

abbrev pub frame_line : List ℕ → ℕ → List ℕ
frame_line elements i = line_of (slice_index elements (2 * i)) (slice_index elements (2 * i + 1))

-- the whole file
abbrev pub values_file : ℕ → List ℕ → List ℕ
values_file m elements = first_line m ++ flat_map (frame_line elements) (range_with_len 0 (length elements / 2))

-- its length: three characters, and five a frame
abbrev pub file_size : ℕ → ℕ
file_size count = 3 + 5 * (count / 2)

-- what writing the file into so many places answers: its length. A file has at most 16,384 frame lines
abbrev pub write_answer : ℕ → List ℕ → ℕ → Result ℕ Refusal
write_answer m elements places =
    text_checked m (refused_when (bad elements) BadElements (refused_when (nat_lt 32768 (length elements)) BadLine (refused_when (nat_lt places (file_size (length elements))) MemoryTooShort (Ok (file_size (length elements))))))
