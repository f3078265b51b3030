-- A sound file: RIFF/WAVE, 8,000 samples a second, 16 bits, one channel.
use Rattle.std.specs.Prelude.{ℕ, ◌+◌, ◌*◌, ◌/◌, ◌%◌, min, List, [], ◌∷◌, ◌++◌, length, ℤ, pos, Ok, codes, Result, nat_lt, slice_index_or}
use Rattle.std.specs.Int.{w16}
use Rattle.std.proofs.Common.{of_z}
use Rattle.std.specs.List.{range_with_len, flat_map}
use Rattle.refusal.specs.declared.Refusal.{Refusal}
use Rattle.refusal.specs.declared.Refusal.TheVariants.{MemoryTooShort}
use Rattle.refusal.specs.Answer.{refused_when}

-- a number in two and in four octets, the lowest first
abbrev pub two_octets : ℕ → List ℕ
two_octets n = (n % 256) ∷ (n / 256 % 256) ∷ []

abbrev pub four_octets : ℕ → List ℕ
four_octets n = (n % 256) ∷ (n / 256 % 256) ∷ (n / 65536 % 256) ∷ (n / 16777216 % 256) ∷ []

-- the octets of n samples, as the header tells them: no more than a header can tell
abbrev pub told_size : ℕ → ℕ
told_size n = 2 * min n 2147483629

-- the 44 octets of a header before so many octets of samples
unfoldable pub header_of : ℕ → List ℕ
header_of size =
    codes "RIFF" ++ four_octets (size + 36) ++ codes "WAVE"  -- the whole, but for these first eight octets
    ++ codes "fmt " ++ four_octets 16 ++ two_octets 1 ++ two_octets 1  -- whole numbers, one channel
    ++ four_octets 8000 ++ four_octets 16000 ++ two_octets 2 ++ two_octets 16  -- samples and octets a second; octets and bits a sample
    ++ codes "data" ++ four_octets size

-- a sample is stored in two's complement, the lowest octet first
abbrev pub sample_octets : List ℤ → ℕ → List ℕ
sample_octets samples i = two_octets (of_z w16 (slice_index_or samples i (pos 0)))

-- the whole file
abbrev pub wave_file : List ℤ → List ℕ
wave_file samples = header_of (told_size (length samples)) ++ flat_map (sample_octets samples) (range_with_len 0 (length samples))

-- what writing it into so many places answers: its length
abbrev pub wave_answer : List ℤ → ℕ → Result ℕ Refusal
wave_answer samples places =
    refused_when (nat_lt places (44 + 2 * length samples)) MemoryTooShort (Ok (44 + 2 * length samples))
