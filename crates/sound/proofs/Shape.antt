-- The header around its two sizes.
use Rattle.std.proofs.Common.{◌≡◌, ℕ, List, ◌++◌, length, codes, refl}
use borrow.Rule.Slice.PartMut.{put_mid}
use Rattle.sound.specs.Wave.{header_of, two_octets, four_octets}

abbrev pub around : List ℕ → List ℕ → List ℕ
around whole part =
    put_mid 40 4 (put_mid 4 4 (codes "RIFF...." ++ codes "WAVE" ++ codes "fmt " ++ four_octets 16 ++ two_octets 1 ++ two_octets 1 ++ four_octets 8000 ++ four_octets 16000 ++ two_octets 2 ++ two_octets 16 ++ codes "data....") whole) part

pub header_length : (size : ℕ) → length (header_of size) ≡ 44
unfolding header_of
header_length size = refl
