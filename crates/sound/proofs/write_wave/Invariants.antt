use Rattle.std.proofs.Common.{◌≡◌, ◌++◌, length}
use Rattle.std.specs.List.{range_with_len, flat_map}
use Rattle.refusal.proofs.Front.{laid}
use Rattle.sound.specs.Wave.{header_of, sample_octets, told_size}
use Rattle.sound.proofs.write_wave.Given as goal

-- the header and the samples before this one stand
abbrev pub invariant-loop-i : goal.invariant-loop-i
invariant-loop-i l =
    l.out ≡ laid (header_of (told_size (length l.samples)) ++ flat_map (sample_octets l.samples) (range_with_len 0 l.i)) l.initial.out
