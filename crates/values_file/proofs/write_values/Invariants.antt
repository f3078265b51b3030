use Rattle.std.proofs.Common.{◌≡◌, ◌++◌}
use Rattle.std.specs.List.{range_with_len, flat_map}
use Rattle.refusal.proofs.Front.{laid}
use Rattle.values_file.specs.Values.{first_line, frame_line}
use Rattle.values_file.proofs.write_values.Given as goal

-- the first line and the lines of the frames before this one stand
abbrev pub invariant-loop-frame : goal.invariant-loop-frame
invariant-loop-frame l = l.out ≡ laid (first_line l.m ++ flat_map (frame_line l.elements) (range_with_len 0 l.frame)) l.initial.out
