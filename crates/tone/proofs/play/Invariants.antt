use Rattle.std.proofs.Common.{◌≡◌, ◌*◌}
use Rattle.refusal.proofs.Front.{filled}
use Rattle.tone.specs.Tones.{sample}
use Rattle.tone.proofs.play.Given as goal

-- the frames before this one are played
abbrev pub invariant-loop-frame : goal.invariant-loop-frame
invariant-loop-frame l = l.out ≡ filled (sample l.elements) (40 * l.frame) l.initial.out
