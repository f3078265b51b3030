use Rattle.std.proofs.Common.{◌≡◌, ◌++◌, length, take, drop}
use Rattle.character.specs.Controls.{without_controls}
use Rattle.character.proofs.remove_controls.Given as goal

abbrev pub invariant-loop-octet : goal.invariant-loop-octet
invariant-loop-octet l =
    (l.length ≡ length (without_controls (take l.octet-index l.text)))
    × (l.memory ≡ without_controls (take l.octet-index l.text) ++ drop l.length l.initial.memory)
