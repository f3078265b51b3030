use Rattle.std.proofs.Common.{◌≡◌, length, take}
use Rattle.character.specs.Controls.{without_controls}
use Rattle.character.proofs.plain_length.Given as goal

abbrev pub invariant-loop-octet : goal.invariant-loop-octet
invariant-loop-octet l = l.length ≡ length (without_controls (take l.octet-index l.text))
