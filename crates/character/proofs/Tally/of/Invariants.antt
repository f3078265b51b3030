use Rattle.std.proofs.Common.{◌≡◌}
use Rattle.character.specs.Reader.{tally_of}
use Rattle.character.proofs.Tally.of.Given as goal

abbrev pub invariant-loop-placed : goal.invariant-loop-placed
invariant-loop-placed l =
    (goal.iterator-loop-placed).can_next l.placed-iterator ×
    (goal.iterator-loop-placed).is_finite l.placed-iterator ×
    (l.tally ≡ tally_of l.yielded)
