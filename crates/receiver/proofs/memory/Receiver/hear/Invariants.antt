use Rattle.std.proofs.Common.{◌≡◌, drop}
use Rattle.receiver.specs.State.{some_out_of_range}
use Rattle.receiver.proofs.memory.Receiver.hear.Given as goal

abbrev pub invariant-loop-value : goal.invariant-loop-value
invariant-loop-value l = some_out_of_range (drop l.value-index l.heard) ≡ some_out_of_range l.heard
