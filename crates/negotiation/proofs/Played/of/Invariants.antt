use Rattle.std.proofs.Common.{◌≡◌, take, fold}
use Rattle.negotiation.specs.Steps.{stepped}
use Rattle.negotiation.proofs.Laws.{opened, Few}
use Rattle.negotiation.proofs.Played.of.Given as goal

abbrev pub invariant-loop-call : goal.invariant-loop-call
invariant-loop-call l = (l.played ≡ fold stepped opened (take l.call-index l.calls)) × Few l.played l.call-index
