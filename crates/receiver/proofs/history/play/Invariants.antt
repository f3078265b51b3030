use Rattle.std.proofs.Common.{◌≡◌, map, length}
use Rattle.receiver.specs.State.{opened, capacity}
use Rattle.receiver.specs.Held.{memory_of, held}
use Rattle.receiver.specs.History.{as_request, as_reply}
use Rattle.receiver.proofs.Plays.{Played}
use Rattle.receiver.proofs.history.play.Given as goal

abbrev pub invariant-loop-i : goal.invariant-loop-i
invariant-loop-i g l =
    Played (capacity (length (memory_of l.initial.receiver))) opened (memory_of l.initial.receiver) (map as_reply l.initial.answers) (map (as_request g.M.Stage.meaning g.M.MarkedStage.markers) l.calls) l.i (held l.receiver) (memory_of l.receiver) (map as_reply l.answers)
    × (length (memory_of l.receiver) ≡ length (memory_of l.initial.receiver)) × (l.receiver.values.ghost_name ≡ l.initial.receiver.values.ghost_name)
