use Rattle.fit.proofs.Steps.{Summed}
use Rattle.fit.proofs.Search.fit_at.Given as goal

abbrev pub invariant-loop-index : goal.invariant-loop-index
invariant-loop-index g l =
    Summed l.self.values.now (g.M.MarkedStage.markers l.self.stage.now l.self.n) l.start l.index l.sum
