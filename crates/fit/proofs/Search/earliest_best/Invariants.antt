use Rattle.std.proofs.Common.{◌≡◌}
use Rattle.fit.specs.Fit.{fit, Best}
use Rattle.fit.proofs.Search.earliest_best.Given as goal

abbrev pub invariant-loop-start : goal.invariant-loop-start
invariant-loop-start g l =
    let f = fit l.self.values.now (g.M.MarkedStage.markers l.self.stage.now l.self.n) in
    Best f l.start l.best.0 × (l.best.1 ≡ f l.best.0)
