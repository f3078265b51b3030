use Rattle.std.proofs.Common.{◌≡◌, ℕ, length, ℤ, Ok, ap, subst, arith}
use Rattle.fit.specs.Fit.{fit, earliest_best, starts, Best}
use Rattle.fit.proofs.Bests.{best_is}
use Rattle.fit.proofs.Search.earliest_best.Goals as goal

pub returns : goal.returns
returns g c =
    let s = c.args.self.now in
    let f : ℕ → ℤ = fit s.values.now (g.M.MarkedStage.markers s.stage.now s.n) in
    let inv = c.loop-start.invariant in
    let end : c.loop-start.start ≡ starts (length s.values.now) s.burst = omega (arith, s.heard) in
    let best : Best f (starts (length s.values.now) s.burst) c.loop-start.best.0 = subst (λ n. Best f n c.loop-start.best.0) end inv.0 in
    let is : earliest_best f (starts (length s.values.now) s.burst) ≡ c.loop-start.best.0 = best_is f _ c.loop-start.best.0 best in
    rw is (ap (λ z. Ok (c.loop-start.best.0, z)) inv.1)
