use Rattle.std.proofs.Common.{◌≡◌, true, length, arith, rules}
use Rattle.fit.proofs.Few.{few_markers}
use Rattle.fit.proofs.best_start.Goals as goal

pub invariant_of-search : goal.invariant_of-search
invariant_of-search g c =
    let s = c.args.stage.now in
    let taken : (g.M.Stage.meaning s).takes c.args.n ≡ true = search rules in
    let all : c.in_ok-markers.markers ≡ length (g.M.MarkedStage.markers s c.args.n) = search rules in
    record {
      taken = taken;
      places = search rules;
      heard = omega arith;
      all = all;
      few = omega (arith, few_markers (g.M.Stage.meaning s) (g.M.MarkedStage.markers s) c.args.n (g.M.Stage.homes s) c.marker_count.ensures.marked taken);
    }
