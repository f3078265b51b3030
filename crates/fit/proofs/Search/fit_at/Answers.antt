use Rattle.std.proofs.Common.{◌≡◌, ◌<◌, ◌≤◌, length, get_or, arith, rules}
use Rattle.std.proofs.lemmas.Grind.{common_steps}
use Rattle.stage.specs.Marked.{no_marker}
use Rattle.fit.specs.Fit.{agreement}
use Rattle.fit.proofs.Steps.{summed_more}
use Rattle.fit.proofs.Search.fit_at.Goals as goal

pub loop-index-preserved : goal.loop-index-preserved
loop-index-preserved g c =
    let s = c.args.self.now in
    let i = c.loop-index.index in
    let marks = g.M.MarkedStage.markers s.stage.now s.n in
    let marker = c.in_ok-marker.marker in
    let below : i < length marks = omega (arith, s.all) in
    let few : i ≤ 32768 = omega (arith, s.few) in
    let told : marker ≡ get_or marks i no_marker = grind (arith, common_steps) in
    let agrees : c.agreement-sum.result ≡ agreement s.values.now c.args.start marker = search rules in
    summed_more s.values.now marks c.args.start i marker _ _ below few told c.loop-index.invariant agrees c.agreement-sum.ensures.least c.agreement-sum.ensures.most
