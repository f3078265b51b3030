use Rattle.stage.proofs.Markers.{marked_sum}
use Rattle.pile.proofs.PileMarkedStage.marker_count.Goals as goal

pub returns-clause-marked : goal.returns-clause-marked
returns-clause-marked g c =
    let lower = c.args.self.now.lower in
    let upper = c.args.self.now.upper in
    marked_sum (g.L.Stage.meaning lower) (g.U.Stage.meaning upper) (g.L.MarkedStage.markers lower) (g.U.MarkedStage.markers upper)
    c.args.n c.in_ok-middle.middle c.in_ok-middle.ensures (g.U.Stage.homes upper)
    c.in_ok-above.ensures.marked c.in_ok-below.ensures.marked
