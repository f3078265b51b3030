use Rattle.std.proofs.Common.{Ok, sym, ap, ◌∙◌}
use Rattle.stage.proofs.Answers.{content_carried}
use Rattle.pile.proofs.PileStage.content.Goals as goal

pub returns-in-Carried : goal.returns-in-Carried
returns-in-Carried g c =
    let lower = c.args.self.now.lower in
    let upper = c.args.self.now.upper in
    c.content-in-Carried.ensures
    ∙ content_carried (g.L.Stage.meaning lower) (g.U.Stage.meaning upper) (g.U.Stage.homes upper)
    c.args.n c.args.place c.in_ok-middle.middle c.in-Carried.j
    c.in_ok-middle.ensures (ap Ok (sym c.in-Carried.is) ∙ c.in_ok-own.ensures)
