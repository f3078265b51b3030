use Rattle.std.proofs.Common.{◌≡◌, sym, ap, ◌∙◌, subst, arith}
use Rattle.std.proofs.lemmas.Grind.{common_steps}
use Rattle.receiver.specs.declared.history.Call.{Call}
use Rattle.receiver.specs.Held.{room, held, Follows}
use Rattle.receiver.specs.History.{reply, answered, found, as_request, as_reply}
use Rattle.receiver.proofs.memory.Receiver.answer.Goals as goal

pub returns-in-Find-clause-answer : goal.returns-in-Find-clause-answer
returns-in-Find-clause-answer g c =
    let r = c.args.self.now in
    let told : as_reply c.map-in-Find.result ≡ answered (λ best. found best.0 best.1) c.find.result = grind (arith, common_steps) in
    subst (λ (call : Call g.row.M.Denot). as_reply c.map-in-Find.result ≡ reply (room r) (held r) (as_request g.M.Stage.meaning g.M.MarkedStage.markers call)) (sym c.in-Find.is) (told ∙ ap (answered (λ best. found best.0 best.1)) c.find.ensures.answer)

pub returns-in-Find-clause-after : goal.returns-in-Find-clause-after
returns-in-Find-clause-after g c =
    subst (λ (call : Call g.row.M.Denot). Follows c.args.self.now (as_request g.M.Stage.meaning g.M.MarkedStage.markers call) c.find.new.self) (sym c.in-Find.is) c.find.ensures.after
