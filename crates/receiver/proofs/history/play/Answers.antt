use Rattle.std.proofs.Common.{◌≡◌, ◌<◌, false, ltb, List, map, length, ℤ, refl, ◌∙◌, subst, arith, rules}
use Rattle.std.proofs.lemmas.List.{length-map}
use Rattle.std.proofs.lemmas.Bool.{le-ltb}
use Rattle.receiver.specs.State.{opened, capacity, Request}
use Rattle.receiver.specs.Held.{memory_of, held}
use Rattle.receiver.specs.History.{as_request, as_reply, memory_after}
use Rattle.receiver.specs.declared.history.Call.{Call}
use Rattle.receiver.proofs.Plays.{Played, turn, played_all}
use Rattle.receiver.proofs.Law.{lawful}
use Rattle.receiver.proofs.history.play.Goals as goal

pub loop-i-preserved : goal.loop-i-preserved
loop-i-preserved g c =
    let f : Call g.row.M.Denot → Request = as_request g.M.Stage.meaning g.M.MarkedStage.markers in
    let inv = c.loop-i.invariant in
    let follows = c.answer.ensures.after in
    let within : c.loop-i.i < length (map as_reply c.args.answers.now) = rw length-map (omega arith) in (
      turn f as_reply (length (memory_of c.open-receiver.result)) opened (memory_of c.open-receiver.result) (map as_reply c.args.answers.now) c.args.calls.now c.loop-i.i c.index-calls-i.result c.answer.result c.loop-i.answers c.loop-i.receiver c.answer.new.self c.loop-i-test.true within c.index-calls-i.is inv.0 inv.1 c.answer.ensures.answer follows,
      follows.long ∙ inv.1,
      follows.same ∙ inv.2,
    )

pub returns : goal.returns
returns g c =
    let f : Call g.row.M.Denot → Request = as_request g.M.Stage.meaning g.M.MarkedStage.markers in
    let calls = map f c.args.calls.now in
    let found = map as_reply c.args.answers.now in
    let inv = c.loop-i.invariant in
    let memory : List ℤ = c.args.memory.now in
    let opens : memory_of c.open-receiver.result ≡ memory = c.open-receiver.ensures.memory in
    let so_far : Played (capacity (length memory)) opened memory found calls c.loop-i.i (held c.loop-i.receiver) (memory_of c.loop-i.receiver) (map as_reply c.loop-i.answers) =
    subst (λ (m : List ℤ). Played (capacity (length m)) opened m found calls c.loop-i.i (held c.loop-i.receiver) (memory_of c.loop-i.receiver) (map as_reply c.loop-i.answers)) opens inv.0 in
    let all = played_all (capacity (length memory)) opened memory found calls c.loop-i.i (held c.loop-i.receiver) (memory_of c.loop-i.receiver) (map as_reply c.loop-i.answers) (rw length-map c.loop-i-test.false) (rw length-map c.loop-i.auto.i-end) so_far in
    let left : memory_of c.loop-i.receiver ≡ memory_after (capacity (length memory)) opened memory calls = all.0 in
    let same = inv.2 ∙ c.open-receiver.ensures.same in
    let enough : ltb (length c.args.answers.now) (length c.args.calls.now) ≡ false = le-ltb _ _ c.if-answers-calls.false in
    record {
      answer = rw enough refl;
      answers = all.1;
      memory = search rules;
      law = λ _. lawful g.M.Stage.meaning g.M.MarkedStage.markers (capacity (length memory)) c.args.calls.now (map as_reply c.loop-i.answers) _ all.1;
    }
