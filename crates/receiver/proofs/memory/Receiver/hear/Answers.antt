use Rattle.std.proofs.Common.{◌≡◌, Ok, refl, ap, arith, rules}
use Rattle.std.proofs.lemmas.List.{places}
use Rattle.std.proofs.lemmas.Slice.{overwrites}
use Rattle.std.proofs.lemmas.Grind.{common_steps}
use Rattle.receiver.specs.State.{hears, hear_answer}
use Rattle.receiver.specs.Held.{room, held}
use Rattle.receiver.proofs.Followed.{settled}
use Rattle.receiver.proofs.memory.Receiver.hear.Goals as goal

pub returns-clause-after : goal.returns-clause-after
returns-clause-after c =
    let r = c.args.self.now in
    let accepted : hear_answer (room r) (held r) c.args.heard.now ≡ Ok tt = grind (arith, common_steps) in
    settled r _ (hears c.args.heard.now)
    (rw accepted (ap (λ v. record { standing = v; start = r.start }) (search (rules, overwrites))))
    (search (rules, places))
    (search (rules, overwrites))
    refl
