use Rattle.std.proofs.Common.{◌≡◌, Ok, replicate, pos, refl, ap, arith, rules}
use Rattle.std.proofs.lemmas.List.{places}
use Rattle.std.proofs.lemmas.Slice.{overwrites}
use Rattle.std.proofs.lemmas.Grind.{common_steps}
use Rattle.receiver.specs.State.{loses, lose_answer}
use Rattle.receiver.specs.Held.{held}
use Rattle.receiver.proofs.Followed.{settled, take_erased}
use Rattle.receiver.proofs.memory.Receiver.lose.Goals as goal

pub returns-clause-after : goal.returns-clause-after
returns-clause-after c =
    let r = c.args.self.now in
    let accepted : lose_answer (held r) c.args.place c.args.n ≡ Ok tt = grind (arith, common_steps) in
    let zeroed : c.fill.new.self ≡ replicate c.args.n (pos 0) = search rules in
    settled r _ (loses c.args.place c.args.n)
    (rw accepted (ap (λ v. record { standing = v; start = r.start }) (rw zeroed (search (rules, take_erased)))))
    (search (rules, places))
    (search (rules, overwrites))
    refl
