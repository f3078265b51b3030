use Rattle.std.proofs.Common.{T, sym, ◌∙◌, subst, w8, to_z, of_z}
use mir.ValLaws.{to_z-of_z}
use Rattle.card.specs.declared.Reading.TheVariants.{Balance}
use Rattle.card.specs.Readings.{Promised}
use Rattle.card.proofs.Pairs.{pair_of, is_value, balance_turned}
use Rattle.card.proofs.Reading.values.Goals as goal

pub returns-in-Balance-clause-promised : goal.returns-in-Balance-clause-promised
returns-in-Balance-clause-promised c =
    let x = c.in-Balance.first in
    let y = c.in-Balance.second in
    let p = subst T (sym c.if-is_balance.true ∙ c.is_balance.ensures) tt in
    let q = subst T (sym c.if-is_balance-2.true ∙ c.is_balance-then-is_balance.ensures) tt in
    let e =
    pair_of (to_z-of_z w8 c.strength.result (record { sfits = c.strength.type_inv }) ∙ c.strength.ensures.is) (to_z-of_z w8 c.strength-in-Balance.result (record { sfits = c.strength-in-Balance.type_inv }) ∙ c.strength-in-Balance.ensures.is) in
    let promised = subst (Promised (Balance x y)) (sym e) (record { first_value = is_value x p; second_value = is_value y q; exact = balance_turned x y p q }) in
    subst (λ r. Promised r (to_z w8 (of_z w8 c.strength.result), to_z w8 (of_z w8 c.strength-in-Balance.result))) (sym c.in-Balance.is) promised
