-- Each turn settles states j and j + 8; the two halves of the decision bits are joined at the end.
use Rattle.std.proofs.Common.{◌≡◌, ◌^◌, ◌<◌, get_or, refl, ◌∙◌, subst, arith, length-set}
use Rattle.distance.proofs.Decisions.{acc_below, byte_one, joined, turn}
use Rattle.distance.specs.Trellis.{labels}
use Rattle.trellis.proofs.advance.Goals as goal

pub loop-j-preserved : goal.loop-j-preserved
loop-j-preserved c =
    let inv = c.loop-j.invariant in
    let j = c.loop-j.j in
    let low = c.from.ensures ∙ byte_one c.cheaper-to_zero.result.1 in
    let high = c.from-in-loop-j.ensures ∙ byte_one c.cheaper-to_one.result.1 in
    let t = turn c.args.metrics.now c.args.costs.now c.loop-j.next c.loop-j.low c.loop-j.high j (get_or labels j 0) (omega arith) refl
    inv.0 inv.1 inv.2 inv.3 inv.4 c.cheaper-to_zero.result.0 c.cheaper-to_one.result.0
    c.cheaper-to_zero.result.1 c.cheaper-to_one.result.1 c.from.result c.from-in-loop-j.result c.cheaper-to_zero.ensures.metric c.cheaper-to_zero.ensures.turned
    c.cheaper-to_one.ensures.metric c.cheaper-to_one.ensures.turned low high in (
      acc_below c.loop-j.low j c.cheaper-to_zero.result.1 c.from.result low (omega arith) inv.0,
      acc_below c.loop-j.high j c.cheaper-to_one.result.1 c.from-in-loop-j.result high (omega arith) inv.1,
      simp length-set inv.2,
      t.0,
      t.1,
    )

pub returns : goal.returns
returns c =
    let e : c.loop-j.j ≡ 8 = omega arith in
    let inv = c.loop-j.invariant in
    joined c.args.metrics.now c.args.costs.now c.loop-j.next c.loop-j.low c.loop-j.high
    (subst (λ n. c.loop-j.low < 2 ^ n) e inv.0) (λ t l. inv.3 t (omega arith)) (λ t l. inv.4 t (omega arith))
