-- The survivors before the first step, after each, and after the last.
use Rattle.std.proofs.Common.{◌^◌, ◌∷◌, set, replicate, sym, subst, add-one, arith, get_or-set_other, get_or-set_same}
use Rattle.distance.proofs.Reading.{label_cost_small, metric_small}
use Rattle.distance.proofs.Traces.{begin_metrics, begins, step}
use Rattle.distance.specs.Trellis.{Survivors}
use Rattle.trellis.proofs.forward.Goals as goal

pub loop-step-init : goal.loop-step-init
loop-step-init g c =
    (begins (g.S.SoftBits.cost c.args.source.now) c.args.work.now (0 ∷ replicate 15 (2 ^ 30)) begin_metrics, λ i l b. absurd (omega arith))

pub advance-next-requires : goal.advance-next-requires
advance-next-requires g c =
    let cost = g.S.SoftBits.cost c.args.source.now in
    let k = c.loop-step.step in (
      metric_small cost k c.loop-step.invariant.1 (omega arith) c.loop-step.work c.loop-step.metrics c.loop-step.invariant.0,
      λ q h.
          let e = c.label_costs-costs.ensures.priced q h in
          let s = label_cost_small cost k (c.label_costs-costs.ensures.bounded c.loop-step.invariant.1) q in
          omega arith,
    )

pub loop-step-preserved : goal.loop-step-preserved
loop-step-preserved g c =
    let cost = g.S.SoftBits.cost c.args.source.now in
    let k = c.loop-step.step in
    let work = c.loop-step.work in
    let decisions = c.advance-next.result.decisions in (
      subst (λ n. Survivors cost n (set work k decisions) c.advance-next.result.metrics) (sym (add-one k))
          (step cost k work (set work k decisions) c.loop-step.metrics c.label_costs-costs.result c.advance-next.result.metrics decisions
          c.loop-step.invariant.0 c.label_costs-costs.ensures.priced
          (λ j h. get_or-set_other work k j decisions 0 (omega arith)) (get_or-set_same work k decisions 0 (omega arith)) c.advance-next.ensures),
      c.label_costs-costs.ensures.bounded c.loop-step.invariant.1,
    )
