-- What four coded bits cost is told in 16 bits.
use Rattle.std.proofs.Common.{◌+◌, ◌*◌, arith}
use Rattle.distance.proofs.Labels.{bounded_more, told_small}
use Rattle.trellis.proofs.label_costs.Goals as goal

pub returns-clause-bounded : goal.returns-clause-bounded
returns-clause-bounded g c =
    let cost = g.S.SoftBits.cost c.args.source.now in
    let k = c.args.step in
    bounded_more cost k 65535
    (told_small cost (4 * k) c.costs.result.0 c.costs.result.1 c.costs.ensures.zero c.costs.ensures.one (omega arith) (omega arith))
    (told_small cost (4 * k + 1) c.costs-2.result.0 c.costs-2.result.1 c.costs-2.ensures.zero c.costs-2.ensures.one (omega arith) (omega arith))
    (told_small cost (4 * k + 2) c.costs-3.result.0 c.costs-3.result.1 c.costs-3.ensures.zero c.costs-3.ensures.one (omega arith) (omega arith))
    (told_small cost (4 * k + 3) c.costs-4.result.0 c.costs-4.result.1 c.costs-4.ensures.zero c.costs-4.ensures.one (omega arith) (omega arith))
