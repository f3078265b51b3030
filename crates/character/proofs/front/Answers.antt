use Rattle.std.proofs.Common.{rules, arith}
use Rattle.character.proofs.Fronts.{front_found}
use Rattle.character.proofs.front.Goals as goal

pub returns-in_default : goal.returns-in_default
returns-in_default c = front_found c.args.first c.args.behind.now c.character.result c.map_or.result (λ e. omega arith) (λ e. omega arith) c.character.ensures (search rules)
