use Rattle.std.proofs.Common.{◌∙◌}
use Rattle.card.specs.Floats.{one, minus_one}
use Rattle.card.proofs.Ranges.{within}
use Rattle.card.proofs.is_balance.Goals as goal

pub returns : goal.returns
returns c = c.contains.ensures.value ∙ within c.new.result minus_one one c.args.x c.new.ensures.start c.new.ensures.end c.new.ensures.exhausted
