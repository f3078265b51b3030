use Rattle.std.proofs.Common.{◌∙◌}
use Rattle.card.specs.Floats.{nought, loudest}
use Rattle.card.proofs.Ranges.{within}
use Rattle.card.proofs.is_level.Goals as goal

pub returns : goal.returns
returns c = c.contains.ensures.value ∙ within c.new.result nought loudest c.args.x c.new.ensures.start c.new.ensures.end c.new.ensures.exhausted
