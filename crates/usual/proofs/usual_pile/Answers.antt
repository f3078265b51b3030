use Rattle.usual.proofs.Examples.{worked_examples}
use Rattle.usual.proofs.usual_pile.Goals as goal

pub returns : goal.returns
returns c = record { preamble = c.standard_pile.ensures; worked = worked_examples }
