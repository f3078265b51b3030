use Rattle.std.proofs.Common.{not, leb}
use lib.Dec.{eqb_refl}
use Rattle.stage.proofs.Answers.{passed, taken, home_answered}
use Rattle.wire.specs.Homes.{wire_homes}
use Rattle.wire.specs.Wire.{wire}
use Rattle.wire.proofs.WireStage.home.Goals as goal

pub returns : goal.returns
returns c =
    let n = c.args.n in
    let i = c.args.element in
    let t = taken (leb n 10000) (passed (not (leb n 10000)) _ _ tt c.in_ok-check_count.ensures).0 in
    home_answered wire wire_homes n i i t c.in_ok-check_index.ensures.below (c.in_ok-check_index.ensures.below, eqb_refl i)
