use Rattle.stage.proofs.Answers.{length_told, home_answered}
use Rattle.trials.specs.Homes.{turned_homes, turned_stands}
use Rattle.trials.specs.Turned.{turned}
use Rattle.std.proofs.Common.{◌+◌}
use Rattle.trials.proofs.turned.TurnedStage.home.Goals as goal

pub returns : goal.returns
returns c =
    let b = c.args.self.now.front in
    let n = c.args.n in
    let i = c.args.element in
    let t = (length_told (turned b) n c.in_ok-length.field-0 c.in_ok-length.ensures).0 in
    home_answered (turned b) (turned_homes b) n i (i + 1) t c.in_ok-check_index.ensures.below (turned_stands b n i c.in_ok-check_index.ensures.below)
