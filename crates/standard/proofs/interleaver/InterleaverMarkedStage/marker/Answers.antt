use Rattle.layout.proofs.InterleaverLaws.{interleaver_marked}
use Rattle.standard.proofs.interleaver.InterleaverMarkedStage.marker.Goals as goal

pub returns-in_err-check_index-clause-marked : goal.returns-in_err-check_index-clause-marked
returns-in_err-check_index-clause-marked c = interleaver_marked c.args.self.now.preamble c.args.n

pub returns-clause-marked : goal.returns-clause-marked
returns-clause-marked c = interleaver_marked c.args.self.now.preamble c.args.n
