use Rattle.layout.proofs.InterleaverLaws.{interleaver_marked}
use Rattle.standard.proofs.interleaver.InterleaverMarkedStage.marker_count.Goals as goal

pub returns-clause-marked : goal.returns-clause-marked
returns-clause-marked c = interleaver_marked c.args.self.now.preamble c.args.n
