use Rattle.std.proofs.Common.{rules}
use Rattle.layout.proofs.InterleaverLaws.{preamble_index}
use Rattle.standard.proofs.interleaver.preamble_index.Goals as goal

pub returns : goal.returns
returns c =
    let rule = preamble_index c.args.place c.requires in
    record { index = search rules; below = search rules }
