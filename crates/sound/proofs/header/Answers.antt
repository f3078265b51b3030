use Rattle.std.proofs.Common.{◌∙◌}
use Rattle.sound.specs.Wave.{header_of}
use Rattle.sound.proofs.Shape.{around}
use Rattle.sound.proofs.header.Goals as goal

pub returns : goal.returns
unfolding header_of
returns c = λ i. around ((c.copy_from_slice.ensures.after ∙ c.to_le_bytes.ensures) i) ((c.copy_from_slice-2.ensures.after ∙ c.to_le_bytes-2.ensures) i)
