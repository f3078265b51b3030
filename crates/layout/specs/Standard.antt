-- The standard pile: the inserter, then the interleaver, then the lead on top.
use Rattle.std.specs.Prelude.{ℕ, List}
use Rattle.stage.specs.Meaning.{Meaning}
use Rattle.stage.specs.Piled.{piled}
use Rattle.layout.specs.Inserter.{inserter_meaning}
use Rattle.layout.specs.Interleaver.{interleaver_meaning}
use Rattle.layout.specs.Lead.{lead_meaning}

abbrev pub standard_meaning : List ℕ → Meaning
standard_meaning preamble = piled (piled inserter_meaning (interleaver_meaning preamble)) lead_meaning
