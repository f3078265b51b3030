-- The worked examples hold.
use mathlib.Core.Bool.{xor}
use Rattle.std.proofs.Common.{refl}
use Rattle.layout.proofs.StandardLaws.{worked}
use Rattle.usual.specs.Worked.{WorkedExamples, usual_preamble}

pub worked_examples : WorkedExamples
unfolding xor
worked_examples =
    let standard = worked usual_preamble in
    record {
      coded_01 = refl;
      coded_80 = refl;
      inserted_48 = standard.inserted_1;
      inserted_336 = standard.inserted_10;
      burst_1 = standard.burst_1;
      burst_10 = standard.burst_10;
      burst_240 = standard.burst_240;
      home_7 = standard.home_7;
      home_22 = standard.home_22;
      home_112 = standard.home_112;
      tones_00 = refl;
    }
