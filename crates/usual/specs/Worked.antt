-- The exchange's usual preamble, and the worked examples of the whole way out.
use Rattle.std.specs.Prelude.{◌≡◌, ℕ, ◌<◌, Bool, false, List, [], ◌∷◌, ◌++◌, map, replicate, Ok, codes, nat_eq}
use Rattle.std.specs.List.{range_with_len}
use Rattle.code.specs.Coder.{coded_bits}
use Rattle.stage.specs.Elements.{octet_of}
use Rattle.stage.specs.Meaning.{home_of, length_answer}
use Rattle.layout.specs.Inserter.{inserter_meaning}
use Rattle.layout.specs.Interleaver.{interleaver_meaning}
use Rattle.layout.specs.Standard.{standard_meaning}
use Rattle.transmitter.specs.Burst.{burst}
use Rattle.tone.specs.Tones.{frame, hertz}

-- the exchange's usual preamble, in 7 octets
abbrev pub usual_preamble : List ℕ
usual_preamble = 0x56 ∷ 0x6E ∷ 0xD2 ∷ 0x71 ∷ 0x56 ∷ 0x6E ∷ 0xD2 ∷ []

-- a row of bits written as digits
abbrev pub bits : List ℕ → List Bool
bits digits = map (λ d. nat_eq d 49) digits

-- The worked examples. Octets 0x01 and 0x80 coded; how many elements leave the inserter for 48 and 336; how long the
-- bursts of texts of 1, 10 and 240 octets are; where the interleaver puts elements 7, 22 and 112 of a stream that
-- has them; and the first eight tones of the text 0x00.
pub record WorkedExamples : Type 0 where
  pub coded_01 : coded_bits (0x01 ∷ []) ≡ bits (codes "11110011110101111111") ++ replicate 28 false
  pub coded_80 : coded_bits (0x80 ∷ []) ≡ replicate 28 false ++ bits (codes "11110011110101111111")
  pub inserted_48 : length_answer inserter_meaning 48 ≡ Ok 60
  pub inserted_336 : length_answer inserter_meaning 336 ≡ Ok 402
  pub burst_1 : length_answer (standard_meaning usual_preamble) 48 ≡ Ok 180
  pub burst_10 : length_answer (standard_meaning usual_preamble) 336 ≡ Ok 522
  pub burst_240 : length_answer (standard_meaning usual_preamble) 7696 ≡ Ok 9354
  pub home_7 : (n : ℕ) → 7 < n → home_of (interleaver_meaning usual_preamble) n 7 ≡ 119
  pub home_22 : (n : ℕ) → 22 < n → home_of (interleaver_meaning usual_preamble) n 22 ≡ 118
  pub home_112 : (n : ℕ) → 112 < n → home_of (interleaver_meaning usual_preamble) n 112 ≡ 112
  pub tones_00 : map (λ i. hertz (frame (map octet_of (burst (standard_meaning usual_preamble) (0x00 ∷ []))) i)) (range_with_len 0 8) ≡ 400 ∷ 800 ∷ 1000 ∷ 600 ∷ 800 ∷ 800 ∷ 800 ∷ 1000 ∷ []
