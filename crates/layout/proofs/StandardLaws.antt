-- Worked lengths and homes, for every preamble.
use Rattle.std.proofs.Common.{◌≡◌, ℕ, suc, ◌+◌, ◌<◌, T, leb, List, Ok, refl, ap, ◌∙◌}
use Rattle.stage.specs.Meaning.{home_of, length_answer}
use Rattle.layout.specs.Inserter.{inserter_size, inserter_meaning}
use Rattle.layout.specs.Interleaver.{interleaver_meaning}
use Rattle.layout.specs.Standard.{standard_meaning}
use Rattle.layout.proofs.InserterLaws.{spot, place_of, size_is}
use Rattle.layout.proofs.Places.{T_true}
use Rattle.layout.proofs.InterleaverLaws.{interleaver_home}

sized : (n p : ℕ) → place_of n ≡ p → inserter_size (suc n) ≡ suc p
sized n p e = size_is n ∙ ap suc e

sized_48 : inserter_size 48 ≡ 60
unfolding place_of spot
sized_48 = sized 47 59 refl

sized_336 : inserter_size 336 ≡ 402
unfolding place_of spot
sized_336 = sized 335 401 refl

sized_7696 : inserter_size 7696 ≡ 9234
unfolding place_of spot
sized_7696 = sized 7695 9233 refl

-- the pile's length, from the inserter's
inserted : (n k : ℕ) → T (leb n 10000) → inserter_size n ≡ k → length_answer inserter_meaning n ≡ Ok k
inserted n k t e = rw (T_true (leb n 10000) t, e)

burst : (preamble : List ℕ) (n k : ℕ) → T (leb n 10000) → inserter_size n ≡ k → T (leb k 10000) → T (leb (k + 112) 10000) → length_answer (standard_meaning preamble) n ≡ Ok (k + 112 + 8)
burst preamble n k t e u v = rw (e, T_true (leb n 10000) t, T_true (leb k 10000) u, T_true (leb (k + 112) 10000) v)

-- Worked examples: lengths behind the inserter for texts of 1 and 10 octets, bursts for 1, 10 and 240,
-- and three homes in the interleaver.
pub record Worked (preamble : List ℕ) : Type 0 where
  pub inserted_1 : length_answer inserter_meaning 48 ≡ Ok 60
  pub inserted_10 : length_answer inserter_meaning 336 ≡ Ok 402
  pub burst_1 : length_answer (standard_meaning preamble) 48 ≡ Ok 180
  pub burst_10 : length_answer (standard_meaning preamble) 336 ≡ Ok 522
  pub burst_240 : length_answer (standard_meaning preamble) 7696 ≡ Ok 9354
  pub home_7 : (n : ℕ) → 7 < n → home_of (interleaver_meaning preamble) n 7 ≡ 119
  pub home_22 : (n : ℕ) → 22 < n → home_of (interleaver_meaning preamble) n 22 ≡ 118
  pub home_112 : (n : ℕ) → 112 < n → home_of (interleaver_meaning preamble) n 112 ≡ 112

pub worked : (preamble : List ℕ) → Worked preamble
worked preamble =
    record {
      inserted_1 = inserted 48 60 tt sized_48;
      inserted_10 = inserted 336 402 tt sized_336;
      burst_1 = burst preamble 48 60 tt sized_48 tt tt;
      burst_10 = burst preamble 336 402 tt sized_336 tt tt;
      burst_240 = burst preamble 7696 9234 tt sized_7696 tt tt;
      home_7 = λ n h. interleaver_home preamble n 7 h;
      home_22 = λ n h. interleaver_home preamble n 22 h;
      home_112 = λ n h. interleaver_home preamble n 112 h;
    }
