-- What the interleaver owes: element i stands at i + 16 (i mod 8) and nowhere else, and its preamble lies as its tables say.
use Rattle.std.proofs.Common.{◌≡◌, ℕ, ◌+◌, ◌-◌, ◌*◌, ◌/◌, ◌%◌, ◌<◌, ◌≤◌, Bool, true, false, cond, not, ◌||◌, T, eqb, ltb, List, [], ◌∷◌, length, get_or, refl, ap, ◌∙◌, subst, inl, inr, arith, eqb→eq, leb→le}
use Rattle.std.proofs.lemmas.Nat.{div-mul-add, mod-mul-add}
use Rattle.std.proofs.lemmas.Bool.{cases_Bool, lt-ltb, le-ltb, ltb-true, ltb-false, eq-eqb}
use Rattle.stage.specs.declared.Content.{Content}
use Rattle.stage.specs.declared.Content.TheVariants.{Carried, Inverted, Fixed}
use Rattle.stage.specs.Meaning.{Homes, carries, home_of}
use Rattle.stage.specs.Marked.{Marked, no_marker}
use Rattle.layout.specs.Places.{how_many}
use Rattle.layout.specs.Interleaver.{column, scrambled, in_preamble, preamble_bit, preamble_at, interleaved, interleaver_at, interleaver_meaning, interleaver_markers}
use Rattle.layout.proofs.Places.{true_T, passed, passed_back, how_many_past, how_many_below, length-markers, marker_is}
use Rattle.layout.proofs.Fitting.{Placed, homes_fit, home_is, markers_hold}
use Rattle.layout.proofs.Tables.{at}

abbrev pub place_of : ℕ → ℕ
place_of i = i + 16 * (i % 8)

split : (i : ℕ) → place_of i ≡ (i / 8 + 2 * (i % 8)) * 8 + i % 8
split i = omega arith

-- element i lies in its own column, and two rows later for each column
place_row : (i : ℕ) → place_of i / 8 ≡ i / 8 + 2 * (i % 8)
place_row i =
    ap (λ p. p / 8) (split i) ∙ div-mul-add (i / 8 + 2 * (i % 8)) 8 (i % 8) (omega arith)

place_column : (i : ℕ) → place_of i % 8 ≡ i % 8
place_column i =
    ap (λ p. p % 8) (split i) ∙ mod-mul-add (i / 8 + 2 * (i % 8)) 8 (i % 8) (omega arith)

-- behind the preamble a place is that of the element which the rule gives it
place_back : (p : ℕ) → 2 * (p % 8) ≤ p / 8 → p ≡ place_of (interleaved p)
place_back p h =
    let turned : interleaved p ≡ (p / 8 - 2 * (p % 8)) * 8 + p % 8 = omega arith in
    let across : interleaved p % 8 ≡ p % 8 = ap (λ i. i % 8) turned ∙ mod-mul-add (p / 8 - 2 * (p % 8)) 8 (p % 8) (omega arith) in
    omega (arith, across)

module _ (preamble : List ℕ) where
  held : (n p : ℕ) → in_preamble p ≡ true → interleaver_at preamble n p ≡ Fixed (preamble_at preamble p)
  held n p e = rw e

  carrying : (n p i : ℕ) → in_preamble p ≡ false → interleaved p < n → carries (interleaver_at preamble n p) i ≡ eqb (interleaved p) i
  carrying n p i e h =
      rw (e, lt-ltb (interleaved p) n h)
      (elim (scrambled (column p)) as (λ b. carries (cond b (Inverted (interleaved p)) (Carried (interleaved p))) i ≡ eqb (interleaved p) i) [ true ↦ refl | false ↦ refl ])

  filled : (n p : ℕ) → in_preamble p ≡ false → n ≤ interleaved p → interleaver_at preamble n p ≡ Fixed (scrambled (column p))
  filled n p e h = rw (e, le-ltb (interleaved p) n h)

  there : (n i : ℕ) → i < n → T (carries (interleaver_at preamble n (place_of i)) i)
  there n i h =
      let behind : in_preamble (place_of i) ≡ false = le-ltb (place_of i / 8) (2 * (place_of i % 8)) (omega (arith, place_row i, place_column i)) in
      let same : interleaved (place_of i) ≡ i = omega (arith, place_row i, place_column i) in
      rw (carrying n (place_of i) i behind (rw same h)) (true_T (eqb (interleaved (place_of i)) i) (eq-eqb (interleaved (place_of i)) i same))

  only : (n i p : ℕ) → T (carries (interleaver_at preamble n p) i) → (i < n) × (p ≡ place_of i)
  only n i p t =
      elim (cases_Bool (in_preamble p)) [
        | inl e ↦ absurd (subst (λ (c : Content). T (carries c i)) (held n p e) t)
        | inr e ↦
            elim (cases_Bool (ltb (interleaved p) n)) [
              | inl l ↦
                  let h = ltb-true (interleaved p) n l in
                  let same = eqb→eq (interleaved p) i (subst T (carrying n p i e h) t) in
                  let late = ltb-false (p / 8) (2 * (p % 8)) e in
                  (rw (← same) h, place_back p late ∙ ap place_of same)
              | inr l ↦ absurd (subst (λ (c : Content). T (carries c i)) (filled n p e (ltb-false (interleaved p) n l)) t)
            ]
      ]

  placed : Placed (interleaver_meaning preamble) place_of
  placed =
      record {
        least = λ n t. omega arith;
        most = λ n t. omega (arith, leb→le n 10000 t);
        there = λ n i h. (omega arith, there n i h);
        only = λ n i p s. only n i p s.1;
      }

  pub interleaver_homes : Homes (interleaver_meaning preamble)
  interleaver_homes = homes_fit (interleaver_meaning preamble) place_of placed

  pub interleaver_home : (n i : ℕ) → i < n → home_of (interleaver_meaning preamble) n i ≡ i + 16 * (i % 8)
  interleaver_home n i h = home_is (interleaver_meaning preamble) place_of placed n i h

  pub interleaver_count : (n : ℕ) → length (interleaver_markers preamble n) ≡ 56
  interleaver_count n =
      length-markers in_preamble (preamble_at preamble) (n + 112)
      ∙ how_many_past in_preamble 112 n (λ q h. le-ltb (q / 8) (2 * (q % 8)) (omega arith))

  -- the 56 places, in order: `passed` computes to their list
  pub interleaver_marker : (n k : ℕ) → k < 56 → get_or (interleaver_markers preamble n) k no_marker ≡ record { place = get_or (passed in_preamble 112) k 0; bit = preamble_bit preamble k }
  interleaver_marker n k h =
      let (low, passes, before) = passed_back in_preamble 112 k 0 h in
      marker_is in_preamble (preamble_at preamble) (n + 112) (get_or (passed in_preamble 112) k 0) k no_marker (omega (arith, low)) passes before
      ∙ ap (λ j. record { place = get_or (passed in_preamble 112) k 0; bit = preamble_bit preamble j }) before

  pub interleaver_marked : (n : ℕ) → Marked (interleaver_meaning preamble) (interleaver_markers preamble) n
  interleaver_marked n = markers_hold (interleaver_meaning preamble) in_preamble (preamble_at preamble) n (held n)

-- how many preamble bits stand before each row
abbrev pub before_row : List ℕ
before_row = 0 ∷ 7 ∷ 14 ∷ 20 ∷ 26 ∷ 31 ∷ 36 ∷ 40 ∷ 44 ∷ 47 ∷ 50 ∷ 52 ∷ 54 ∷ 55 ∷ []

numbered : ℕ → Bool
numbered p = not (in_preamble p) || eqb (how_many in_preamble p) (get_or before_row (p / 8) 0 + (p % 8 - p / 8 / 2 - 1))

-- the index of the preamble bit at a place, by its row and column
pub preamble_index : (p : ℕ) → in_preamble p ≡ true → (how_many in_preamble p ≡ get_or before_row (p / 8) 0 + (p % 8 - p / 8 / 2 - 1)) × (how_many in_preamble p < 56)
unfolding numbered
preamble_index p e =
    let low : p < 112 = omega (arith, ltb-true (p / 8) (2 * (p % 8)) e) in
    let t = at numbered 112 tt p low in
    (eqb→eq (how_many in_preamble p) (get_or before_row (p / 8) 0 + (p % 8 - p / 8 / 2 - 1)) (rw e at t), how_many_below in_preamble 112 p low e)
