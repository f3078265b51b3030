-- Texts as paths: what a text's path costs is its distance, and the order of paths is the order of texts.
use Rattle.std.proofs.Common.{◌≡◌, ℕ, zero, suc, ◌+◌, ◌*◌, ◌/◌, ◌%◌, ◌^◌, ◌<◌, ◌≤◌, Bool, false, eqb, List, [], ◌∷◌, map, length, get_or, sym, refl, ap, ◌∙◌, zero-add, arith}
use native.Mathlib.Nat.{suc-sub-suc, sub-zero, zero-div}
use lib.Dec.{leb-suc-suc, leb-suc-zero}
use lib.ListN.{get_or-eq_default}
use Rattle.code.specs.Coder.{bit, before, coded, coded_count, sums, parity}
use Rattle.distance.specs.Nearest.{total, distance}
use Rattle.distance.specs.Trellis.{four, one, path, state, window, sent, four_cost, branch, path_cost}
use Rattle.distance.proofs.Totals.{total_ext, total_four}

before_suc : (b : ℕ → Bool) (i d : ℕ) → before b (suc i) (suc d) ≡ before b i d
before_suc b i d = rw (leb-suc-suc (suc i) d, suc-sub-suc i d)

before_zero : (b : ℕ → Bool) (i : ℕ) → before b i 0 ≡ b i
before_zero b i = rw (leb-suc-zero i, sub-zero i)

-- the path of any stream of bits
abbrev pub delayed : (ℕ → Bool) → ℕ → Bool
delayed b i = before b i 4

pub delayed_four : (b : ℕ → Bool) (n : ℕ) → delayed b (four n) ≡ b n
delayed_four b n =
    before_suc b (suc (suc (suc n))) 3 ∙ (before_suc b (suc (suc n)) 2 ∙ (before_suc b (suc n) 1 ∙ (before_suc b n 0 ∙ before_zero b n)))

-- the five bits of a step, as they lie back from it
window_back : (b : ℕ → Bool) (j : ℕ)
    → window j (delayed b) ≡ before b j 0 ∷ before b j 1 ∷ before b j 2 ∷ before b j 3 ∷ before b j 4 ∷ []
window_back b j =
    let w0 : delayed b (four j) ≡ before b j 0 =
    before_suc b (suc (suc (suc j))) 3 ∙ (before_suc b (suc (suc j)) 2 ∙ (before_suc b (suc j) 1 ∙ before_suc b j 0)) in
    let w1 : delayed b (suc (suc (suc j))) ≡ before b j 1 =
    before_suc b (suc (suc j)) 3 ∙ (before_suc b (suc j) 2 ∙ before_suc b j 1) in
    let w2 : delayed b (suc (suc j)) ≡ before b j 2 = before_suc b (suc j) 3 ∙ before_suc b j 2 in
    let w3 : delayed b (suc j) ≡ before b j 3 = before_suc b j 3 in
    cc

-- the four coded bits of a step
coded_at : (b : ℕ → Bool) (i j r : ℕ) → i / 4 ≡ j → i % 4 ≡ r → coded b i ≡ parity (map (before b j) (get_or sums r []))
coded_at b i j r p q = cc

pub coded_sent : (b : ℕ → Bool) (j : ℕ)
    → (coded b (4 * j) ≡ sent (window j (delayed b)) 0) × (coded b (4 * j + 1) ≡ sent (window j (delayed b)) 1)
    × (coded b (4 * j + 2) ≡ sent (window j (delayed b)) 2) × (coded b (4 * j + 3) ≡ sent (window j (delayed b)) 3)
coded_sent b j =
    let w = window_back b j in (
      coded_at b (4 * j) j 0 (omega arith) (omega arith) ∙ sym (ap (λ v. sent v 0) w),
      coded_at b (4 * j + 1) j 1 (omega arith) (omega arith) ∙ sym (ap (λ v. sent v 1) w),
      coded_at b (4 * j + 2) j 2 (omega arith) (omega arith) ∙ sym (ap (λ v. sent v 2) w),
      coded_at b (4 * j + 3) j 3 (omega arith) (omega arith) ∙ sym (ap (λ v. sent v 3) w),
    )

same_cost : (cost : ℕ → Bool → ℕ) (k : ℕ) (p p' q q' r r' s s' : Bool) → p ≡ p' → q ≡ q' → r ≡ r' → s ≡ s'
    → four_cost cost k p q r s ≡ four_cost cost k p' q' r' s'
same_cost cost k p p' q q' r r' s s' e f g h = cc

-- what the path of a stream costs over n steps: the sum over its coded bits
pub cost_total : (cost : ℕ → Bool → ℕ) (b : ℕ → Bool) (n : ℕ)
    → path_cost cost n (delayed b) ≡ total (4 * n) (λ i. cost i (coded b i))
unfolding path_cost
cost_total cost b n =
    zero-add _ ∙ (total_ext n (λ j. branch cost j (delayed b)) _ (λ j l. at j) ∙ sym (total_four n (λ i. cost i (coded b i))))
  where
    at : (j : ℕ) → branch cost j (delayed b) ≡ four_cost cost j (coded b (4 * j)) (coded b (4 * j + 1)) (coded b (4 * j + 2)) (coded b (4 * j + 3))
    at j = let e = coded_sent b j in same_cost cost j _ _ _ _ _ _ _ _ (sym e.0) (sym e.1) (sym e.2) (sym e.3)

pub cost_of_text : (cost : ℕ → Bool → ℕ) (m : ℕ) (text : List ℕ) → length text ≡ m
    → path_cost cost (four (8 * m)) (path text) ≡ distance cost text
cost_of_text cost m text e =
    let n : 4 * four (8 * m) ≡ coded_count (length text) = omega arith in
    cost_total cost (bit text) (four (8 * m)) ∙ ap (λ k. total k (λ i. cost i (coded (bit text) i))) n

-- an octet from its eight bits
one_odd : (x : ℕ) → one (eqb (x % 2) 1) ≡ x % 2
one_odd x = go (x % 2) (omega arith)
  where
    go : (r : ℕ) → r < 2 → one (eqb r 1) ≡ r
    go zero h = refl
    go (suc zero) h = refl
    go (suc (suc r)) h = absurd (omega arith)

bit_at : (text : List ℕ) (n i t : ℕ) → n / 8 ≡ i → n % 8 ≡ t → one (bit text n) ≡ get_or text i 0 / 2 ^ t % 2
bit_at text n i t p q = one_odd (get_or text (n / 8) 0 / 2 ^ (n % 8)) ∙ cc

path_bit : (text : List ℕ) (i t n : ℕ) → n ≡ 8 * i + t → t < 8 → one (path text (four n)) ≡ get_or text i 0 / 2 ^ t % 2
path_bit text i t n e h = ap one (delayed_four (bit text) n) ∙ bit_at text n i t (omega arith) (omega arith)

-- the two states that hold the octet at i of a text
pub octet_of : (text : List ℕ) (i : ℕ) → get_or text i 0 < 256
    → state (four (8 * i)) (path text) + 16 * state (four (four (8 * i))) (path text) ≡ get_or text i 0
octet_of text i h =
    let b0 = path_bit text i 0 (8 * i) (omega arith) (omega arith) in
    let b1 = path_bit text i 1 (suc (8 * i)) (omega arith) (omega arith) in
    let b2 = path_bit text i 2 (suc (suc (8 * i))) (omega arith) (omega arith) in
    let b3 = path_bit text i 3 (suc (suc (suc (8 * i)))) (omega arith) (omega arith) in
    let b4 = path_bit text i 4 (four (8 * i)) (omega arith) (omega arith) in
    let b5 = path_bit text i 5 (suc (four (8 * i))) (omega arith) (omega arith) in
    let b6 = path_bit text i 6 (suc (suc (four (8 * i)))) (omega arith) (omega arith) in
    let b7 = path_bit text i 7 (suc (suc (suc (four (8 * i))))) (omega arith) (omega arith) in
    eight (get_or text i 0) h _ _ _ _ _ _ _ _ b0 b1 b2 b3 b4 b5 b6 b7
  where
    eight : (a : ℕ) → a < 256 → (x0 x1 x2 x3 x4 x5 x6 x7 : ℕ) → x0 ≡ a / 1 % 2 → x1 ≡ a / 2 % 2 → x2 ≡ a / 4 % 2 → x3 ≡ a / 8 % 2
        → x4 ≡ a / 16 % 2 → x5 ≡ a / 32 % 2 → x6 ≡ a / 64 % 2 → x7 ≡ a / 128 % 2
        → (x0 + 2 * x1 + 4 * x2 + 8 * x3) + 16 * (x4 + 2 * x5 + 4 * x6 + 8 * x7) ≡ a
    eight a h x0 x1 x2 x3 x4 x5 x6 x7 e0 e1 e2 e3 e4 e5 e6 e7 = omega arith

-- beyond a text's octets its path holds zeros
pub path_beyond : (text : List ℕ) (m n : ℕ) → length text ≡ m → 8 * m ≤ n → path text (four n) ≡ false
path_beyond text m n e h =
    delayed_four (bit text) n ∙ zero_bit (get_or text (n / 8) 0) (n % 8) (get_or-eq_default text 0 (omega arith))
  where
    zero_bit : (a t : ℕ) → a ≡ 0 → eqb (a / 2 ^ t % 2) 1 ≡ false
    zero_bit a t p = rw (p, zero-div (2 ^ t)) refl
