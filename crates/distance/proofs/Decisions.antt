-- The decision bits of a step, and what each state takes, gathered state by state.
use Rattle.std.proofs.Common.{◌≡◌, ℕ, zero, suc, ◌+◌, ◌-◌, ◌*◌, ◌/◌, ◌%◌, ◌^◌, ◌<◌, ◌≤◌, Bool, true, false, cond, ltb, List, length, get_or, set, sym, refl, ap, ◌∙◌, subst, ⊎_elim, mod-eq_of_lt, mul_comm, add_comm, pow-suc, add-one, arith, lit<, length-set, get_or-set_other, get_or-set_same, pow_pos, pow-add}
use mathlib.Core.Bool.{xor}
use native.Mathlib.Nat.{add-mul-div_right, add-mul-mod_self_right, div-eq_of_lt}
use mir.Val.{bool_byte}
use Rattle.std.proofs.lemmas.Bool.{cases_lt}
use Rattle.std.proofs.lemmas.Nat.{shr-shr, pow_below}
use Rattle.distance.specs.Trellis.{one, label, labels, candidate, Chosen}

-- a bit put on top leaves those below it
bit_kept : (acc x t j : ℕ) → t < j → (acc + x * 2 ^ j) / 2 ^ t % 2 ≡ acc / 2 ^ t % 2
bit_kept acc x t j l =
    let p : 2 ^ j ≡ 2 ^ (j - suc t) * 2 ^ suc t = ap (λ n. 2 ^ n) (omega arith) ∙ pow-add 2 (j - suc t) (suc t) in
    let e : x * 2 ^ j ≡ x * 2 ^ (j - suc t) * 2 * 2 ^ t = rw (p, pow-suc 2 t) (omega arith) in
    let d : (acc + x * 2 ^ j) / 2 ^ t ≡ acc / 2 ^ t + x * 2 ^ (j - suc t) * 2 =
    ap (λ n. (acc + n) / 2 ^ t) e ∙ add-mul-div_right acc (x * 2 ^ (j - suc t) * 2) (pow_pos t) in
    ap (λ n. n % 2) d ∙ add-mul-mod_self_right (acc / 2 ^ t) (x * 2 ^ (j - suc t)) 2

bit_new : (acc x j : ℕ) → acc < 2 ^ j → x < 2 → (acc + x * 2 ^ j) / 2 ^ j % 2 ≡ x
bit_new acc x j h l =
    ap (λ n. n % 2) (add-mul-div_right acc x (pow_pos j) ∙ ap (λ n. n + x) (div-eq_of_lt h)) ∙ omega arith

-- state s took the cheaper of its candidates, and bit t of a number says which
abbrev pub Taken : List ℕ → List ℕ → List ℕ → ℕ → ℕ → ℕ → Type 0
Taken metrics costs next acc t s =
    (get_or next s 0 ≡ cond (ltb (candidate metrics costs s 1) (candidate metrics costs s 0)) (candidate metrics costs s 1) (candidate metrics costs s 0))
    × (acc / 2 ^ t % 2 ≡ one (ltb (candidate metrics costs s 1) (candidate metrics costs s 0)))

-- the two halves of the decisions, joined
pub joined : (metrics costs next : List ℕ) (low high : ℕ) → low < 2 ^ 8
    → ((t : ℕ) → t < 8 → Taken metrics costs next low t t) → ((t : ℕ) → t < 8 → Taken metrics costs next high t (t + 8))
    → (s : ℕ) → s < 16 → Chosen metrics costs next (low + 256 * high) s
joined metrics costs next low high h lows highs s l = ⊎_elim below above (cases_lt s 8)
  where
    below : s < 8 → Chosen metrics costs next (low + 256 * high) s
    below g = ((lows s g).0, ap (λ n. (low + n) / 2 ^ s % 2) (mul_comm 256 high) ∙ (bit_kept low high s 8 g ∙ (lows s g).1))

    shifted : (t : ℕ) → (low + 256 * high) / 2 ^ (t + 8) ≡ high / 2 ^ t
    shifted t =
        let d : (low + 256 * high) / 2 ^ 8 ≡ high = omega arith in
        ap (λ k. (low + 256 * high) / 2 ^ k) (add_comm t 8) ∙ (sym (shr-shr (low + 256 * high) 8 t) ∙ ap (λ n. n / 2 ^ t) d)

    above_at : (t : ℕ) → t < 8 → Chosen metrics costs next (low + 256 * high) (t + 8)
    above_at t g = ((highs t g).0, ap (λ n. n % 2) (shifted t) ∙ (highs t g).1)

    above : 8 ≤ s → Chosen metrics costs next (low + 256 * high) s
    above g = let e : s - 8 + 8 ≡ s = omega arith in subst (λ n. Chosen metrics costs next (low + 256 * high) n) e (above_at (s - 8) (omega arith))

-- the table's rule: a new 1 inverts all four coded bits, and so does a 1 that drops out
record Labelled (j b : ℕ) : Type 0 where
  zero_zero : label (2 * j) ≡ b
  zero_one : label (2 * j + 16) ≡ 15 - b
  one_zero : label (2 * j + 1) ≡ 15 - b
  one_one : label (2 * j + 17) ≡ b

labelled : (j : ℕ) → j < 8 → Labelled j (get_or labels j 0)
unfolding xor
labelled zero h = record { zero_zero = refl; zero_one = refl; one_zero = refl; one_one = refl }
labelled (suc zero) h = record { zero_zero = refl; zero_one = refl; one_zero = refl; one_one = refl }
labelled (suc (suc zero)) h = record { zero_zero = refl; zero_one = refl; one_zero = refl; one_one = refl }
labelled (suc (suc (suc zero))) h = record { zero_zero = refl; zero_one = refl; one_zero = refl; one_one = refl }
labelled (suc (suc (suc (suc zero)))) h = record { zero_zero = refl; zero_one = refl; one_zero = refl; one_one = refl }
labelled (suc (suc (suc (suc (suc zero))))) h = record { zero_zero = refl; zero_one = refl; one_zero = refl; one_one = refl }
labelled (suc (suc (suc (suc (suc (suc zero)))))) h = record { zero_zero = refl; zero_one = refl; one_zero = refl; one_one = refl }
labelled (suc (suc (suc (suc (suc (suc (suc zero))))))) h = record { zero_zero = refl; zero_one = refl; one_zero = refl; one_one = refl }
labelled (suc (suc (suc (suc (suc (suc (suc (suc j)))))))) h = absurd (omega arith)

-- what the table gives for the candidates of states j and j + 8
module _ (metrics costs : List ℕ) (j : ℕ) (h : j < 8) where
  at : (s d p q : ℕ) → 2 * (s % 8) + d ≡ p → label (2 * (s % 8) + d + 16 * (s / 8)) ≡ q → candidate metrics costs s d ≡ get_or metrics p 0 + get_or costs q 0
  at s d p q e f = let a = ap (λ n. get_or metrics n 0) e in let b = ap (λ n. get_or costs n 0) f in omega arith

  low_zero : candidate metrics costs j 0 ≡ get_or metrics (2 * j) 0 + get_or costs (get_or labels j 0) 0
  low_zero = at j 0 (2 * j) _ (omega arith) (ap label (omega arith) ∙ (labelled j h).zero_zero)

  low_one : candidate metrics costs j 1 ≡ get_or metrics (2 * j + 1) 0 + get_or costs (15 - get_or labels j 0) 0
  low_one = at j 1 (2 * j + 1) _ (omega arith) (ap label (omega arith) ∙ (labelled j h).one_zero)

  high_zero : candidate metrics costs (j + 8) 0 ≡ get_or metrics (2 * j) 0 + get_or costs (15 - get_or labels j 0) 0
  high_zero = at (j + 8) 0 (2 * j) _ (omega arith) (ap label (omega arith) ∙ (labelled j h).zero_one)

  high_one : candidate metrics costs (j + 8) 1 ≡ get_or metrics (2 * j + 1) 0 + get_or costs (get_or labels j 0) 0
  high_one = at (j + 8) 1 (2 * j + 1) _ (omega arith) (ap label (omega arith) ∙ (labelled j h).one_one)

-- a bit, as the code turns it into a number
pub byte_one : (b : Bool) → bool_byte b ≡ one b
byte_one true = refl
byte_one false = refl

-- a bit, shifted to place j, fits 16 bits
shifted_bit : (b : Bool) (n j : ℕ) → n ≡ one b → j < 8 → n * 2 ^ j % 65536 ≡ n * 2 ^ j
shifted_bit b n j e h =
    let p = pow_below j 8 h in
    let l : n * 2 ^ j < 65536 = go b p e in
    mod-eq_of_lt l
  where
    go : (b : Bool) → 2 ^ j < 256 → n ≡ one b → n * 2 ^ j < 65536
    go true p e = rw e (omega arith)
    go false p e = rw e (omega arith)

-- one more decision bit
pub acc_below : (acc j : ℕ) (b : Bool) (n : ℕ) → n ≡ one b → j < 8 → acc < 2 ^ j → acc + n * 2 ^ j % 65536 < 2 ^ (j + 1)
acc_below acc j b n e h l = rw (shifted_bit b n j e h, add-one j) (go b e)
  where
    go : (b : Bool) → n ≡ one b → acc + n * 2 ^ j < 2 ^ suc j
    go true e = let p = pow-suc 2 j in rw e (omega arith)
    go false e = let p = pow-suc 2 j in rw e (omega arith)

one_below : (b : Bool) → one b < 2
one_below true = lit< tt
one_below false = lit< tt

-- one turn: state s takes its candidate, where those taken before are kept
module _ (metrics costs next after : List ℕ) (acc j : ℕ) (place : ℕ → ℕ) (h : j < 8) (l : acc < 2 ^ j)
    (taken : (t : ℕ) → t < j → Taken metrics costs next acc t (place t))
    (kept : (t : ℕ) → t < j → get_or after (place t) 0 ≡ get_or next (place t) 0)
    (x z o : ℕ) (b : Bool) (n : ℕ) (bit : n ≡ one b) (new : get_or after (place j) 0 ≡ x) (is : x ≡ cond (ltb o z) o z) (which : b ≡ ltb o z)
    (zeros : candidate metrics costs (place j) 0 ≡ z) (ones : candidate metrics costs (place j) 1 ≡ o) where
  pub taken_more : (t : ℕ) → t < j + 1 → Taken metrics costs after (acc + n * 2 ^ j % 65536) t (place t)
  taken_more t g = ⊎_elim old (λ e. let q : j ≡ t = omega arith in subst (λ k. Taken metrics costs after (acc + n * 2 ^ j % 65536) k (place k)) q here) (cases_lt t j)
    where
      sum : acc + n * 2 ^ j % 65536 ≡ acc + n * 2 ^ j
      sum = ap (λ k. acc + k) (shifted_bit b n j bit h)

      old : t < j → Taken metrics costs after (acc + n * 2 ^ j % 65536) t (place t)
      old p = (kept t p ∙ (taken t p).0, ap (λ k. k / 2 ^ t % 2) sum ∙ (bit_kept acc n t j p ∙ (taken t p).1))

      test : ltb o z ≡ ltb (candidate metrics costs (place j) 1) (candidate metrics costs (place j) 0)
      test = cc

      here : Taken metrics costs after (acc + n * 2 ^ j % 65536) j (place j)
      here = (new ∙ (is ∙ cc), ap (λ k. k / 2 ^ j % 2) sum ∙ (bit_new acc n j l (subst (λ k. k < 2) (sym bit) (one_below b)) ∙ (bit ∙ ap one (which ∙ test))))

-- one turn of the step: both states
pub turn : (metrics costs next : List ℕ) (low high j q : ℕ) → j < 8 → q ≡ get_or labels j 0 → low < 2 ^ j → high < 2 ^ j → length next ≡ 16
    → ((t : ℕ) → t < j → Taken metrics costs next low t t) → ((t : ℕ) → t < j → Taken metrics costs next high t (t + 8))
    → (x y : ℕ) (b c : Bool) (m n : ℕ)
    → x ≡ cond (ltb (get_or metrics (2 * j + 1) 0 + get_or costs (15 - q) 0) (get_or metrics (2 * j) 0 + get_or costs q 0)) (get_or metrics (2 * j + 1) 0 + get_or costs (15 - q) 0) (get_or metrics (2 * j) 0 + get_or costs q 0)
    → b ≡ ltb (get_or metrics (2 * j + 1) 0 + get_or costs (15 - q) 0) (get_or metrics (2 * j) 0 + get_or costs q 0)
    → y ≡ cond (ltb (get_or metrics (2 * j + 1) 0 + get_or costs q 0) (get_or metrics (2 * j) 0 + get_or costs (15 - q) 0)) (get_or metrics (2 * j + 1) 0 + get_or costs q 0) (get_or metrics (2 * j) 0 + get_or costs (15 - q) 0)
    → c ≡ ltb (get_or metrics (2 * j + 1) 0 + get_or costs q 0) (get_or metrics (2 * j) 0 + get_or costs (15 - q) 0)
    → m ≡ one b → n ≡ one c
    → ((t : ℕ) → t < j + 1 → Taken metrics costs (set (set next j x) (j + 8) y) (low + m * 2 ^ j % 65536) t t)
    × ((t : ℕ) → t < j + 1 → Taken metrics costs (set (set next j x) (j + 8) y) (high + n * 2 ^ j % 65536) t (t + 8))
turn metrics costs next low high j q h is ll lh len lows highs x y b c m n ix ib iy ic im in_ = (
  taken_more metrics costs next (set (set next j x) (j + 8) y) low j (λ t. t) h ll lows
      (λ t p. get_or-set_other (set next j x) (j + 8) t y 0 (omega arith) ∙ get_or-set_other next j t x 0 (omega arith))
      x _ _ b m im
      (get_or-set_other (set next j x) (j + 8) j y 0 (omega arith) ∙ get_or-set_same next j x 0 (omega arith))
      ix ib (low_zero metrics costs j h ∙ ap (λ n. get_or metrics (2 * j) 0 + get_or costs n 0) (sym is)) (low_one metrics costs j h ∙ ap (λ n. get_or metrics (2 * j + 1) 0 + get_or costs (15 - n) 0) (sym is)),
  taken_more metrics costs next (set (set next j x) (j + 8) y) high j (λ t. t + 8) h lh highs
      (λ t p. get_or-set_other (set next j x) (j + 8) (t + 8) y 0 (omega arith) ∙ get_or-set_other next j (t + 8) x 0 (omega arith))
      y _ _ c n in_
      (get_or-set_same (set next j x) (j + 8) y 0 (omega (arith, length-set next j x)))
      iy ic (high_zero metrics costs j h ∙ ap (λ n. get_or metrics (2 * j) 0 + get_or costs (15 - n) 0) (sym is)) (high_one metrics costs j h ∙ ap (λ n. get_or metrics (2 * j + 1) 0 + get_or costs n 0) (sym is)),
)
