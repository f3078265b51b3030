-- The coder's steps: what the register holds, and which coded bits a step gives.
use Rattle.std.proofs.Common.{◌≡◌, ℕ, suc, ◌+◌, ◌-◌, ◌*◌, ◌/◌, ◌%◌, ◌<◌, Bool, false, cond, ltb, List, [], ◌∷◌, map, get_or, take, sym, refl, ap, ◌∙◌, mul_comm, arith, lit<}
use Rattle.std.specs.List.{range_with_len}
use Rattle.std.proofs.lemmas.Nat.{div-mul-add, mod-mul-add}
use Rattle.std.proofs.lemmas.Bool.Decides.{nat_tests}
use Rattle.code.specs.Coder.{before, coded, parity, sums}
use Rattle.code.specs.Register.{latest, shifted_in, four_sums}

-- sum j over the register after step k is the coded bit at 4k + j
sum_gives : (b : ℕ → Bool) (k j : ℕ) → j < 4 → parity (map (before b k) (get_or sums j [])) ≡ coded b (4 * k + j)
sum_gives b k j h =
    sym (λ i. parity (map (before b ((ap (λ x. (x + j) / 4) (mul_comm 4 k) ∙ div-mul-add k 4 j h) i)) (get_or sums ((ap (λ x. (x + j) % 4) (mul_comm 4 k) ∙ mod-mul-add k 4 j h) i) [])))

-- the four sums over the register after step k are its coded bits
pub step_gives : (b : ℕ → Bool) (k : ℕ) → four_sums (latest b k) ≡ map (λ j. coded b (4 * k + j)) (range_with_len 0 4)
step_gives b k i =
    sum_gives b k 0 (lit< tt) i ∷ sum_gives b k 1 (lit< tt) i ∷ sum_gives b k 2 (lit< tt) i ∷ sum_gives b k 3 (lit< tt) i ∷ []

-- what the register holds before step k
abbrev pub held : (ℕ → Bool) → ℕ → List Bool
held b k = map (λ d. before b k (suc d)) (range_with_len 0 5)

before_now : (b : ℕ → Bool) (k : ℕ) → before b k 0 ≡ b k
before_now b k =
    let none : ltb k 0 ≡ false = grind (arith, nat_tests) in
    let here : k - 0 ≡ k = omega arith in
    λ i. cond (none i) false (b (here i))

before_next : (b : ℕ → Bool) (k d e : ℕ) → d + 1 ≡ e → before b (k + 1) e ≡ before b k d
before_next b k d e h =
    let test : ltb (k + 1) e ≡ ltb k d = grind (arith, nat_tests) in
    let place : k + 1 - e ≡ k - d = omega arith in
    λ i. cond (test i) false (b (place i))

-- the bit of step k comes in
pub held_shifted : (b : ℕ → Bool) (k : ℕ) → shifted_in (b k) (held b k) ≡ latest b k
held_shifted b k = ap (λ x. x ∷ take 4 (held b k)) (sym (before_now b k))

-- what step k leaves is what step k + 1 finds
pub latest_held : (b : ℕ → Bool) (k : ℕ) → latest b k ≡ held b (k + 1)
latest_held b k =
    sym
    (λ i. before_next b k 0 1 refl i ∷ before_next b k 1 2 refl i ∷ before_next b k 2 3 refl i ∷ before_next b k 3 4 refl i ∷ before_next b k 4 5 refl i ∷ [])
