-- Sums over the places below n.
use Rattle.std.proofs.Common.{◌≡◌, ℕ, zero, suc, ◌+◌, ◌*◌, ◌<◌, ◌≤◌, sym, refl, ap, mul-zero, arith}
use Rattle.distance.specs.Nearest.{total}

pub total_ext : (n : ℕ) (f g : ℕ → ℕ) → ((i : ℕ) → i < n → f i ≡ g i) → total n f ≡ total n g
total_ext zero f g h = refl
total_ext (suc n) f g h =
    let e : total n f ≡ total n g = total_ext n f g (λ i l. h i (omega arith)) in
    let l : f n ≡ g n = h n (omega arith) in
    omega arith

pub total_le : (n : ℕ) (f g : ℕ → ℕ) → ((i : ℕ) → i < n → f i ≤ g i) → total n f ≤ total n g
total_le zero f g h = omega arith
total_le (suc n) f g h =
    let e : total n f ≤ total n g = total_le n f g (λ i l. h i (omega arith)) in
    let l : f n ≤ g n = h n (omega arith) in
    omega arith

pub total_add : (n : ℕ) (f g : ℕ → ℕ) → total n (λ i. f i + g i) ≡ total n f + total n g
total_add zero f g = refl
total_add (suc n) f g = let e = total_add n f g in omega arith

pub total_times : (n a : ℕ) (f : ℕ → ℕ) → total n (λ i. a * f i) ≡ a * total n f
total_times zero a f = sym (mul-zero a)
total_times (suc n) a f = let e = total_times n a f in omega arith

pub total_bound : (n b : ℕ) (f : ℕ → ℕ) → ((i : ℕ) → i < n → f i ≤ b) → total n f ≤ n * b
total_bound zero b f h = omega arith
total_bound (suc n) b f h =
    let e = total_bound n b f (λ i l. h i (omega arith)) in
    let l = h n (omega arith) in
    omega arith

pub total_four : (n : ℕ) (f : ℕ → ℕ)
    → total (4 * n) f ≡ total n (λ j. (f (4 * j) + f (4 * j + 1)) + (f (4 * j + 2) + f (4 * j + 3)))
total_four zero f = refl
total_four (suc n) f =
    let e = total_four n f in
    let s : 4 * suc n ≡ suc (suc (suc (suc (4 * n)))) = omega arith in
    let a : f (suc (4 * n)) ≡ f (4 * n + 1) = ap f (omega arith) in
    let b : f (suc (suc (4 * n))) ≡ f (4 * n + 2) = ap f (omega arith) in
    let c : f (suc (suc (suc (4 * n)))) ≡ f (4 * n + 3) = ap f (omega arith) in
    rw s (omega arith)
