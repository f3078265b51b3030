-- What the costs of a step's four coded bits are bounded by.
use Rattle.std.proofs.Common.{◌≡◌, ℕ, zero, suc, ◌+◌, ◌-◌, ◌*◌, ◌<◌, ◌≤◌, Bool, true, false, subst, ⊎_elim, arith}
use Rattle.std.proofs.lemmas.Bool.{cases_lt}
use Rattle.distance.specs.Trellis.{Bounded}

-- both costs of a coded bit are small
abbrev pub Small : (ℕ → Bool → ℕ) → ℕ → ℕ → Type 0
Small cost b i = (cost i false ≤ b) × (cost i true ≤ b)

-- four more coded bits
pub bounded_more : (cost : ℕ → Bool → ℕ) (k b : ℕ) → Small cost b (4 * k) → Small cost b (4 * k + 1) → Small cost b (4 * k + 2) → Small cost b (4 * k + 3)
    → Bounded cost k b → Bounded cost (k + 1) b
bounded_more cost k b s0 s1 s2 s3 h i l x = ⊎_elim (λ g. h i g x) (λ g. either x (go (i - 4 * k) (omega arith))) (cases_lt i (4 * k))
  where
    either : (x : Bool) → Small cost b i → cost i x ≤ b
    either false s = s.0
    either true s = s.1

    at : (j : ℕ) → j ≡ i → Small cost b j → Small cost b i
    at j e s = subst (Small cost b) e s

    go : (t : ℕ) → 4 * k + t ≡ i → Small cost b i
    go zero e = at (4 * k) (omega arith) s0
    go (suc zero) e = at (4 * k + 1) (omega arith) s1
    go (suc (suc zero)) e = at (4 * k + 2) (omega arith) s2
    go (suc (suc (suc zero))) e = at (4 * k + 3) (omega arith) s3
    go (suc (suc (suc (suc t)))) e = absurd (omega arith)

-- a cost that is told in 16 bits is small
pub told_small : (cost : ℕ → Bool → ℕ) (i x y : ℕ) → x ≡ cost i false → y ≡ cost i true → x < 65536 → y < 65536 → Small cost 65535 i
told_small cost i x y p q l h = (omega arith, omega arith)
