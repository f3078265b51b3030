-- A test at every number below a bound, which antt computes.
use Rattle.std.proofs.Common.{ℕ, zero, suc, ◌<◌, Bool, true, false, T, inl, inr, not-suc-le-zero, arith}
use Rattle.std.proofs.lemmas.Bool.{cases_order}

abbrev pub both : Bool → Bool → Bool
both true b = b
both false b = false

both_left : (a b : Bool) → T (both a b) → T a
both_left true b t = tt
both_left false b t = t

both_right : (a b : Bool) → T (both a b) → T b
both_right true b t = t
both_right false b t = absurd t

-- the test passes at each number below n
abbrev pub everywhere : (ℕ → Bool) → ℕ → Bool
everywhere f zero = true
everywhere f (suc n) = both (f n) (everywhere f n)

pub at : (f : ℕ → Bool) (n : ℕ) → T (everywhere f n) → (k : ℕ) → k < n → T (f k)
at f zero t k h = absurd (not-suc-le-zero h)
at f (suc n) t k h =
    elim (cases_order k n) [
      | inl same ↦ rw same (both_left (f n) (everywhere f n) t)
      | inr (inl less) ↦ at f n (both_right (f n) (everywhere f n) t) k less
      | inr (inr more) ↦ absurd (omega arith)
    ]
