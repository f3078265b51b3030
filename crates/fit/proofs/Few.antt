-- A stage has at most 32,768 markers: they stand at different places of its outgoing stream.
use Rattle.std.proofs.Common.{◌≡◌, ℕ, zero, suc, ◌<◌, ◌≤◌, true, cond, T, eqb, ◌⊎◌, List, length, get_or, sym, ◌∙◌, inl, inr, ⊎_elim, arith}
use Rattle.std.proofs.lemmas.Bool.{cases_eq, eq-eqb, ne_eqb, cond-true, cond-false}
use Rattle.stage.specs.declared.Marker.{Marker}
use Rattle.stage.specs.Meaning.{Meaning, Homes}
use Rattle.stage.specs.Marked.{Marked, no_marker}

-- f with the value m, if it is taken, given up for the value v
moved : (ℕ → ℕ) → ℕ → ℕ → ℕ → ℕ
moved f m v k = cond (eqb (f k) m) v (f k)

moved_cases : (f : ℕ → ℕ) (m v k : ℕ) → ((f k ≡ m) × (moved f m v k ≡ v)) ⊎ ((f k ≡ m → ⊥) × (moved f m v k ≡ f k))
unfolding moved
moved_cases f m v k =
    ⊎_elim
    (λ e. inl (e, cond-true _ v (f k) (eq-eqb (f k) m e)))
    (λ d. inr (d, cond-false _ v (f k) (ne_eqb (f k) m d)))
    (cases_eq (f k) m)

-- numbers below m that are all different are at most m
pub pigeonhole : (m n : ℕ) (f : ℕ → ℕ) → ((k : ℕ) → k < n → f k < m) → ((j k : ℕ) → j < n → k < n → f j ≡ f k → j ≡ k) → n ≤ m
pigeonhole zero zero f below apart = omega arith
pigeonhole zero (suc n) f below apart = omega (arith, below n (omega arith))
pigeonhole (suc m) zero f below apart = omega arith
pigeonhole (suc m) (suc n) f below apart =
    let g : ℕ → ℕ = moved f m (f n) in
    let g-below : (k : ℕ) → k < n → g k < m =
    λ k h.
    ⊎_elim {C = g k < m}
    (λ w. ⊎_elim {C = g k < m}
    (λ e. omega (arith, apart k n (omega arith) (omega arith) (w.0 ∙ sym e)))
    (λ d. omega (arith, w.1, below n (omega arith), d))
    (cases_eq (f n) m))
    (λ w. omega (arith, w.1, below k (omega arith), w.0))
    (moved_cases f m (f n) k) in
    let g-apart : (j k : ℕ) → j < n → k < n → g j ≡ g k → j ≡ k =
    λ j k p q e.
    ⊎_elim {C = j ≡ k}
    (λ v. ⊎_elim {C = j ≡ k}
    (λ w. apart j k (omega arith) (omega arith) (v.0 ∙ sym w.0))
    (λ w. let no : n ≡ k = apart n k (omega arith) (omega arith) (sym v.1 ∙ e ∙ w.1) in omega arith)
    (moved_cases f m (f n) k))
    (λ v. ⊎_elim {C = j ≡ k}
    (λ w. let no : j ≡ n = apart j n (omega arith) (omega arith) (sym v.1 ∙ e ∙ w.1) in omega arith)
    (λ w. apart j k (omega arith) (omega arith) (sym v.1 ∙ e ∙ w.1))
    (moved_cases f m (f n) k))
    (moved_cases f m (f n) j) in
    let fewer : n ≤ m = pigeonhole m n g g-below g-apart in
    omega arith

pub few_markers : (m : Meaning) (markers : ℕ → List Marker) (n : ℕ) → Homes m → Marked m markers n → m.takes n ≡ true → length (markers n) ≤ 32768
few_markers m markers n homes marked taken =
    let takes : T (m.takes n) = rw taken tt in
    let fewer : length (markers n) ≤ m.size n =
    pigeonhole (m.size n) (length (markers n)) (λ k. (get_or (markers n) k no_marker).place) (λ k h. (marked.1 takes k h).0) (marked.0 takes) in
    omega (arith, homes.most n takes)
