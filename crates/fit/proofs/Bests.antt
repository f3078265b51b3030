-- The earliest best start: there is one, there is only one, and how a loop comes to it.
use Rattle.std.proofs.Common.{◌≡◌, ℕ, zero, suc, ◌+◌, ◌<◌, Bool, true, false, ℤ, ◌≤ℤ◌, ◌<ℤ◌, Decides, sym, refl, ap, subst, ⊎_elim, add-one, arith}
use lib.Signed.{le_z}
use Rattle.std.proofs.lemmas.Int.{ints, by_lt_z}
use Rattle.std.proofs.lemmas.Bool.{cases_eq, cases_Bool}
use Rattle.std.proofs.lemmas.Bool.Decides.{Decides-below_and}
use Rattle.stage.specs.Meaning.{first_place}
use Rattle.fit.specs.Fit.{unbeaten, earliest_best, Best}

-- the first place that passes a test
pub first_place_is : (test : ℕ → Bool) (n b : ℕ) → b < n → test b ≡ true → ((k : ℕ) → k < b → test k ≡ false) → first_place test n ≡ b
first_place_is test zero b below passes fail = omega arith
first_place_is test (suc n) zero below passes fail = rw passes
first_place_is test (suc n) (suc b) below passes fail =
    let first : test zero ≡ false = fail zero (omega arith) in
    rw first (ap suc (first_place_is (λ p. test (suc p)) n b (omega arith) passes (λ k h. fail (suc k) (omega arith))))

at_most_test : (a b : ℤ) → Decides (le_z a b) (a ≤ℤ b)
at_most_test a b = ((λ e. grind (arith, ints)), (λ h. grind (arith, ints)))

unbeaten_test : (f : ℕ → ℤ) (n s : ℕ) → Decides (unbeaten f n s) ((k : ℕ) → k < n → f k ≤ℤ f s)
unbeaten_test f n s = Decides-below_and (λ k. le_z (f k) (f s)) (λ k. f k ≤ℤ f s) (λ m. unbeaten f m s) (λ k. at_most_test (f k) (f s)) refl (λ _. refl) n

never_both : (a b : ℤ) → a <ℤ b → b ≤ℤ a → ⊥
never_both a b l m = omega (arith, ints)

-- only one start is the earliest best
pub best_is : (f : ℕ → ℤ) (n b : ℕ) → Best f n b → earliest_best f n ≡ b
best_is f n b best =
    first_place_is (unbeaten f n) n b best.within ((unbeaten_test f n b).1 best.greatest)
    (λ k h. ⊎_elim {C = unbeaten f n k ≡ false}
    (λ yes'. absurd (never_both (f k) (f b) (best.earliest k h) ((unbeaten_test f n k).0 yes' b best.within)))
    (λ no'. no')
    (cases_Bool (unbeaten f n k)))

-- the loop's start and its two steps
best_none : (f : ℕ → ℤ) → Best f 1 0
best_none f =
    record {
      within = omega arith;
      greatest = λ s h. let z : s ≡ 0 = omega arith in rw z (omega (arith, ints));
      earliest = λ s h. absurd (omega arith);
    }

best_keeps : (f : ℕ → ℤ) (n b : ℕ) → Best f n b → f n ≤ℤ f b → Best f (n + 1) b
best_keeps f n b best not_more =
    record {
      within = omega (arith, best.within);
      greatest = λ s h. ⊎_elim {C = f s ≤ℤ f b} (λ e. rw e not_more) (λ d. best.greatest s (omega arith)) (cases_eq s n);
      earliest = best.earliest;
    }

best_takes : (f : ℕ → ℤ) (n b : ℕ) → Best f n b → f b <ℤ f n → Best f (n + 1) n
best_takes f n b best more =
    record {
      within = omega arith;
      greatest = λ s h. ⊎_elim {C = f s ≤ℤ f n} (λ e. rw e (omega (arith, ints))) (λ d. let below : f s ≤ℤ f b = best.greatest s (omega arith) in omega (arith, ints)) (cases_eq s n);
      earliest = λ s h. let below : f s ≤ℤ f b = best.greatest s h in omega (arith, ints);
    }

-- there is one
some_best : (f : ℕ → ℤ) (n : ℕ) → (b : ℕ) × Best f (suc n) b
some_best f zero = (0, best_none f)
some_best f (suc n) =
    let before = some_best f n in
    by_lt_z (f before.0) (f (suc n))
    (λ more. (suc n, rw (← add-one (suc n)) (best_takes f (suc n) before.0 before.1 more)))
    (λ less. (before.0, rw (← add-one (suc n)) (best_keeps f (suc n) before.0 before.1 less)))

pub best_stands : (f : ℕ → ℤ) (n : ℕ) → 0 < n → Best f n (earliest_best f n)
best_stands f zero some = absurd (omega arith)
best_stands f (suc n) some =
    let one = some_best f n in
    subst (λ b. Best f (suc n) b) (sym (best_is f (suc n) one.0 one.1)) one.1
