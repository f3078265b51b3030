-- What a stage is: its meaning, and what every stage owes.
use Rattle.std.specs.Prelude.{◌≡◌, ℕ, zero, suc, ◌<◌, ◌≤◌, Bool, false, cond, not, T, Ok, Result, ◌==◌, nat_le}
use Rattle.refusal.specs.declared.Refusal.{Refusal}
use Rattle.refusal.specs.declared.Refusal.TheVariants.{NoSuchPlace, CountNotTaken}
use Rattle.refusal.specs.Answer.{refused_when}
use Rattle.stage.specs.declared.Content.{Content}
use Rattle.stage.specs.declared.Content.TheVariants.{Carried, Inverted, Fixed, Mute}

-- A stage's meaning: which counts of incoming elements it takes, how many elements leave it for each,
-- and what stands at each outgoing place.
pub record Meaning : Type 0 where
  pub takes : ℕ → Bool
  pub size : ℕ → ℕ
  pub at : ℕ → ℕ → Content

abbrev pub meaning_of : (ℕ → Bool) → (ℕ → ℕ) → (ℕ → ℕ → Content) → Meaning
meaning_of takes size at = record { takes = takes; size = size; at = at }

-- a content carries incoming element i, as it is or inverted
abbrev pub carries : Content → ℕ → Bool
carries (Carried j) i = j == i
carries (Inverted j) i = j == i
carries (Fixed b) i = false
carries Mute i = false

-- incoming element i stands at place p when n elements enter
abbrev pub Stands : Meaning → ℕ → ℕ → ℕ → Type 0
Stands m n i p = (p < m.size n) × T (carries (m.at n p) i)

-- What every stage owes for each count that it takes: the outgoing length is from n to 32,768,
-- each incoming element stands at exactly one place, and no other element is carried.
pub record Homes (m : Meaning) : Type 0 where
  pub least : (n : ℕ) → T (m.takes n) → n ≤ m.size n
  pub most : (n : ℕ) → T (m.takes n) → m.size n ≤ 32768
  pub incoming : (n i p : ℕ) → T (m.takes n) → Stands m n i p → i < n
  pub somewhere : (n i : ℕ) → T (m.takes n) → i < n → (p : ℕ) × Stands m n i p
  pub once : (n i p q : ℕ) → T (m.takes n) → Stands m n i p → Stands m n i q → p ≡ q

-- the first of so many places that passes a test
abbrev pub first_place : (ℕ → Bool) → ℕ → ℕ
first_place test zero = zero
first_place test (suc n) = cond (test zero) zero (suc (first_place (λ p. test (suc p)) n))

-- the home of incoming element i: the place where it stands
abbrev pub home_of : Meaning → ℕ → ℕ → ℕ
home_of m n i = first_place (λ p. carries (m.at n p) i) (m.size n)

-- what the three questions answer: first whether n is taken, then whether the place or element exists
abbrev pub length_answer : Meaning → ℕ → Result ℕ Refusal
length_answer m n = refused_when (not (m.takes n)) CountNotTaken (Ok (m.size n))

abbrev pub content_answer : Meaning → ℕ → ℕ → Result Content Refusal
content_answer m n p =
    refused_when (not (m.takes n)) CountNotTaken (refused_when (nat_le (m.size n) p) NoSuchPlace (Ok (m.at n p)))

abbrev pub home_answer : Meaning → ℕ → ℕ → Result ℕ Refusal
home_answer m n i =
    refused_when (not (m.takes n)) CountNotTaken (refused_when (nat_le n i) NoSuchPlace (Ok (home_of m n i)))
