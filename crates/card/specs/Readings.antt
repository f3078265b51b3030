-- Card readings: the pair of values that each gives, and what is promised of it.
use Rattle.std.specs.Prelude.{◌≡◌, Bool, true, cond, not, ◌&&◌, ℤ, pos, negsuc, neg_ℤ, ◌≤ℤ◌, Ok, Result, Float}
use Rattle.std.specs.Float.Ieee.{neg, eq, lt}
use Rattle.std.specs.Float.{float_max}
use Rattle.refusal.specs.declared.Refusal.{Refusal}
use Rattle.refusal.specs.declared.Refusal.TheVariants.{ReadingOutOfRange}
use Rattle.refusal.specs.Answer.{refused_when}
use Rattle.card.specs.declared.Levels.{Levels}
use Rattle.card.specs.declared.Reading.{Reading}
use Rattle.card.specs.declared.Reading.TheVariants.{Levels as Measured, Balance, Lost}
use Rattle.card.specs.Floats.{nought, is_level, is_balance, share, strength}

-- ---- the rule

-- all four are levels
abbrev pub in_range : Levels → Bool
in_range l = is_level l.hz400 && is_level l.hz600 && is_level l.hz800 && is_level l.hz1000

-- the elements 00, 01, 10 and 11 sound at 400, 600, 800 and 1000 Hz;
-- the louder of the two tones with a 1 in the first place (`float_max` is the greater of two floats)
abbrev pub first_one : Levels → Float
first_one l = float_max l.hz800 l.hz1000

-- with a 0 in the first place
abbrev pub first_zero : Levels → Float
first_zero l = float_max l.hz400 l.hz600

-- with a 1 in the second place
abbrev pub second_one : Levels → Float
second_one l = float_max l.hz600 l.hz1000

-- with a 0 in the second place
abbrev pub second_zero : Levels → Float
second_zero l = float_max l.hz400 l.hz800

-- the greatest of the four
abbrev pub greatest : Levels → Float
greatest l = float_max (first_zero l) (first_one l)

-- the pair of four levels; where none is above 0 it is 0 and 0
abbrev pub levels_pair : Levels → ℤ × ℤ
levels_pair l =
    cond (eq (greatest l) nought) (pos 0, pos 0)
    (strength (share (first_one l) (first_zero l) (greatest l)), strength (share (second_one l) (second_zero l) (greatest l)))

-- what a reading answers
abbrev pub answer : Reading → Result (ℤ × ℤ) Refusal
answer (Measured l) = refused_when (not (in_range l)) ReadingOutOfRange (Ok (levels_pair l))
answer (Balance x y) = refused_when (not (is_balance x && is_balance y)) ReadingOutOfRange (Ok (strength x, strength y))
answer Lost = Ok (pos 0, pos 0)

-- ---- what holds of every pair that is answered

-- a value lies from -127 to 127
abbrev pub IsValue : ℤ → Type 0
IsValue v = (negsuc 126 ≤ℤ v) × (v ≤ℤ pos 127)

-- one tone sounds, and the three others do not
abbrev pub Only : Float → Float → Float → Float → Type 0
Only tone a b c = (lt nought tone ≡ true) × (eq a nought ≡ true) × (eq b nought ≡ true) × (eq c nought ≡ true)

-- the tones for a 0 and for a 1 in the first place exchanged
abbrev pub first_swapped : Levels → Levels
first_swapped l = record { hz400 = l.hz800; hz600 = l.hz1000; hz800 = l.hz400; hz1000 = l.hz600 }

-- and those in the second place
abbrev pub second_swapped : Levels → Levels
second_swapped l = record { hz400 = l.hz600; hz600 = l.hz400; hz800 = l.hz1000; hz1000 = l.hz800 }

-- where the pair v of the levels l is exact
pub record Exact (l : Levels) (v : ℤ × ℤ) : Type 0 where
  -- a tone that sounds alone, at any level above 0, gives its two elements at full strength
  pub only400 : Only l.hz400 l.hz600 l.hz800 l.hz1000 → v ≡ (negsuc 126, negsuc 126)
  pub only600 : Only l.hz600 l.hz400 l.hz800 l.hz1000 → v ≡ (negsuc 126, pos 127)
  pub only800 : Only l.hz800 l.hz400 l.hz600 l.hz1000 → v ≡ (pos 127, negsuc 126)
  pub only1000 : Only l.hz1000 l.hz400 l.hz600 l.hz800 → v ≡ (pos 127, pos 127)
  -- where the two sides are equally loud the value is 0
  pub first_even : eq (first_one l) (first_zero l) ≡ true → v.0 ≡ pos 0
  pub second_even : eq (second_one l) (second_zero l) ≡ true → v.1 ≡ pos 0
  -- with the two sides exchanged the value is negated, and the other one stays
  pub first_turned : answer (Measured (first_swapped l)) ≡ Ok (neg_ℤ v.0, v.1)
  pub second_turned : answer (Measured (second_swapped l)) ≡ Ok (v.0, neg_ℤ v.1)

-- where the pair v of a reading is exact; negated balances give negated values
abbrev pub ExactOf : Reading → ℤ × ℤ → Type 0
ExactOf (Measured l) v = Exact l v
ExactOf (Balance x y) v = answer (Balance (neg x) (neg y)) ≡ Ok (neg_ℤ v.0, neg_ℤ v.1)
ExactOf Lost v = Unit {0}

-- what is promised of the pair v that a reading gives
pub record Promised (reading : Reading) (v : ℤ × ℤ) : Type 0 where
  pub first_value : IsValue v.0
  pub second_value : IsValue v.1
  pub exact : ExactOf reading v
