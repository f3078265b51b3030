-- How well a pile's markers fit the values heard, and the start at which they fit best.
use Rattle.std.specs.Prelude.{ℕ, zero, suc, ◌+◌, ◌-◌, ◌*◌, ◌<◌, Bool, true, cond, not, ◌&&◌, List, length, ℤ, pos, ◌+ℤ◌, neg_ℤ, ◌≤ℤ◌, ◌<ℤ◌, Ok, fold, Result, ◌==◌, int_le, int_lt, nat_lt, slice_index_or}
use Rattle.refusal.specs.declared.Refusal.{Refusal}
use Rattle.refusal.specs.declared.Refusal.TheVariants.{BurstNotHeard, NoMarker, PoorFit, CountNotTaken}
use Rattle.refusal.specs.Answer.{refused_when}
use Rattle.stage.specs.declared.Marker.{Marker}
use Rattle.stage.specs.Meaning.{Meaning, first_place}

-- how far the value at a marker's place, counted from a start, speaks for the marker's bit:
-- the value itself for bit 1, its negative for bit 0
abbrev pub agreement : List ℤ → ℕ → Marker → ℤ
agreement values start marker =
    cond marker.bit (slice_index_or values (start + marker.place) (pos 0)) (neg_ℤ (slice_index_or values (start + marker.place) (pos 0)))

-- the fit at a start: the sum over the markers
abbrev pub fit : List ℤ → List Marker → ℕ → ℤ
fit values markers start = fold (λ sum marker. sum +ℤ agreement values start marker) (pos 0) markers

-- none of the first n starts has a greater fit than start s
abbrev pub unbeaten : (ℕ → ℤ) → ℕ → ℕ → Bool
unbeaten f zero s = true
unbeaten f (suc n) s = int_le (f n) (f s) && unbeaten f n s

-- the earliest of the first n starts with the greatest fit
abbrev pub earliest_best : (ℕ → ℤ) → ℕ → ℕ
earliest_best f n = first_place (unbeaten f n) n

-- start b is among the first n, none of them has a greater fit, and every earlier one has less
pub record Best (f : ℕ → ℤ) (n b : ℕ) : Type 0 where
  pub within : b < n
  pub greatest : (s : ℕ) → s < n → f s ≤ℤ f b
  pub earliest : (s : ℕ) → s < b → f s <ℤ f b

-- how many starts have a whole burst of so many places among so many values: from 0 to values - places
abbrev pub starts : ℕ → ℕ → ℕ
starts values places = suc values - places

-- the best of the first n starts with its fit
abbrev pub best_of : (ℕ → ℤ) → ℕ → ℕ × ℤ
best_of f n = (earliest_best f n, f (earliest_best f n))

-- a start is taken if its fit is at least 64 times the markers
abbrev pub fits_well : ℕ → ℕ × ℤ → Result (ℕ × ℤ) Refusal
fits_well markers best = refused_when (int_lt best.1 (pos (64 * markers))) PoorFit (Ok best)

-- where a burst of n elements through a pile stands best among the values heard, and its fit there
abbrev pub best_start_answer : Meaning → (ℕ → List Marker) → ℕ → List ℤ → Result (ℕ × ℤ) Refusal
best_start_answer pile markers n values =
    refused_when (not (pile.takes n)) CountNotTaken
    (refused_when (nat_lt (length values) (pile.size n)) BurstNotHeard
    (refused_when (length (markers n) == 0) NoMarker
    (fits_well (length (markers n)) (best_of (fit values (markers n)) (starts (length values) (pile.size n))))))
