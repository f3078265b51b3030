-- What a marked stage tells besides: its markers.
use Rattle.std.specs.Prelude.{◌≡◌, ℕ, ◌<◌, false, not, T, List, length, get_or, Ok, Result, nat_le, slice_index_or}
use Rattle.refusal.specs.declared.Refusal.{Refusal}
use Rattle.refusal.specs.declared.Refusal.TheVariants.{NoSuchPlace, CountNotTaken}
use Rattle.refusal.specs.Answer.{refused_when}
use Rattle.stage.specs.declared.Content.TheVariants.{Fixed}
use Rattle.stage.specs.declared.Marker.{Marker}
use Rattle.stage.specs.Meaning.{Meaning}

-- stands in for a marker past the last
abbrev pub no_marker : Marker
no_marker = record { place = 0; bit = false }

-- no two markers share a place
abbrev pub Apart : Meaning → (ℕ → List Marker) → ℕ → Type 0
Apart m markers n =
    T (m.takes n) → (j k : ℕ) → j < length (markers n) → k < length (markers n) → (get_or (markers n) j no_marker).place ≡ (get_or (markers n) k no_marker).place → j ≡ k

-- at each marker's place the stage's content is the marker's bit
abbrev pub Told : Meaning → (ℕ → List Marker) → ℕ → Type 0
Told m markers n =
    T (m.takes n) → (k : ℕ) → k < length (markers n) → ((get_or (markers n) k no_marker).place < m.size n) × (m.at n (get_or (markers n) k no_marker).place ≡ Fixed (get_or (markers n) k no_marker).bit)

-- what holds of a stage's markers: they stand apart, and each place holds its marker's bit
abbrev pub Marked : Meaning → (ℕ → List Marker) → ℕ → Type 0
Marked m markers n = Apart m markers n × Told m markers n

-- what the two questions answer: first whether n is taken, then whether the marker exists
abbrev pub count_answer : Meaning → (ℕ → List Marker) → ℕ → Result ℕ Refusal
count_answer m markers n = refused_when (not (m.takes n)) CountNotTaken (Ok (length (markers n)))

abbrev pub marker_answer : Meaning → (ℕ → List Marker) → ℕ → ℕ → Result Marker Refusal
marker_answer m markers n k =
    refused_when (not (m.takes n)) CountNotTaken (refused_when (nat_le (length (markers n)) k) NoSuchPlace (Ok (slice_index_or (markers n) k no_marker)))
