-- A small stage for trials: one fixed bit in front, and all elements inverted behind it.
use Rattle.std.specs.Prelude.{ℕ, ◌+◌, ◌-◌, Bool, cond, List, [], ◌∷◌, ◌==◌, nat_le}
use Rattle.stage.specs.declared.Content.{Content}
use Rattle.stage.specs.declared.Content.TheVariants.{Inverted, Fixed}
use Rattle.stage.specs.declared.Marker.{Marker}
use Rattle.stage.specs.Meaning.{Meaning}

-- the bit in front, and then the elements in order
abbrev pub turned_at : Bool → ℕ → Content
turned_at front p = cond (p == 0) (Fixed front) (Inverted (p - 1))

-- it takes up to 100 elements, and one more leaves it
abbrev pub turned : Bool → Meaning
turned front = record { takes = λ n. nat_le n 100; size = λ n. n + 1; at = λ n p. turned_at front p }

-- the bit in front is its marker
abbrev pub turned_markers : Bool → ℕ → List Marker
turned_markers front n = record { place = 0; bit = front } ∷ []
