-- What the rules of all stages are told with: the counts taken, and counting places.
use Rattle.std.specs.Prelude.{ℕ, zero, suc, ◌+◌, ◌*◌, Bool, false, cond, ◌||◌, leb, List, [], ◌∷◌, map, filter, ◌==◌, nat_le}
use Rattle.std.specs.List.{range_with_len}
use Rattle.stage.specs.declared.Marker.{Marker}

-- up to 10,000 incoming elements are taken
abbrev pub taken : ℕ → Bool
taken n = nat_le n 10000

-- a number is one of those listed
abbrev pub is_one_of : ℕ → List ℕ → Bool
is_one_of x [] = false
is_one_of x (y ∷ ys) = x == y || is_one_of x ys

-- how many of the places before p pass a test
abbrev pub how_many : (ℕ → Bool) → ℕ → ℕ
how_many test zero = zero
how_many test (suc p) = cond (test p) (suc (how_many test p)) (how_many test p)

-- how many of so many numbers, the first and each a step further, are at most x
abbrev pub terms_to : ℕ → ℕ → ℕ → ℕ → ℕ
terms_to x first step count = how_many (λ k. leb (first + step * k) x) count

-- the markers of a stream of n places: each place that passes a test, in order, with the bit there
abbrev pub markers_at : (ℕ → Bool) → (ℕ → Bool) → ℕ → List Marker
markers_at test bit n = map (λ p. record { place = p; bit = bit p }) (filter test (range_with_len 0 n))
