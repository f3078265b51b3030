-- The inserter: mutes and a resynchronisation sequence come between the elements, in periods of 384 places.
use Rattle.std.specs.Prelude.{ℕ, zero, suc, ◌+◌, ◌-◌, ◌*◌, ◌/◌, ◌%◌, Bool, true, false, cond, not, ◌&&◌, List, [], ◌∷◌, map, nat_le, slice_index_or}
use Rattle.std.specs.List.{range_with_len, flat_map}
use Rattle.stage.specs.declared.Content.{Content}
use Rattle.stage.specs.declared.Content.TheVariants.{Carried, Fixed, Mute}
use Rattle.stage.specs.declared.Marker.{Marker}
use Rattle.stage.specs.Meaning.{Meaning, meaning_of, carries, first_place}
use Rattle.layout.specs.Places.{taken, is_one_of, how_many, markers_at}

-- the places of the mutes in a period: 7 + 8a + 15b, with a from 0 to 3 and b from 0 to 7
abbrev pub mutes : List ℕ
mutes = flat_map (λ b. map (λ a. 7 + 8 * a + 15 * b) (range_with_len 0 4)) (range_with_len 0 8)

-- the resynchronisation sequence, 01010110 01101110 11010010 01110001
abbrev pub resynchronisation : List Bool
resynchronisation =
    false ∷ true ∷ false ∷ true ∷ false ∷ true ∷ true ∷ false ∷ false ∷ true ∷ true ∷ false ∷ true ∷ true ∷ true ∷ false ∷ true ∷ true ∷ false ∷ true ∷ false ∷ false ∷ true ∷ false ∷ false ∷ true ∷ true ∷ true ∷ false ∷ false ∷ false ∷ true ∷ []

-- a place is a mute
abbrev pub is_mute : ℕ → Bool
is_mute p = is_one_of (p % 384) mutes

-- the last 32 places of a period hold the resynchronisation sequence
abbrev pub is_resync : ℕ → Bool
is_resync p = nat_le 352 (p % 384)

abbrev pub resync_bit : ℕ → Bool
resync_bit p = slice_index_or resynchronisation (p % 384 - 352) false

-- the other places carry elements
abbrev pub is_carrier : ℕ → Bool
is_carrier p = not (is_mute p) && not (is_resync p)

-- what stands at a place: a carrier has the next element, one for each carrier before it
abbrev pub inserter_at : ℕ → ℕ → Content
inserter_at n p =
    cond (is_mute p) Mute (cond (is_resync p) (Fixed (resync_bit p)) (Carried (how_many is_carrier p)))

-- the stream ends with the last element, which lies within so many periods: nothing is inserted behind it
abbrev pub inserter_size : ℕ → ℕ
inserter_size zero = zero
inserter_size (suc last) = suc (first_place (λ p. carries (inserter_at (suc last) p) last) (384 * suc (last / 320)))

abbrev pub inserter_meaning : Meaning
inserter_meaning = meaning_of taken inserter_size inserter_at

-- the markers are the resynchronisation sequences
abbrev pub inserter_markers : ℕ → List Marker
inserter_markers n = markers_at is_resync resync_bit (inserter_size n)
