-- The lead: eight bits in front of everything.
use Rattle.std.specs.Prelude.{ℕ, ◌+◌, ◌-◌, Bool, true, false, cond, List, [], ◌∷◌, nat_lt, slice_index_or}
use Rattle.stage.specs.declared.Content.{Content}
use Rattle.stage.specs.declared.Content.TheVariants.{Carried, Fixed}
use Rattle.stage.specs.declared.Marker.{Marker}
use Rattle.stage.specs.Meaning.{Meaning, meaning_of}
use Rattle.layout.specs.Places.{taken, markers_at}

-- the first eight places hold the lead
abbrev pub in_lead : ℕ → Bool
in_lead p = nat_lt p 8

-- its bits, 00101101
abbrev pub lead_bit : ℕ → Bool
lead_bit p = slice_index_or (false ∷ false ∷ true ∷ false ∷ true ∷ true ∷ false ∷ true ∷ []) p false

-- eight more leave than enter
abbrev pub lead_size : ℕ → ℕ
lead_size n = n + 8

-- behind the lead follows what enters, in order
abbrev pub lead_at : ℕ → ℕ → Content
lead_at n p = cond (in_lead p) (Fixed (lead_bit p)) (Carried (p - 8))

abbrev pub lead_meaning : Meaning
lead_meaning = meaning_of taken lead_size lead_at

-- the markers are the eight bits
abbrev pub lead_markers : ℕ → List Marker
lead_markers n = markers_at in_lead lead_bit (lead_size n)
