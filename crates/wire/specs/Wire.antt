-- The wire: it passes all elements on.
use Rattle.std.specs.Prelude.{ℕ, List, [], nat_le}
use Rattle.stage.specs.declared.Content.TheVariants.{Carried}
use Rattle.stage.specs.declared.Marker.{Marker}
use Rattle.stage.specs.Meaning.{Meaning}

-- it takes up to 10,000 elements, and each stands where it stood
abbrev pub wire : Meaning
wire = record { takes = λ n. nat_le n 10000; size = λ n. n; at = λ n p. Carried p }

-- it has no markers
abbrev pub wire_markers : ℕ → List Marker
wire_markers n = []
