-- Elements on their way: what leaves a stage when given elements enter it.
use Rattle.std.specs.Prelude.{ℕ, Bool, true, false, not, List, map, length, slice_index_or}
use Rattle.std.specs.List.{range_with_len}
use Rattle.stage.specs.declared.Content.{Content}
use Rattle.stage.specs.declared.Content.TheVariants.{Carried, Inverted, Fixed, Mute as Silence}
use Rattle.stage.specs.declared.Element.{Element}
use Rattle.stage.specs.declared.Element.TheVariants.{Zero, One, Mute}
use Rattle.stage.specs.Meaning.{Meaning}

-- the octet that stands for an element in memory
abbrev pub octet_of : Element → ℕ
octet_of Zero = 0
octet_of One = 1
octet_of Mute = 2

-- the element of a bit
abbrev pub element_of : Bool → Element
element_of false = Zero
element_of true = One

-- an element inverted; an inverted mute is a mute
abbrev pub opposite : Element → Element
opposite Zero = One
opposite One = Zero
opposite Mute = Mute

-- a content inverted: whatever stands there is inverted
abbrev pub inverse : Content → Content
inverse (Carried i) = Inverted i
inverse (Inverted i) = Carried i
inverse (Fixed b) = Fixed (not b)
inverse Silence = Silence

-- the element that stands where a stage has this content, when these elements enter
abbrev pub evaluated : List Element → Content → Element
evaluated entering (Carried i) = slice_index_or entering i Mute
evaluated entering (Inverted i) = opposite (slice_index_or entering i Mute)
evaluated entering (Fixed b) = element_of b
evaluated entering Silence = Mute

-- what leaves a stage when these elements enter: at each outgoing place its content, evaluated
abbrev pub leaving : Meaning → List Element → List Element
leaving m entering =
    map (λ p. evaluated entering (m.at (length entering) p)) (range_with_len 0 (m.size (length entering)))
