-- The burst of a text: what leaves a stage when the text's coded bits enter it.
use Rattle.std.specs.Prelude.{ℕ, Bool, not, List, map, length, Ok, Err, Result, nat_lt}
use Rattle.refusal.specs.declared.Refusal.{Refusal}
use Rattle.refusal.specs.declared.Refusal.TheVariants.{MemoryTooShort, CountNotTaken}
use Rattle.refusal.specs.Answer.{refused_when, text_checked}
use Rattle.code.specs.Coder.{coded_bits, coded_count, coded_bit_answer}
use Rattle.stage.specs.declared.Content.{Content}
use Rattle.stage.specs.declared.Content.TheVariants.{Carried, Inverted, Fixed, Mute as Silence}
use Rattle.stage.specs.declared.Element.{Element}
use Rattle.stage.specs.declared.Element.TheVariants.{Mute}
use Rattle.stage.specs.Elements.{element_of, opposite, leaving}
use Rattle.stage.specs.Meaning.{Meaning}

-- the elements that enter: the text's coded bits, in order
abbrev pub entering : List ℕ → List Element
entering text = map element_of (coded_bits text)

-- the burst of a text through a stage
abbrev pub burst : Meaning → List ℕ → List Element
burst m text = leaving m (entering text)

-- how many elements the burst has
abbrev pub burst_length : Meaning → List ℕ → ℕ
burst_length m text = m.size (coded_count (length text))

-- what writing the burst into so many places of memory answers: its length
abbrev pub write_answer : Meaning → List ℕ → ℕ → Result ℕ Refusal
write_answer m text places =
    text_checked (length text) (refused_when (not (m.takes (coded_count (length text)))) CountNotTaken (refused_when (nat_lt places (burst_length m text)) MemoryTooShort (Ok (burst_length m text))))

-- an answered coded bit made into an element; a refusal stays that refusal
abbrev pub from_bit : (Bool → Element) → Result Bool Refusal → Result Element Refusal
from_bit make (Ok b) = Ok (make b)
from_bit make (Err e) = Err e

-- the element that a content stands for when the text's coded bits enter
abbrev pub element_answer : List ℕ → Content → Result Element Refusal
element_answer text (Carried i) = from_bit element_of (coded_bit_answer text i)
element_answer text (Inverted i) = from_bit (λ b. opposite (element_of b)) (coded_bit_answer text i)
element_answer text (Fixed b) = Ok (element_of b)
element_answer text Silence = Ok Mute
