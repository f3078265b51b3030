-- The table of refusals: the number of each, and the sentence that is printed for it.
use Rattle.std.specs.Prelude.{ℕ, List, codes}
use Rattle.refusal.specs.declared.Refusal.{Refusal}
use Rattle.refusal.specs.declared.Refusal.TheVariants.{EmptyText, TextTooLong, MemoryTooShort, ValueOutOfRange, CapacityExceeded, NoSuchPlace, BurstNotHeard, NoMarker, PoorFit, CountNotTaken, BadElements, ReadingOutOfRange, BadLine}

-- the number that an operator and a log see
abbrev pub number_of : Refusal → ℕ
number_of EmptyText = 1
number_of TextTooLong = 2
number_of MemoryTooShort = 3
number_of ValueOutOfRange = 4
number_of CapacityExceeded = 5
number_of NoSuchPlace = 6
number_of BurstNotHeard = 7
number_of NoMarker = 8
number_of PoorFit = 9
number_of CountNotTaken = 10
number_of BadElements = 11
number_of ReadingOutOfRange = 12
number_of BadLine = 13

-- the sentence that is printed
abbrev pub sentence_of : Refusal → List ℕ
sentence_of EmptyText = codes "the text has no octet"
sentence_of TextTooLong = codes "the text has more than 240 octets"
sentence_of MemoryTooShort = codes "the output or working memory is too short"
sentence_of ValueOutOfRange = codes "a value is -128; values lie from -127 to 127"
sentence_of CapacityExceeded = codes "the receiver has no room for so many values"
sentence_of NoSuchPlace = codes "the named place or item does not exist"
sentence_of BurstNotHeard = codes "the whole burst has not been heard"
sentence_of NoMarker = codes "the pile has no marker to find a burst by"
sentence_of PoorFit = codes "no start fits the markers well enough"
sentence_of CountNotTaken = codes "the stage or pile does not take that many elements"
sentence_of BadElements = codes "the elements have an odd count or an octet above 2"
sentence_of ReadingOutOfRange = codes "a level or balance is outside its range"
sentence_of BadLine = codes "a line of the values file is bad"
