use Rattle.std.proofs.Common.{sym, ap}
use Rattle.refusal.specs.Table.{sentence_of}
use Rattle.refusal.proofs.Refusal.sentence.Goals as goal

pub returns-in-EmptyText : goal.returns-in-EmptyText
returns-in-EmptyText c = sym (ap sentence_of c.in-EmptyText.is)

pub returns-in-TextTooLong : goal.returns-in-TextTooLong
returns-in-TextTooLong c = sym (ap sentence_of c.in-TextTooLong.is)

pub returns-in-MemoryTooShort : goal.returns-in-MemoryTooShort
returns-in-MemoryTooShort c = sym (ap sentence_of c.in-MemoryTooShort.is)

pub returns-in-ValueOutOfRange : goal.returns-in-ValueOutOfRange
returns-in-ValueOutOfRange c = sym (ap sentence_of c.in-ValueOutOfRange.is)

pub returns-in-CapacityExceeded : goal.returns-in-CapacityExceeded
returns-in-CapacityExceeded c = sym (ap sentence_of c.in-CapacityExceeded.is)

pub returns-in-NoSuchPlace : goal.returns-in-NoSuchPlace
returns-in-NoSuchPlace c = sym (ap sentence_of c.in-NoSuchPlace.is)

pub returns-in-BurstNotHeard : goal.returns-in-BurstNotHeard
returns-in-BurstNotHeard c = sym (ap sentence_of c.in-BurstNotHeard.is)

pub returns-in-NoMarker : goal.returns-in-NoMarker
returns-in-NoMarker c = sym (ap sentence_of c.in-NoMarker.is)

pub returns-in-PoorFit : goal.returns-in-PoorFit
returns-in-PoorFit c = sym (ap sentence_of c.in-PoorFit.is)

pub returns-in-CountNotTaken : goal.returns-in-CountNotTaken
returns-in-CountNotTaken c = sym (ap sentence_of c.in-CountNotTaken.is)

pub returns-in-BadElements : goal.returns-in-BadElements
returns-in-BadElements c = sym (ap sentence_of c.in-BadElements.is)

pub returns-in-ReadingOutOfRange : goal.returns-in-ReadingOutOfRange
returns-in-ReadingOutOfRange c = sym (ap sentence_of c.in-ReadingOutOfRange.is)

pub returns-in-BadLine : goal.returns-in-BadLine
returns-in-BadLine c = sym (ap sentence_of c.in-BadLine.is)
