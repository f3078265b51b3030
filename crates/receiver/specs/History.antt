-- Whole histories of calls: what each is answered, and what is held and left in memory, from the length of the value
-- memory and the calls alone.
use Rattle.std.specs.Prelude.{◌≡◌, ℕ, ◌+◌, ◌*◌, ◌<◌, ◌≤◌, List, [], ◌∷◌, length, take, ℤ, pos, ◌≤ℤ◌, ◌<ℤ◌, Ok, Err, fold, Result, slice_index_or}
use Rattle.refusal.specs.declared.Refusal.{Refusal}
use Rattle.code.specs.Coder.{coded_count}
use Rattle.stage.specs.declared.Marker.{Marker}
use Rattle.stage.specs.Meaning.{Meaning}
use Rattle.fit.specs.Fit.{fit}
use Rattle.receiver.specs.State.{State, opened, Request, begins, hears, loses, finds, reads, hear_answer, lose_answer, find_answer, next, laid}
use Rattle.receiver.specs.Reading.{read_answer, ReadWell}
use Rattle.receiver.specs.declared.history.Call.{Call}
use Rattle.receiver.specs.declared.history.Call.TheVariants.{Begin, Hear, Lose, Find}
use Rattle.receiver.specs.declared.history.Accepted.{Accepted}
use Rattle.receiver.specs.declared.history.Accepted.TheVariants.{Done, Found}

-- what a call is answered
pub data Reply : Type 0 where
  -- the number of the refusal is that of the table
  refused : Refusal → Reply
  done : Reply
  found : (start : ℕ) → (fit : ℤ) → Reply
  -- the text that was written, and its distance
  told : (text : List ℕ) → (distance : ℤ) → Reply

abbrev pub answered : {A : Type 0} → (A → Reply) → Result A Refusal → Reply
answered accepted (Ok x) = accepted x
answered accepted (Err e) = refused e

-- what a receiver with so much room that holds this answers
abbrev pub reply : ℕ → State → Request → Reply
reply room s begins = done
reply room s (hears heard) = answered (λ _. done) (hear_answer room s heard)
reply room s (loses place n) = answered (λ _. done) (lose_answer s place n)
reply room s (finds pile markers m) = answered (λ best. found best.0 best.1) (find_answer s pile markers m)
reply room s (reads pile m text work) = answered (λ read. told read.0 read.1) (read_answer s pile m text work)

-- what is held after a list of calls
abbrev pub state_after : ℕ → State → List Request → State
state_after room s calls = fold (next room) s calls

-- what each of a list of calls is answered
abbrev pub replies : ℕ → State → List Request → List Reply
replies room s [] = []
replies room s (c ∷ cs) = reply room s c ∷ replies room (next room s c) cs

-- all value memory after a list of calls
abbrev pub memory_after : ℕ → State → List ℤ → List Request → List ℤ
memory_after room s memory [] = memory
memory_after room s memory (c ∷ cs) = memory_after room (next room s c) (laid (next room s c).standing memory) cs

-- an accepted find: the whole burst was heard at its start, every other such start has at most that fit, every earlier
-- one less, and the fit is at least 64 times the markers
pub record FoundWell (s : State) (pile : Meaning) (markers : List Marker) (n start : ℕ) (greatest : ℤ) : Type 0 where
  pub heard : start + pile.size n ≤ length s.standing
  pub fit_is : greatest ≡ fit s.standing markers start
  pub most : (other : ℕ) → other + pile.size n ≤ length s.standing → fit s.standing markers other ≤ℤ greatest
  pub earliest : (other : ℕ) → other < start → fit s.standing markers other <ℤ greatest
  pub enough : pos (64 * length markers) ≤ℤ greatest

-- what an accepted call has to show besides its answer, where what is held before it is this
abbrev pub FindShows : State → Meaning → (ℕ → List Marker) → ℕ → Reply → Type 0
FindShows s pile markers m (found start greatest) = FoundWell s pile (markers (coded_count m)) (coded_count m) start greatest
FindShows s pile markers m (refused e) = Unit {0}
FindShows s pile markers m done = ⊥
FindShows s pile markers m (told text apart) = ⊥

abbrev pub ReadShows : State → Meaning → ℕ → Reply → Type 0
ReadShows s pile m (told text apart) = ReadWell s pile m text apart
ReadShows s pile m (refused e) = Unit {0}
ReadShows s pile m done = ⊥
ReadShows s pile m (found start greatest) = ⊥

abbrev pub Shows : State → Request → Reply → Type 0
Shows s begins r = Unit {0}
Shows s (hears heard) r = Unit {0}
Shows s (loses place n) r = Unit {0}
Shows s (finds pile markers m) r = FindShows s pile markers m r
Shows s (reads pile m text work) r = ReadShows s pile m r

-- the law over histories: each call of a list shows this of its answer, whatever came before it
abbrev pub Lawful : ℕ → List Request → List Reply → Type 0
Lawful room calls answers =
    (k : ℕ) → k < length calls → Shows (state_after room opened (take k calls)) (slice_index_or calls k begins) (slice_index_or answers k done)

-- a call of the code as data, by the meaning and the markers of its pile
abbrev pub as_request : {M : Type 0} → (M → Meaning) → (M → ℕ → List Marker) → Call M → Request
as_request meaning markers Begin = begins
as_request meaning markers (Hear heard) = hears heard.now
as_request meaning markers (Lose place n) = loses place n
as_request meaning markers (Find pile m) = finds (meaning pile.now) (markers pile.now) m

-- an answer of the code, case by case
abbrev pub as_reply : Result Accepted Refusal → Reply
as_reply (Ok Done) = done
as_reply (Ok (Found greatest start)) = found start greatest
as_reply (Err e) = refused e
