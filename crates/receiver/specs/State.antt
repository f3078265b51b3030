-- What a receiver holds, and what each of its calls answers.
use Rattle.std.specs.Prelude.{ℕ, ◌+◌, min, Bool, false, cond, ◌||◌, List, [], ◌∷◌, ◌++◌, length, take, drop, replicate, ℤ, pos, negsuc, is_ok, Ok, Err, Result, ◌==◌, nat_lt}
use Rattle.refusal.specs.declared.Refusal.{Refusal}
use Rattle.refusal.specs.declared.Refusal.TheVariants.{ValueOutOfRange, CapacityExceeded, NoSuchPlace}
use Rattle.refusal.specs.Answer.{refused_when, text_checked}
use Rattle.code.specs.Coder.{coded_count}
use Rattle.stage.specs.declared.Marker.{Marker}
use Rattle.stage.specs.Meaning.{Meaning}
use Rattle.fit.specs.Fit.{best_start_answer}

-- the values standing, in the order in which they were heard, and the start; the count is how many values stand
pub record State : Type 0 where
  pub standing : List ℤ
  pub start : ℕ

-- a receiver just opened holds no value, and its start is 0
abbrev pub opened : State
opened = record { standing = []; start = 0 }

-- how many values a receiver can hold over so much memory
abbrev pub capacity : ℕ → ℕ
capacity memory = min memory 32768

-- a value is from -127 to 127: of the octets in two's complement only -128 is none
abbrev pub out_of_range : ℤ → Bool
out_of_range (pos v) = false
out_of_range (negsuc v) = v == 127

abbrev pub some_out_of_range : List ℤ → Bool
some_out_of_range [] = false
some_out_of_range (v ∷ vs) = out_of_range v || some_out_of_range vs

-- hearing: every value first, then whether there is room for all
abbrev pub hear_answer : ℕ → State → List ℤ → Result (Unit {0}) Refusal
hear_answer room s heard =
    refused_when (some_out_of_range heard) ValueOutOfRange
    (refused_when (nat_lt room (length s.standing + length heard)) CapacityExceeded (Ok tt))

-- losing n values from a place on: all of them have to stand
abbrev pub lose_answer : State → ℕ → ℕ → Result (Unit {0}) Refusal
lose_answer s place n = refused_when (nat_lt (length s.standing) (place + n)) NoSuchPlace (Ok tt)

-- n values from a place on set to 0
abbrev pub erased : List ℤ → ℕ → ℕ → List ℤ
erased values place n = take place values ++ (replicate n (pos 0) ++ drop (place + n) values)

-- finding a burst of m octets: the earliest of the best starts and the fit there
abbrev pub find_answer : State → Meaning → (ℕ → List Marker) → ℕ → Result (ℕ × ℤ) Refusal
find_answer s pile markers m = text_checked m (best_start_answer pile markers (coded_count m) s.standing)

-- what is asked of a receiver: a call as data. A pile goes in by its meaning, and by its markers where they count;
-- output and working memory go in by their lengths
pub data Request : Type 0 where
  begins : Request
  hears : List ℤ → Request
  loses : (place n : ℕ) → Request
  finds : Meaning → (ℕ → List Marker) → (m : ℕ) → Request
  reads : Meaning → (m text work : ℕ) → Request

-- what is held after a call: a refused call leaves everything as it was
abbrev pub unless_refused : {A : Type 0} → Result A Refusal → State → State → State
unless_refused answer changed s = cond (is_ok answer) changed s

-- after finding, the start is the one found
abbrev pub start_from : Result (ℕ × ℤ) Refusal → ℕ → ℕ
start_from (Ok best) start = best.0
start_from (Err e) start = start

-- what a receiver with so much room holds after a call
abbrev pub next : ℕ → State → Request → State
next room s begins = opened
next room s (hears heard) =
    unless_refused (hear_answer room s heard) (record { standing = s.standing ++ heard; start = s.start }) s
next room s (loses place n) =
    unless_refused (lose_answer s place n) (record { standing = erased s.standing place n; start = s.start }) s
next room s (finds pile markers m) =
    record { standing = s.standing; start = start_from (find_answer s pile markers m) s.start }
next room s (reads pile m text work) = s

-- all value memory after a call: the values standing in the first places, the rest as it was found
abbrev pub laid : List ℤ → List ℤ → List ℤ
laid standing memory = standing ++ drop (length standing) memory
