-- The states of a line, and what each call makes of them.
use Rattle.std.specs.Prelude.{ℕ, ◌+◌, Bool, true, false, cond, not, ◌||◌, Some, None, Option, nat_lt}
use Rattle.negotiation.specs.declared.State.{State}
use Rattle.negotiation.specs.declared.State.TheVariants.{New, Asking, Known, Clear}
use Rattle.negotiation.specs.declared.Wanted.{Wanted}
use Rattle.negotiation.specs.declared.Wanted.TheVariants.{EnquiryBurst}
use Rattle.negotiation.specs.declared.Acknowledgement.{Acknowledgement}
use Rattle.negotiation.specs.declared.Acknowledgement.TheVariants.{Idle, Text}
use Rattle.negotiation.specs.declared.Due.{Due}

-- a try that has lasted 1,320 milliseconds is over
abbrev pub over : ℕ → Bool
over milliseconds = not (nat_lt milliseconds 1320)

-- the line after some milliseconds, while text waits or not: waiting text on a new line starts try 1 at 0;
-- in a try milliseconds add up; a try that is over gives way to the next at 0, and the third to a clear line
abbrev pub ticked : State → ℕ → Bool → State
ticked New passed waiting = cond waiting (Asking 1 0) New
ticked (Asking attempt milliseconds) passed waiting =
    cond (over (milliseconds + passed)) (cond (nat_lt attempt 3) (Asking (attempt + 1) 0) Clear) (Asking attempt (milliseconds + passed))
ticked Known passed waiting = Known
ticked Clear passed waiting = Clear

-- a call wants an enquiry burst where it starts a try: the line is asking then, at 0, and was not in that try
abbrev pub starts_try : State → ℕ → Bool → Bool
starts_try New passed waiting = waiting
starts_try (Asking attempt milliseconds) passed waiting = cond (over (milliseconds + passed)) (nat_lt attempt 3) false
starts_try Known passed waiting = false
starts_try Clear passed waiting = false

-- what a call wants: an enquiry burst where it starts a try, and else nothing
abbrev pub wanted : Bool → Option Wanted
wanted starts = cond starts (Some EnquiryBurst) None

-- a burst has been heard on the line since it was opened
abbrev pub is_known : State → Bool
is_known New = false
is_known (Asking attempt milliseconds) = false
is_known Known = true
is_known Clear = false

-- a burst calls for an acknowledgement if it holds an enquiry or is the first since opening
abbrev pub calls_for_one : Bool → Bool → Bool
calls_for_one enquiry heard = enquiry || not heard

-- the due that a burst gives
abbrev pub due_of : Bool → Option Due
due_of called = cond called (Some (record { owed = tt })) None

-- what settles a due
abbrev pub settled : Bool → Acknowledgement
settled waiting = cond waiting Text Idle
