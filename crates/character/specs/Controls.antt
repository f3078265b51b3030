-- A text without its control characters.
use Rattle.std.specs.Prelude.{ℕ, Bool, not, ◌||◌, List, length, filter, Ok, Result, ◌==◌, nat_lt}
use Rattle.refusal.specs.declared.Refusal.{Refusal}
use Rattle.refusal.specs.declared.Refusal.TheVariants.{MemoryTooShort}
use Rattle.refusal.specs.Answer.{refused_when}

-- an octet that is a control character: an enquiry or an idle
abbrev pub is_control : ℕ → Bool
is_control b = b == 0x05 || b == 0x16

-- a text without its control characters: every other octet, in order
abbrev pub without_controls : List ℕ → List ℕ
without_controls text = filter (λ b. not (is_control b)) text

-- what copying a text without its control characters into that many places answers: the number of octets
abbrev pub removal_answer : List ℕ → ℕ → Result ℕ Refusal
removal_answer text places = refused_when (nat_lt places (length (without_controls text))) MemoryTooShort (Ok (length (without_controls text)))
