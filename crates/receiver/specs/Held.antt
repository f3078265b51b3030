-- What a receiver's fields stand for.
use Rattle.std.specs.Prelude.{◌≡◌, ℕ, List, length, take, ℤ}
use Rattle.receiver.specs.State.{State, Request, capacity, next, laid}
use Rattle.receiver.specs.declared.memory.Receiver.{Receiver}

-- all its value memory, also beyond the count
abbrev pub memory_of : Receiver → List ℤ
memory_of r = r.values.now

-- how many values it can hold
abbrev pub room : Receiver → ℕ
room r = capacity (length (memory_of r))

-- what it holds: the values at the places below the count, and the start
abbrev pub held : Receiver → State
held r = record { standing = take r.count (memory_of r); start = r.start }

-- a receiver after a call: it holds what the rules say, over the same memory, which is otherwise as found
pub record Follows (before : Receiver) (call : Request) (after : Receiver) : Type 0 where
  pub state : held after ≡ next (room before) (held before) call
  pub memory : memory_of after ≡ laid (held after).standing (memory_of before)
  pub long : length (memory_of after) ≡ length (memory_of before)
  pub same : after.values.ghost_name ≡ before.values.ghost_name
