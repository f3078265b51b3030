-- How a call answers: its checks in their order, and what lent memory holds afterwards.
use Rattle.std.specs.Prelude.{ℕ, Bool, cond, List, ◌++◌, length, drop, is_ok, Err, Result, ◌==◌, nat_lt}
use Rattle.refusal.specs.declared.Refusal.{Refusal}
use Rattle.refusal.specs.declared.Refusal.TheVariants.{EmptyText, TextTooLong}

-- one check: where its condition holds the call is refused, else the rest decides
abbrev pub refused_when : {A : Type 0} → Bool → Refusal → Result A Refusal → Result A Refusal
refused_when condition refusal rest = cond condition (Err refusal) rest

-- the two checks on the number m of a text's octets, which is from 1 to 240
abbrev pub text_checked : {A : Type 0} → ℕ → Result A Refusal → Result A Refusal
text_checked m rest = refused_when (m == 0) EmptyText (refused_when (nat_lt 240 m) TextTooLong rest)

-- lent memory after a call: what was written stands in the first places and the rest is as found;
-- after a refusal all of it is as found
abbrev pub after : {A X : Type 0} → Result A Refusal → List X → List X → List X
after answer written memory = cond (is_ok answer) (written ++ drop (length written) memory) memory
