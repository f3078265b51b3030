-- Lists of calls from a line's opening: where they lead, and the law over all of them.
use Rattle.std.specs.Prelude.{◌≡◌, ℕ, ◌+◌, ◌≤◌, Bool, true, false, cond, ◌&&◌, List, [], ◌∷◌}
use Rattle.character.specs.Reader.{holds_enquiry}
use Rattle.negotiation.specs.declared.State.{State}
use Rattle.negotiation.specs.declared.State.TheVariants.{New, Known, Clear}
use Rattle.negotiation.specs.declared.Call.{Call}
use Rattle.negotiation.specs.declared.Call.TheVariants.{Tick, Hear}
use Rattle.negotiation.specs.declared.Played.{Played}
use Rattle.negotiation.specs.Transitions.{ticked, starts_try, calls_for_one}

-- the state after a list of calls
abbrev pub after : State → List Call → State
after state [] = state
after state (Tick passed waiting ∷ calls) = after (ticked state passed waiting) calls
after state (Hear burst waiting ∷ calls) = after Known calls

-- how many tries a list of calls asks for
abbrev pub tries : State → List Call → ℕ
tries state [] = 0
tries state (Tick passed waiting ∷ calls) = cond (starts_try state passed waiting) 1 0 + tries (ticked state passed waiting) calls
tries state (Hear burst waiting ∷ calls) = tries Known calls

-- how many bursts of a list call for an acknowledgement; `heard` says whether one came before it
abbrev pub called : Bool → List Call → ℕ
called heard [] = 0
called heard (Tick passed waiting ∷ calls) = called heard calls
called heard (Hear burst waiting ∷ calls) = cond (calls_for_one (holds_enquiry burst.now) heard) 1 0 + called true calls

-- those of them that find text waiting
abbrev pub called_waiting : Bool → List Call → ℕ
called_waiting heard [] = 0
called_waiting heard (Tick passed waiting ∷ calls) = called_waiting heard calls
called_waiting heard (Hear burst waiting ∷ calls) = cond (calls_for_one (holds_enquiry burst.now) heard && waiting) 1 0 + called_waiting true calls

-- one of the calls heard a burst
abbrev pub heard_one : List Call → Bool
heard_one [] = false
heard_one (Tick passed waiting ∷ calls) = heard_one calls
heard_one (Hear burst waiting ∷ calls) = true

-- what playing a list of calls from opening leads to
pub record Outcome (calls : List Call) (r : Played) : Type 0 where
  pub state : r.state ≡ after New calls
  pub tries : r.tries ≡ tries New calls
  -- as many dues are given out, and settled, as bursts call for one
  pub dues : r.idles + r.texts ≡ called false calls
  -- a due is answered by text where text waits
  pub texts : r.texts ≡ called_waiting false calls
  -- at most three tries are asked for
  pub three : r.tries ≤ 3
  -- and three it were where the line is clear
  pub clear : r.state ≡ Clear → r.tries ≡ 3
  -- a line that has heard a burst is known, so no burst heard leaves it asking
  pub known : heard_one calls ≡ true → r.state ≡ Known
