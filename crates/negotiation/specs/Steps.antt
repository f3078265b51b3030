-- What the private steps promise each other.
use Rattle.std.specs.Prelude.{◌+◌, ◌^◌, ◌<◌, Bool, cond, not, ◌&&◌}
use Rattle.character.specs.Reader.{holds_enquiry}
use Rattle.negotiation.specs.declared.Acknowledgement.{Acknowledgement}
use Rattle.negotiation.specs.declared.Acknowledgement.TheVariants.{Idle, Text}
use Rattle.negotiation.specs.declared.State.TheVariants.{Known}
use Rattle.negotiation.specs.declared.Call.{Call}
use Rattle.negotiation.specs.declared.Call.TheVariants.{Tick, Hear}
use Rattle.negotiation.specs.declared.Played.{Played}
use Rattle.negotiation.specs.Transitions.{ticked, starts_try, is_known, calls_for_one}

-- one acknowledgement more
abbrev pub counted : Played → Acknowledgement → Played
counted p Idle = record { state = p.state; tries = p.tries; idles = p.idles + 1; texts = p.texts }
counted p Text = record { state = p.state; tries = p.tries; idles = p.idles; texts = p.texts + 1 }

-- one call more
abbrev pub stepped : Played → Call → Played
stepped p (Tick passed waiting) =
    record { state = ticked p.state passed waiting; tries = p.tries + cond (starts_try p.state passed waiting) 1 0; idles = p.idles; texts = p.texts }
stepped p (Hear burst waiting) =
    let due : Bool = calls_for_one (holds_enquiry burst.now) (is_known p.state) in
    record { state = Known; tries = p.tries; idles = p.idles + cond (due && not waiting) 1 0; texts = p.texts + cond (due && waiting) 1 0 }

-- each count has room for one more
pub record Room (p : Played) : Type 0 where
  pub tries : p.tries + 1 < 2 ^ 64
  pub idles : p.idles + 1 < 2 ^ 64
  pub texts : p.texts + 1 < 2 ^ 64
