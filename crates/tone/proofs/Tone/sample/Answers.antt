use Rattle.std.proofs.Common.{ℕ, ◌*◌, ◌%◌, ap, ◌∙◌, arith}
use Rattle.std.proofs.lemmas.Nat.{mod_below}
use Rattle.tone.proofs.Period.{period_at, step, stride_is}
use Rattle.tone.proofs.Tone.sample.Goals as goal

pub returns : goal.returns
returns c =
    let k : ℕ = c.args.k in
    period_at (c.stride.result * k % 40) (mod_below (c.stride.result * k) 40 (omega arith))
    ∙ ap (λ (s : ℕ). step (s % 40)) (ap (λ (s : ℕ). s * k) c.stride.ensures ∙ stride_is c.args.self k)
