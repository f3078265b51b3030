use Rattle.std.proofs.Common.{◌≡◌, ◌*◌}
use Rattle.refusal.proofs.Front.{filled}
use Rattle.code.specs.Coder.{bit, coded}
use Rattle.code.proofs.Steps.{held}
use Rattle.code.proofs.encode.Given as goal

-- the register as step k finds it, and the coded bits of the steps before
abbrev pub invariant-loop-k : goal.invariant-loop-k
invariant-loop-k l =
    (l.register.bits ≡ held (bit l.text) l.k) × (l.out ≡ filled (coded (bit l.text)) (4 * l.k) l.initial.out)
