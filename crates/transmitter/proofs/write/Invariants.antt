use Rattle.std.proofs.Common.{◌≡◌}
use Rattle.refusal.proofs.Front.{filled}
use Rattle.transmitter.proofs.Octets.{octet_at}
use Rattle.transmitter.proofs.write.Given as goal

-- the places before hold the burst's octets, and the rest is as found
abbrev pub invariant-loop-place : goal.invariant-loop-place
invariant-loop-place g l =
    l.octet-items ≡ filled (octet_at (g.S.Stage.meaning l.stage) l.text) l.place l.initial.octet-items
