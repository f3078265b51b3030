use Rattle.std.proofs.Common.{◌≡◌, ℕ, ◌*◌, ◌<◌, ◌≤◌, length, get_or}
use Rattle.distance.specs.Trellis.{four, octet, traced}
use Rattle.distance.proofs.Paths.{Agree}
use Rattle.trellis.proofs.trace_back.Given as goal

-- the octets from i on are written, and below them the path goes back from the state reached
abbrev pub invariant-loop-i : goal.invariant-loop-i
invariant-loop-i l =
    (l.state.0 < 16) × Agree (four (four (8 * l.i))) (traced l.work (length l.work) 0) (traced l.work (four (8 * l.i)) l.state.0)
    × ((j : ℕ) → l.i ≤ j → j < length l.initial.text → get_or l.text j 0 ≡ octet j (traced l.work (length l.work) 0))
