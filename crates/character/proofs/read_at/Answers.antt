use Rattle.std.proofs.Common.{length, ap, arith}
use Rattle.character.specs.Reader.{octets_of}
use Rattle.character.proofs.Fronts.{front_length, octets_some}
use Rattle.character.proofs.read_at.Goals as goal

pub returns-clause-within : goal.returns-clause-within
returns-clause-within c =
    let e = c.in_ok-first.ensures.cases in
    let g = c.in_ok-get.ensures.lookup in
    let h = ap (λ i. length (octets_of i)) c.front-item.ensures in
    (omega (arith, front_length c.in_ok-first.field-0-0.now c.in_ok-first.behind.now), octets_some _)
