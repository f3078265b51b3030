use Rattle.std.proofs.Common.{◌≡◌, fold, sym, ap, ◌∙◌, subst, arith, take_all}
use Rattle.negotiation.specs.Calls.{Outcome}
use Rattle.negotiation.specs.Steps.{stepped}
use Rattle.negotiation.proofs.Laws.{opened, outcome}
use Rattle.negotiation.proofs.Played.of.Goals as goal

pub returns : goal.returns
returns c =
    let l = c.loop-call in
    let e : l.played ≡ fold stepped opened c.args.calls.now = l.invariant.0 ∙ ap (fold stepped opened) (take_all l.call-index c.args.calls.now (omega arith)) in
    subst (Outcome c.args.calls.now) (sym e) (outcome c.args.calls.now)
