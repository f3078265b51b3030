-- One octet further back.
use Rattle.std.proofs.Common.{◌≡◌, suc, ◌-◌, length, get_or, set, sym, ◌∙◌, subst, ⊎_elim, arith, get_or-set_other, get_or-set_same}
use Rattle.distance.proofs.Traces.{low_below, octet_agree, octet_back}
use Rattle.distance.specs.Trellis.{octet, traced}
use Rattle.std.proofs.lemmas.Bool.{cases_eq}
use Rattle.trellis.proofs.trace_back.Goals as goal

pub loop-i-preserved : goal.loop-i-preserved
loop-i-preserved c =
    let work = c.args.work.now in
    let path = traced work (length work) 0 in
    let i = c.loop-i.i in
    let o = c.loop-i.i - 1 in
    let high = c.before_four-high.result.number in
    let low = c.before_four-low.result.number in
    let next : i ≡ suc o = omega arith in
    let agree = c.loop-i.invariant.1 in
    let text = c.loop-i.text in
    let found = c.octet_of.result in (
      low_below work path i o c.loop-i.state.0 high low next agree c.before_four-high.ensures c.before_four-low.ensures,
      octet_agree work path i o c.loop-i.state.0 high low next agree c.before_four-high.ensures c.before_four-low.ensures,
      λ j p l. ⊎_elim
          (λ e. subst (λ n. get_or (set text o found) n 0 ≡ octet n path) (sym e)
          (get_or-set_same text o found 0 (omega arith)
          ∙ (c.octet_of.ensures ∙ octet_back work path i o c.loop-i.state.0 high low next agree c.before_four-high.ensures c.before_four-low.ensures)))
          (λ ne. get_or-set_other text o j found 0 ne ∙ c.loop-i.invariant.2 j (omega arith) l)
          (cases_eq j o),
    )
