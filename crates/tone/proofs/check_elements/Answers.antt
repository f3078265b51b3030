use Rattle.std.proofs.Common.{◌%◌, true, false, rules, tests, eqb, ltb, length, sym}
use Rattle.std.proofs.lemmas.Bool.{ne_eqb, or_from, or_left, or_right}
use Rattle.std.proofs.lemmas.Iterator.{YieldsList-from_slice}
use Rattle.std.proofs.lemmas.Iterator.Search.{any_from_yields_List}
use Rattle.refusal.specs.declared.Refusal.TheVariants.{BadElements}
use Rattle.refusal.proofs.Checks.{held, past}
use Rattle.tone.specs.Tones.{bad, strange}
use Rattle.tone.proofs.Strange.{strange_from}
use Rattle.tone.proofs.check_elements.Goals as goal
use Rattle.tone.proofs.check_elements.Goals.{then-elements-eq1-via-then-elements-eq1, then-elements-eq1-via-else-elements-eq1+then-any}

pub returns-then-elements-eq1 : goal.returns-then-elements-eq1
returns-then-elements-eq1 c =
    let es = c.args.elements.now in
    sym (held (bad es) BadElements _
    (elim c.then-elements-eq1.branch [
      | then-elements-eq1-via-then-elements-eq1 w ↦ or_left (eqb (length es % 2) 1) (strange es) (search rules)
      | then-elements-eq1-via-else-elements-eq1+then-any w ↦
          or_right (eqb (length es % 2) 1) (strange es) (strange_from es w.any.result true (any_from_yields_List (ltb 2) _ _ w.any.result w.any.ensures.ran (YieldsList-from_slice es cc) (λ x b q k. search (rules, tests))) w.if-any.true)
    ]))

pub returns : goal.returns
returns c =
    let es = c.args.elements.now in
    let none = strange_from es c.any.result false (any_from_yields_List (ltb 2) _ _ c.any.result c.any.ensures.ran (YieldsList-from_slice es cc) (λ x b q k. search (rules, tests))) c.if-any.false in
    sym (past (bad es) BadElements _ (or_from (eqb (length es % 2) 1) (strange es) (ne_eqb (length es % 2) 1 c.if-elements-eq1.false) none))
