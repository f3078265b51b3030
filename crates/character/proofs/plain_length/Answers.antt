use Rattle.std.proofs.Common.{length, sym, ap, ◌∙◌, arith, take_all}
use Rattle.character.specs.Controls.{without_controls}
use Rattle.character.proofs.Controls.{control_more, text_more_length, fits_length}
use Rattle.character.proofs.plain_length.Goals as goal
use Rattle.character.proofs.plain_length.Goals.{then-not-is_control, else-not-is_control}

pub overflow_add-length : goal.overflow_add-length
overflow_add-length c = omega (arith, fits_length c.args.text.now c.loop-octet.octet-index)

pub loop-octet-preserved : goal.loop-octet-preserved
loop-octet-preserved c =
    let text = c.args.text.now in
    let i = c.loop-octet.octet-index in
    elim c.if-not-is_control.branch [
      | then-not-is_control w ↦ omega (arith, w.length-is, text_more_length text i c.loop-octet-test.true (sym w.if-not-is_control.ensures))
      | else-not-is_control w ↦ omega (arith, w.length-is, ap length (control_more text i c.loop-octet-test.true (sym w.if-not-is_control.ensures)))
    ]

pub returns : goal.returns
returns c = c.loop-octet.invariant ∙ ap (λ xs. length (without_controls xs)) (take_all c.loop-octet.octet-index c.args.text.now (omega arith))
