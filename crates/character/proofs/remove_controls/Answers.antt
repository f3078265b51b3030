use Rattle.std.proofs.Common.{◌≡◌, ◌+◌, ◌<◌, ◌++◌, length, get_or, take, drop, set, Ok, sym, refl, ap, ◌∙◌, arith, take_all}
use Rattle.character.specs.Controls.{without_controls}
use Rattle.character.proofs.Controls.{control_more, text_more_length, front_least, written_more, refused, accepted}
use Rattle.character.proofs.remove_controls.Goals as goal
use Rattle.character.proofs.remove_controls.Goals.{then-not-is_control, else-not-is_control}

pub returns-then-plain_length-memory : goal.returns-then-plain_length-memory
returns-then-plain_length-memory c =
    record { answer = refused c.args.text.now (length c.args.memory.now) (omega arith); memory = refl }

-- the octet's place lies below what stays of the whole text
below : (c : goal.Then-not-is_control) → c.loop-octet.length < length c.args.memory.now
below c =
    let text = c.args.text.now in
    let i = c.loop-octet.octet-index in
    omega (arith, c.loop-octet.invariant.0, text_more_length text i c.loop-octet-test.true (sym c.if-not-is_control.ensures), front_least text (i + 1), c.plain_length.ensures)

pub bounds-memory-length : goal.bounds-memory-length
bounds-memory-length c = omega (arith, below c)

pub overflow_add-length : goal.overflow_add-length
overflow_add-length c = omega (arith, below c)

pub loop-octet-preserved : goal.loop-octet-preserved
loop-octet-preserved c =
    let text = c.args.text.now in
    let memory = c.args.memory.now in
    let i = c.loop-octet.octet-index in
    let n = c.loop-octet.length in
    let l = c.loop-octet-test.true in
    elim c.if-not-is_control.branch [
      | then-not-is_control w ↦
          (let e = sym w.if-not-is_control.ensures in
          let more = text_more_length text i l e in
          let within : n < length memory = omega (arith, c.loop-octet.invariant.0, more, front_least text (i + 1), c.plain_length.ensures) in (
            omega (arith, w.length-is, c.loop-octet.invariant.0, more),
            w.memory-is ∙ ap (λ xs. set xs n (get_or text i 0)) c.loop-octet.invariant.1 ∙ written_more text memory i n l e c.loop-octet.invariant.0 within
                ∙ ap (λ m. without_controls (take (i + 1) text) ++ drop m memory) (sym w.length-is),
          ))
      | else-not-is_control w ↦
          (let same = sym (control_more text i l (sym w.if-not-is_control.ensures)) in
          let long = sym w.length-is in (
            w.length-is ∙ c.loop-octet.invariant.0 ∙ ap length same,
            w.memory-is ∙ c.loop-octet.invariant.1 ∙ (λ k. same k ++ drop (long k) memory),
          ))
    ]

pub returns : goal.returns
returns c =
    let text = c.args.text.now in
    let memory = c.args.memory.now in
    let whole = take_all c.loop-octet.octet-index text (omega arith) in
    let long : c.loop-octet.length ≡ length (without_controls text) = c.loop-octet.invariant.0 ∙ ap (λ xs. length (without_controls xs)) whole in
    record {
      answer = ap Ok long ∙ accepted text (length memory) (omega (arith, c.plain_length.ensures));
      memory = c.loop-octet.invariant.1 ∙ (λ k. without_controls (whole k) ++ drop (long k) memory);
    }
