use Rattle.std.proofs.Common.{◌≡◌, ◌+◌, ◌<◌, length, take, drop, ◌++◌, set, refl, ap, ◌∙◌, arith, rules}
use Rattle.std.proofs.lemmas.List.{length-take-le}
use Rattle.refusal.proofs.Front.{filled, filled_more, filled_whole}
use Rattle.transmitter.proofs.Octets.{octet_at, place_octet, place_not_refused, write_there, all_filled}
use Rattle.transmitter.proofs.write.Goals as goal

pub returns-in_err-element : goal.returns-in_err-element
returns-in_err-element g c =
    let s = c.args.stage.now in
    absurd (place_not_refused (g.S.Stage.meaning s) (g.S.Stage.homes s)
    c.args.text.now c.in_ok-n.n c.in_ok-n.ensures c.loop-place.place c.in_ok-content.field-0
    c.in_err-element.field-0.0 c.in_ok-content.ensures c.in_err-element.ensures)

pub loop-place-preserved : goal.loop-place-preserved
loop-place-preserved g c =
    let s = c.args.stage.now in
    let m = g.S.Stage.meaning s in
    let p = c.loop-place.place in
    let x = c.from.result in
    let part = take c.in_ok-length.length c.args.out.now in
    let within : p < length part = omega arith in
    ap (set c.loop-place.octet-items p) (search (rules, arith))
    ∙ ap (λ l. set l p x) c.loop-place.invariant
    ∙ filled_more (octet_at m c.args.text.now) p (p + 1) part x refl within
    (place_octet m (g.S.Stage.homes s) c.args.text.now c.in_ok-n.n c.in_ok-n.ensures p
    c.in_ok-content.field-0 c.in_ok-element.field-0 x c.in_ok-content.ensures
    c.in_ok-element.ensures c.from.ensures)

pub returns : goal.returns
returns g c =
    let s = c.args.stage.now in
    let m = g.S.Stage.meaning s in
    let text = c.args.text.now in
    let out = c.args.out.now in
    let len = c.in_ok-length.length in
    let f = octet_at m text in
    let long : length (take len out) ≡ len = length-take-le len out c.if-out-length.false in
    let end : c.loop-place.place ≡ len = omega (arith, long) in
    record {
      answer = write_there m (g.S.Stage.homes s) text c.in_ok-n.n c.in_ok-n.ensures len
          c.in_ok-length.ensures (length out) c.if-out-length.false;
      memory = ap (λ l. l ++ drop len out)
          (c.loop-place.invariant ∙ ap (λ z. filled f z (take len out)) end ∙ filled_whole f len (take len out) (omega (arith, long)))
          ∙ all_filled m (g.S.Stage.homes s) text c.in_ok-n.n c.in_ok-n.ensures len c.in_ok-length.ensures out;
    }
