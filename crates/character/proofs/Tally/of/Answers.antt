use Rattle.std.proofs.Common.{◌≡◌, ltb, sym, ap, ◌∙◌, subst, arith}
use Rattle.character.specs.Forms.{Room, one_more}
use Rattle.character.proofs.Runs.{reading, only, room, tally_push}
use Rattle.character.proofs.Tally.of.Goals as goal

pub count-requires : goal.count-requires
count-requires c =
    let s = c.into_iter-placed-iterator.result in
    let b = c.into_iter-placed-iterator.ensures.into_iter_gives in
    let e : s.text.now ≡ c.args.text.now = ap (λ u. u.text.now) b ∙ c.new-placed-items.ensures.text in
    subst Room (sym c.loop-placed.invariant.2) (room c.args.text.now c.loop-placed.yielded s c.loop-placed.placed-iterator c.next.new.self c.in-Some.placed e c.loop-placed.yielded_by c.in-Some.ensures.steps (omega arith))

pub loop-placed-preserved : goal.loop-placed-preserved
loop-placed-preserved c =
    (tt, tt, c.count.ensures ∙ ap (λ t. one_more t c.in-Some.placed.item) c.loop-placed.invariant.2 ∙ sym (tally_push c.loop-placed.yielded c.in-Some.placed))

pub returns : goal.returns
returns c =
    let s = c.into_iter-placed-iterator.result in
    let b = c.into_iter-placed-iterator.ensures.into_iter_gives in
    let e : s.text.now ≡ c.args.text.now = ap (λ u. u.text.now) b ∙ c.new-placed-items.ensures.text in
    let z : s.place ≡ 0 = ap (λ u. u.place) b ∙ c.new-placed-items.ensures.place in
    let r = reading c.args.text.now c.loop-placed.yielded s e z (c.next.new.self, (c.loop-placed.placed-iterator, c.loop-placed.yielded_by, c.in-None.ensures.steps)) in
    record { items = (c.loop-placed.yielded, record { reading = r; only = λ ys q. only c.args.text.now c.loop-placed.yielded ys r q }, c.loop-placed.invariant.2); enquiry = r.enquiries ∙ ap (λ t. ltb 0 t.enquiries) (sym c.loop-placed.invariant.2) }
