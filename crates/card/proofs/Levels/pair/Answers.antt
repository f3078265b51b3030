use Rattle.std.proofs.Common.{◌≡◌, true, false, T, sym, ap, ◌∙◌, subst, w8}
use lib.Ieee.{Float, binary32, fits, eq}
use mir.ValLaws.{to_z-of_z}
use Rattle.card.specs.declared.Levels.{Levels}
use Rattle.card.specs.declared.Reading.TheVariants.{Levels as Measured}
use Rattle.card.specs.Floats.{nought, is_balance, share, strength}
use Rattle.card.specs.Readings.{greatest, first_one, first_zero, second_one, second_zero, Promised}
use Rattle.card.proofs.Pairs.{pair_of, pair_silent, pair_loud, promised, first_taken, second_taken}
use Rattle.card.proofs.Levels.pair.Goals as goal

-- the greatest level is a float of 32 bits
held : (g : Float) (l : Levels) → fits binary32 g ≡ true → g ≡ greatest l → T (fits binary32 (greatest l))
held g l o e = subst (λ (x : Float). T (fits binary32 x)) e (subst T (sym o) tt)

pub returns-then-greatest : goal.returns-then-greatest
returns-then-greatest c =
    let l = c.args.self.now in
    let g = c.greater-greatest in
    let most : g.result ≡ greatest l = cc in
    let e = pair_silent l (ap (λ (x : Float). eq x nought) (sym most) ∙ c.if-greatest.true) in
    record { is = sym e; promised = subst (Promised (Measured l)) e (promised l c.requires (held g.result l g.type_inv most)) }

loud : (g : Float) (l : Levels) → eq g nought ≡ false → g ≡ greatest l → eq (greatest l) nought ≡ false
loud g l n e = ap (λ (x : Float). eq x nought) (sym e) ∙ n

pub strength-requires : goal.strength-requires
strength-requires c =
    let l = c.args.self.now in
    let g = c.greater-greatest in
    let most : g.result ≡ greatest l = cc in
    let e : c.share-first.result ≡ share (first_one l) (first_zero l) (greatest l) = cc in
    subst (λ (x : Float). T (is_balance x)) (sym e) (first_taken l c.requires (loud g.result l c.if-greatest.false most) (held g.result l g.type_inv most))

pub strength-requires-2 : goal.strength-requires-2
strength-requires-2 c =
    let l = c.args.self.now in
    let g = c.greater-greatest in
    let most : g.result ≡ greatest l = cc in
    let e : c.share-second.result ≡ share (second_one l) (second_zero l) (greatest l) = cc in
    subst (λ (x : Float). T (is_balance x)) (sym e) (second_taken l c.requires (loud g.result l c.if-greatest.false most) (held g.result l g.type_inv most))

pub returns : goal.returns
returns c =
    let l = c.args.self.now in
    let g = c.greater-greatest in
    let most : g.result ≡ greatest l = cc in
    let a : c.strength.result ≡ strength (share (first_one l) (first_zero l) (greatest l)) = cc in
    let b : c.strength-2.result ≡ strength (share (second_one l) (second_zero l) (greatest l)) = cc in
    let e =
    pair_of (to_z-of_z w8 c.strength.result (record { sfits = c.strength.type_inv }) ∙ a) (to_z-of_z w8 c.strength-2.result (record { sfits = c.strength-2.type_inv }) ∙ b)
    ∙ sym (pair_loud l (loud g.result l c.if-greatest.false most)) in
    record { is = e; promised = subst (Promised (Measured l)) (sym e) (promised l c.requires (held g.result l g.type_inv most)) }
