use Rattle.std.proofs.Common.{◌≡◌, ℕ, ◌+◌, ◌*◌, Bool, false, List, get_or, set, refl, ap, ◌∙◌, add-zero, arith}
use Rattle.refusal.proofs.Front.{filled_more}
use Rattle.code.specs.Coder.{bit, coded}
use Rattle.code.specs.Register.{four_sums, shifted_in}
use Rattle.code.proofs.Steps.{held_shifted, latest_held, step_gives}
use Rattle.code.proofs.encode.Goals as goal

pub loop-k-preserved : goal.loop-k-preserved
loop-k-preserved c =
    let b = bit c.args.text.now in
    let k : ℕ = c.loop-k.k in
    let out = c.args.out.now in
    let register = c.shifted-register.ensures ∙ (λ i. shifted_in (c.bit_at.ensures i) (c.loop-k.invariant.0 i)) ∙ held_shifted b k in
    let four = c.sums.ensures ∙ ap four_sums register ∙ step_gives b k in
    let x : ℕ → Bool = λ j. get_or c.sums.result j false in
    let first : x 0 ≡ coded b (4 * k) = ap (λ l. get_or l 0 false) four ∙ ap (coded b) (add-zero (4 * k)) in
    let put : List Bool → List Bool = λ l. set (set (set l (4 * k + 1) (x 1)) (4 * k + 2) (x 2)) (4 * k + 3) (x 3) in (
      register ∙ latest_held b k,
      ap (λ l. put (set l (4 * k) (x 0))) c.loop-k.invariant.1
          ∙ ap put (filled_more (coded b) (4 * k) (4 * k + 1) out (x 0) refl (omega arith) first)
          ∙ ap (λ l. set (set l (4 * k + 2) (x 2)) (4 * k + 3) (x 3)) (filled_more (coded b) (4 * k + 1) (4 * k + 2) out (x 1) (omega arith) (omega arith) (ap (λ l. get_or l 1 false) four))
          ∙ ap (λ l. set l (4 * k + 3) (x 3)) (filled_more (coded b) (4 * k + 2) (4 * k + 3) out (x 2) (omega arith) (omega arith) (ap (λ l. get_or l 2 false) four))
          ∙ filled_more (coded b) (4 * k + 3) (4 * (k + 1)) out (x 3) (omega arith) (omega arith) (ap (λ l. get_or l 3 false) four),
    )
