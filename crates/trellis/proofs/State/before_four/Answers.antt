use Rattle.std.proofs.Common.{◌≡◌, ℕ, ◌+◌, ◌-◌, ◌≤◌, List, [], ◌∷◌, length, get_or, take, drop, reverse, refl, ap, ◌∙◌, add-zero, arith, rules, length-drop}
use Rattle.std.specs.Iterator.Adapters.{rev_steps}
use Rattle.std.specs.List.{fold}
use Rattle.std.specs.Slice.Iter.{iter_steps_back}
use Rattle.std.proofs.lemmas.Fn.{fold_over}
use Rattle.std.proofs.lemmas.Iterator.Adapters.{YieldsList-from_rev_slice}
use Rattle.std.proofs.lemmas.List.{get_or-drop}
use Rattle.std.proofs.lemmas.List.Sums.{fold-append}
use Rattle.distance.specs.Trellis.{back, four_back}
use Rattle.trellis.proofs.State.before_four.Goals as goal

front : (xs : List ℕ) → 4 ≤ length xs → take 4 xs ≡ get_or xs 0 0 ∷ get_or xs 1 0 ∷ get_or xs 2 0 ∷ get_or xs 3 0 ∷ []
front [] h = absurd (omega arith)
front (a ∷ []) h = absurd (omega arith)
front (a ∷ b ∷ []) h = absurd (omega arith)
front (a ∷ b ∷ c ∷ []) h = absurd (omega arith)
front (a ∷ b ∷ c ∷ d ∷ xs) h = refl

four : (work : List ℕ) (k s : ℕ) → k + 4 ≤ length work → fold back s (reverse (take 4 (drop k work))) ≡ four_back work k s
four work k s h =
    let at : get_or (drop k work) 0 0 ≡ get_or work k 0 = get_or-drop k work 0 0 ∙ ap (λ n. get_or work n 0) (add-zero k) in
    ap (λ l. fold back s (reverse l)) (front (drop k work) (omega (arith, length-drop k work)))
    ∙ (λ i. back (back (back (back s (get_or-drop k work 3 0 i)) (get_or-drop k work 2 0 i)) (get_or-drop k work 1 0 i)) (at i))

pub returns : goal.returns
returns c =
    let work = c.args.work.now in
    let k = c.args.step in
    let s = c.args.self.number in
    let part : k + 4 - k ≡ 4 = omega arith in
    fold_over (rev_steps iter_steps_back) (λ y. y.now) _ (λ ys a. a.number ≡ fold back s ys) _ (λ ys a x b f' j m. let more = fold-append back s ys (x.now ∷ []) in search rules)
    c.rev.result _ _ _ (YieldsList-from_rev_slice {s = c.rev.result} (take (k + 4 - k) (drop k work)) (cc)).runs refl c.fold.ensures.ran
    ∙ ap (λ n. fold back s (reverse (take n (drop k work)))) part ∙ four work k s c.requires
