-- The text found stands in the first places.
use Rattle.std.proofs.Common.{◌≡◌, ℕ, ◌-◌, Bool, List, ◌++◌, length, take, drop, sym, ◌∙◌, subst, arith, length-take}
use Rattle.distance.proofs.Reading.{corrected, nearest_once}
use Rattle.distance.specs.Nearest.{Nearest}
use Rattle.std.proofs.lemmas.List.{take_at}
use Rattle.trellis.proofs.nearest_text.Goals as goal

in_front : (cost : ℕ → Bool → ℕ) (m n : ℕ) (found rest : List ℕ) → length found ≡ n → n ≡ m → Nearest cost n found → Nearest cost m (take m (found ++ rest))
in_front cost m n found rest size same near =
    subst (λ t. Nearest cost m t) (sym (take_at found rest m (size ∙ same))) (subst (λ k. Nearest cost k found) same near)

pub returns-clause-only : goal.returns-clause-only
returns-clause-only g c =
    let part : length (take (c.args.m - 0) c.args.text.now) ≡ c.args.m = simp length-take (omega arith) in
    let near = in_front _ _ _ c.search.new.text (drop (c.args.m - 0) c.args.text.now) c.search.auto.text part c.search.ensures.nearest in
    λ other o. nearest_once _ _ _ other near o

pub returns-clause-corrected : goal.returns-clause-corrected
returns-clause-corrected g c =
    let part : length (take (c.args.m - 0) c.args.text.now) ≡ c.args.m = simp length-take (omega arith) in
    let near = in_front _ _ _ c.search.new.text (drop (c.args.m - 0) c.args.text.now) c.search.auto.text part c.search.ensures.nearest in
    λ sent heard h. corrected _ _ sent heard h _ near
