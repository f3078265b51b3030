-- Octets that stand for no element, as a search finds them.
use Rattle.std.proofs.Common.{◌≡◌, ℕ, ◌||◌, Bool, ltb, List, [], ◌∷◌, sym, refl, ap, ◌∙◌}
use Rattle.std.specs.List.{list_any}
use Rattle.tone.specs.Tones.{strange}

strange_is : (es : List ℕ) → list_any (ltb 2) es ≡ strange es
strange_is [] = refl
strange_is (e ∷ es) = ap (λ t. ltb 2 e || t) (strange_is es)

-- what a search answered
pub strange_from : (es : List ℕ) (found b : Bool) → found ≡ list_any (ltb 2) es → found ≡ b → strange es ≡ b
strange_from es found b is e = sym (strange_is es) ∙ sym is ∙ e
