-- What is known once a check of a call was passed.
use Rattle.std.proofs.Common.{◌≡◌, ℕ, ◌<◌, ◌≤◌, Bool, true, false, eqb, ltb, Ok, Err, Result, refl, ◌∙◌, arith, ltb-false}
use borrow.Author.Tests.{eqb-false}
use Rattle.refusal.specs.declared.Refusal.{Refusal}
use Rattle.refusal.specs.declared.Refusal.TheVariants.{EmptyText, TextTooLong}
use Rattle.refusal.specs.Answer.{refused_when, text_checked}

-- an answer that is no refusal passed the check
pub passed : {A : Type 0} (condition : Bool) (refusal : Refusal) (rest : Result A Refusal) (x : A) → Ok x ≡ refused_when condition refusal rest → condition ≡ false
passed true refusal rest x e = let z : ◌≡◌ {A = ℕ} 0 1 = cc in absurd (omega arith)
passed false refusal rest x e = refl

-- past a check that does not hold, the rest decides
pub past : {A : Type 0} (condition : Bool) (refusal : Refusal) (rest : Result A Refusal) → condition ≡ false → refused_when condition refusal rest ≡ rest
past true refusal rest e = let z : ◌≡◌ {A = ℕ} 0 1 = cc in absurd (omega arith)
past false refusal rest e = refl

-- a check that holds refuses
pub held : {A : Type 0} (condition : Bool) (refusal : Refusal) (rest : Result A Refusal) → condition ≡ true → refused_when condition refusal rest ≡ Err refusal
held true refusal rest e = refl
held false refusal rest e = let z : ◌≡◌ {A = ℕ} 0 1 = cc in absurd (omega arith)

module _ {A B : Type 0} (first second : Refusal) (x y : A) (rest : Result B Refusal) where
  both_past : (p q : Bool) → Ok y ≡ refused_when p first (refused_when q second (Ok x)) → (refused_when p first (refused_when q second rest) ≡ rest) × (y ≡ x)
  both_past true q e = let z : ◌≡◌ {A = ℕ} 0 1 = cc in absurd (omega arith)
  both_past false true e = let z : ◌≡◌ {A = ℕ} 0 1 = cc in absurd (omega arith)
  both_past false false e = (refl, cc)

-- once the checks on a text's length were passed they are passed before any other answer too, and the answer is known
pub text_past : {A B : Type 0} (m : ℕ) (x y : A) (rest : Result B Refusal) → Ok y ≡ text_checked m (Ok x) → (text_checked m rest ≡ rest) × (y ≡ x)
text_past m x y rest e = both_past EmptyText TextTooLong x y rest (eqb m 0) (ltb 240 m) e

-- a text that passed has from 1 to 240 octets
pub text_length : {A : Type 0} (m : ℕ) (x : A) (rest : Result A Refusal) → Ok x ≡ text_checked m rest → (0 < m) × (m ≤ 240)
text_length m x rest e =
    let some = passed (eqb m 0) _ _ x e in
    let few = passed (ltb 240 m) _ _ x (e ∙ past (eqb m 0) _ _ some) in
    let apart : m ≡ 0 → ⊥ = eqb-false m 0 some in
    (omega (arith, apart), ltb-false 240 m few)
