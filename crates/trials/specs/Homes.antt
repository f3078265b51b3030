-- The homes of the small stage fit.
use Rattle.std.specs.Prelude.{◌≡◌, ℕ, ◌+◌, ◌-◌, ◌<◌, Bool, T, ◌==◌}
use Rattle.std.proofs.Common.{sym, ap, subst, ◌∙◌, arith, eqb→eq, leb→le}
use Rattle.std.proofs.Math.Dec.{eqb_refl}
use Rattle.std.proofs.lemmas.Bool.{cond_both, cond-false, ne_eqb, eqb-false}
use Rattle.stage.specs.declared.Content.TheVariants.{Inverted, Fixed}
use Rattle.stage.specs.Meaning.{Homes, Stands, carries}
use Rattle.trials.specs.Turned.{turned, turned_at}

-- where element i stands
one_behind : (b : Bool) (p i : ℕ) → T (carries (turned_at b p) i) → p ≡ i + 1
one_behind b p i =
    cond_both (p == 0) (Fixed b) (Inverted (p - 1)) (λ c. T (carries c i) → p ≡ i + 1) (λ e t. absurd t)
    (λ e t. let ne : p ≡ 0 → ⊥ = eqb-false p 0 e in let same = eqb→eq (p - 1) i t in omega (arith, ne))

behind_stands : (b : Bool) (i : ℕ) → T (carries (turned_at b (i + 1)) i)
behind_stands b i =
    let some : i + 1 ≡ 0 → ⊥ = λ e. omega arith in
    let back : i + 1 - 1 ≡ i = omega arith in
    subst (λ c. T (carries c i)) (sym (cond-false (i + 1 == 0) (Fixed b) (Inverted (i + 1 - 1)) (ne_eqb (i + 1) 0 some) ∙ ap Inverted back)) (eqb_refl i)

pub turned_stands : (b : Bool) (n i : ℕ) → i < n → Stands (turned b) n i (i + 1)
turned_stands b n i h = (omega arith, behind_stands b i)

pub turned_homes : (b : Bool) → Homes (turned b)
turned_homes b = record {
  least = λ n t. omega arith;
  most = λ n t. omega (arith, leb→le n 100 t);
  incoming = λ n i p t s. omega (arith, one_behind b p i s.1, s.0);
  somewhere = λ n i t h. (i + 1, turned_stands b n i h);
  once = λ n i p q t x y. one_behind b p i x.1 ∙ sym (one_behind b q i y.1);
}
