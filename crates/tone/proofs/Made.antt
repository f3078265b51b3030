-- An array that is made place by place.
use Rattle.std.proofs.Common.{◌≡◌, ℕ, zero, suc, ◌+◌, ◌<◌, List, map, get_or, sym, ap, ◌∙◌, subst, refl, add-zero, zero-add, arith}
use Rattle.std.specs.Array.{IsFromFnResult, IsFromFnResultFrom}
use Rattle.std.specs.Fn.{Called}
use Rattle.std.specs.List.{range_with_len}
use Rattle.std.proofs.lemmas.List.FromFn.{fill_by_all}
use denote.Param.Members.{Mut}

module _ {F B : Type 0} (g : Mut F (ℕ × Unit {0}) B) (want : ℕ → B) (f : F) (same : (i : ℕ) (y : B) (q : F) → Called g f (i, tt) y q → (q ≡ f) × (y ≡ want i)) where
  from : (p : F) → p ≡ f → (ys : List B) (i n : ℕ) → IsFromFnResultFrom g p ys i n → (k : ℕ) (d : B) → k < n → get_or ys (i + k) d ≡ want (i + k)
  from p is ys i zero h k d below = absurd (omega arith)
  from p is ys i (suc n) (q, y, at, called, rest) zero d below =
      ap (λ j. get_or ys j d) (add-zero i) ∙ at.1 d ∙ (same i y q (subst (λ x. Called g x (i, tt) y q) is called)).1 ∙ ap want (sym (add-zero i))
  from p is ys i (suc n) (q, y, at, called, rest) (suc k) d below =
      let next : i + suc k ≡ i + 1 + k = omega arith in
      ap (λ j. get_or ys j d) next ∙ from q (same i y q (subst (λ x. Called g x (i, tt) y q) is called)).0 ys (i + 1) n rest k d (omega arith) ∙ ap want (sym next)

  -- its elements are what the closure computes, where each call leaves the closure as it was
  pub made : (ys : List B) (n : ℕ) (d : B) → IsFromFnResult g f ys n → ys ≡ map want (range_with_len 0 n)
  made ys n d h = fill_by_all want ys n d h.long (λ k below. ap (λ j. get_or ys j d) (sym (zero-add k)) ∙ from f refl ys 0 n h.each k d below ∙ ap want (zero-add k))
