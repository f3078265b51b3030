-- Whether a float lies in a range.
use Rattle.std.proofs.Common.{◌≡◌, Bool, true, false, cond, ◌&&◌, T, Some, None, Less, Equal, Greater, inl, inr, refl, ◌∙◌}
use lib.Ieee.{Float, le, lt, eq}
use Rattle.std.specs.Ordering.{float_partial_cmp, partial_le, partial_lt, is_le, is_some_and}
use Rattle.std.specs.Prelude.{◌⊎◌}
use Rattle.std.specs.declared.ops.RangeInclusive.{RangeInclusive}
use Rattle.std.specs.Range.{range_inclusive_start, range_inclusive_end, range_inclusive_exhausted, range_inclusive_contains}
use Rattle.std.proofs.lemmas.Float.{le_of_lt, le_of_eq, lt-or-eq}

tells : (less same more both : Bool) → (T less → T both) → (T same → T both) → (T both → T less ⊎ T same) → is_some_and is_le (cond less (Some Less) (cond same (Some Equal) (cond more (Some Greater) None))) ≡ both
tells true same more true f g h = refl
tells true same more false f g h = absurd (f tt)
tells false true more true f g h = refl
tells false true more false f g h = absurd (g tt)
tells false false more true f g h = elim (h tt) [ inl z ↦ absurd z | inr z ↦ absurd z ]
tells false false true false f g h = refl
tells false false false false f g h = refl

-- `<=` is what `partial_cmp` says
partial_le_is : (x y : Float) → partial_le float_partial_cmp x y ≡ le x y
partial_le_is x y = tells (lt x y) (eq x y) (lt y x) (le x y) (le_of_lt x y) (le_of_eq x y) (lt-or-eq x y)

pub within : (s : RangeInclusive Float) (a b x : Float) → range_inclusive_start s ≡ a → range_inclusive_end s ≡ b → range_inclusive_exhausted s ≡ false → range_inclusive_contains float_partial_cmp s x ≡ (le a x && le x b)
within s a b x start end left =
    (λ i. partial_le float_partial_cmp (start i) x && cond (left i) (partial_lt float_partial_cmp x (end i)) (partial_le float_partial_cmp x (end i)))
    ∙ (λ i. partial_le_is a x i && partial_le_is x b i)
