-- The table of the period, checked by one computed test over its 40 entries.
use Rattle.std.proofs.Common.{◌≡◌, ℕ, ◌*◌, ◌/◌, ◌%◌, ◌<◌, map, get_or, ℤ, pos, ◌*ℤ◌, sym, refl, ap, ◌∙◌, zero-add, arith, w16, to_z, of_z}
use Rattle.std.specs.List.{range_with_len}
use Rattle.std.proofs.lemmas.Nat.{mod_below}
use Rattle.std.proofs.lemmas.List.FromFn.{get_or-map-range_with_len}
use Rattle.tone.specs.declared.Tone.{Tone}
use Rattle.tone.specs.declared.Tone.TheVariants.{Silence, Hz400, Hz600, Hz800, Hz1000}
use Rattle.tone.specs.Tones.{hertz, sine, tone_sample}

-- two functions with one list of values agree at each place of it
same_below : {X : Type 0} (f g : ℕ → X) (n : ℕ) → map f (range_with_len 0 n) ≡ map g (range_with_len 0 n) → (j : ℕ) → j < n → f j ≡ g j
same_below f g n same j h =
    sym (get_or-map-range_with_len f 0 n j j (f j) h (zero-add j)) ∙ ap (λ l. get_or l j (f j)) same ∙ get_or-map-range_with_len g 0 n j j (f j) h (zero-add j)

abbrev pub step : ℕ → ℤ
step j = pos 8 *ℤ sine j

-- what stands at step j of the table, as 16 bits hold it, is eight times the sine there
pub period_at : (j : ℕ) → j < 40 → to_z w16 (of_z w16 (get_or (map step (range_with_len 0 40)) j (pos 0))) ≡ step j
period_at j h =
    ap (λ z. to_z w16 (of_z w16 z)) (get_or-map-range_with_len step 0 40 j j (pos 0) h (zero-add j)) ∙ same_below (λ k. to_z w16 (of_z w16 (step k))) step 40 refl j h

-- a sample fits 16 bits
pub sample_fits : (tone : Tone) (k : ℕ) → to_z w16 (of_z w16 (tone_sample tone k)) ≡ tone_sample tone k
sample_fits tone k =
    same_below (λ j. to_z w16 (of_z w16 (step j))) step 40 refl (hertz tone * k / 200 % 40) (mod_below (hertz tone * k / 200) 40 (omega arith))

-- the steps that a tone goes on by k samples
pub stride_is : (tone : Tone) (k : ℕ) → hertz tone / 200 * k ≡ hertz tone * k / 200
stride_is Silence k = omega arith
stride_is Hz400 k = omega arith
stride_is Hz600 k = omega arith
stride_is Hz800 k = omega arith
stride_is Hz1000 k = omega arith
