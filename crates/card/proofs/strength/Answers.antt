use Rattle.std.proofs.Common.{◌≡◌, ℤ, sym, ap, ◌∙◌, subst, w8, w64, SFits, to_z, of_z}
use mir.ValLaws.{to_z-of_z}
use Rattle.card.specs.Floats.{strength}
use Rattle.card.specs.Readings.{IsValue}
use Rattle.card.proofs.Pairs.{castable, is_value, eight_bits}
use Rattle.card.proofs.strength.Goals as goal

pub truncating_f32_to_i64-requires : goal.truncating_f32_to_i64-requires
truncating_f32_to_i64-requires c = let b = castable c.args.part c.requires in record { lower_bound = b.0; upper_bound = b.1 }

-- the whole number of 64 bits is the value
is : (c : goal.After-truncating_f32_to_i64) → to_z w64 (of_z w64 c.truncating_f32_to_i64.result) ≡ strength c.args.part
is c = to_z-of_z w64 c.truncating_f32_to_i64.result (record { sfits = c.truncating_f32_to_i64.type_inv }) ∙ c.truncating_f32_to_i64.ensures

pub overflow_cast-result : goal.overflow_cast-result
overflow_cast-result c = subst (SFits w8) (sym (is c)) (eight_bits (strength c.args.part) (is_value c.args.part c.requires))

pub returns : goal.returns
returns c =
    let v = strength c.args.part in
    let b = is_value c.args.part c.requires in
    let e = ap (λ (z : ℤ). to_z w8 (of_z w8 z)) (is c) ∙ to_z-of_z w8 v (eight_bits v b) in
    record { is = e; value = subst IsValue (sym e) b }
