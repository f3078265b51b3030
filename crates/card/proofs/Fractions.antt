-- Levels as fractions that are not negative: their order, the greater of two, and their difference before it is rounded.
use Rattle.std.proofs.Common.{◌≡◌, ℕ, zero, suc, ◌+◌, ◌-◌, ◌*◌, ◌<◌, ◌≤◌, Bool, true, false, cond, not, ◌&&◌, ◌||◌, T, eqb, ltb, ℤ, pos, refl, ap, ◌∙◌, true≢false, zero-lt-suc, le_antisymm, zero-mul, arith, eqb→eq, ltb→lt, lt→ltb, nltb→le, eq-eqb}
use lib.Ieee.{Float, nan, inf, fin, Format, up, down, round, sum, sub, le, eq, is_nan}
use lib.Ieee.Fits.{and_l, and_r}
use lib.Ieee.Positive.{num, den, positive}
use Rattle.std.specs.Float.{float_max}
use Rattle.card.proofs.Rounding.{le_out}

-- a number, and 0 where it has a sign
abbrev pub Level : Float → Type 0
Level nan = ⊥
Level (inf s) = ⊥
Level (fin false m e) = Unit {0}
Level (fin true m e) = m * up e ≡ 0

-- the float 0
abbrev pub zeroth : Float
zeroth = fin false 0 (pos 0)

both_zero : (a b : ℕ) → T (eqb a b && (false || eqb a 0)) → (a ≡ 0) × (b ≡ 0)
both_zero a b t =
    let p : a ≡ b = eqb→eq a b (and_l (eqb a b) (eqb a 0) t) in
    let q : a ≡ 0 = eqb→eq a 0 (and_r (eqb a b) (eqb a 0) t) in
    (q, omega arith)

-- a float from 0 to some number is a level
pub level_of : (x : Float) (m : ℕ) (e : ℤ) → T (le zeroth x) → T (le x (fin false m e)) → Level x
unfolding le
level_of nan m e p q = absurd p
level_of (inf true) m e p q = absurd p
level_of (inf false) m e p q = absurd q
level_of (fin false n d) m e p q = tt
level_of (fin true n d) m e p q = let z = (both_zero (0 * down d) (n * up d * 1) p).1 in omega arith

-- ---- the order of two levels is that of their fractions
pub level_le : (x y : Float) → Level x → Level y → T (le x y) → num x * den y ≤ num y * den x
unfolding le
level_le nan y p q h = absurd p
level_le (inf s) y p q h = absurd p
level_le (fin s m e) nan p q h = absurd q
level_le (fin s m e) (inf t) p q h = absurd q
level_le (fin false m e) (fin false n d) p q h = le_out (m * up e * down d) (n * up d * down e) h
level_le (fin false m e) (fin true n d) p q h = let z = both_zero (m * up e * down d) (n * up d * down e) h in omega arith
level_le (fin true m e) (fin t n d) p q h = let z : m * up e * down d ≡ 0 = ap (λ (k : ℕ). k * down d) p ∙ zero-mul (down d) in omega arith

or_split : (a b : Bool) → (T a → ⊥) → (T b → ⊥) → T (a || b) → ⊥
or_split true b f g t = f t
or_split false b f g t = g t

pub no_le : (x y : Float) → Level x → Level y → (T (le x y) → ⊥) → num y * den x ≤ num x * den y
unfolding le
no_le nan y p q h = absurd p
no_le (inf s) y p q h = absurd p
no_le (fin s m e) nan p q h = absurd q
no_le (fin s m e) (inf t) p q h = absurd q
no_le (fin s m e) (fin true n d) p q h = let z : n * up d * down e ≡ 0 = ap (λ (k : ℕ). k * down e) q ∙ zero-mul (down e) in omega arith
no_le (fin false m e) (fin false n d) p q h = go (ltb (m * up e * down d) (n * up d * down e)) (nltb→le (m * up e * down d) (n * up d * down e)) h
  where
    go : (b : Bool) → (T (not b) → n * up d * down e ≤ m * up e * down d) → (T (b || (eqb (m * up e * down d) (n * up d * down e) && true)) → ⊥) → n * up d * down e ≤ m * up e * down d
    go true f g = absurd (g tt)
    go false f g = f tt
no_le (fin true m e) (fin false n d) p q h = go (ltb 0 (m * up e * down d + n * up d * down e)) (nltb→le 0 (m * up e * down d + n * up d * down e)) h
  where
    go : (b : Bool) → (T (not b) → m * up e * down d + n * up d * down e ≤ 0) → (T (b || (eqb (m * up e * down d) (n * up d * down e) && (false || eqb (m * up e * down d) 0))) → ⊥) → n * up d * down e ≤ m * up e * down d
    go true f g = absurd (g tt)
    go false f g = let l = f tt in omega arith

-- two floats of one size
abbrev pub Same : Float → Float → Type 0
Same x y = num x * den y ≡ num y * den x

pub level_eq : (x y : Float) → Level x → Level y → T (eq x y) → Same x y
unfolding eq
level_eq nan y p q h = absurd p
level_eq (inf s) y p q h = absurd p
level_eq (fin s m e) nan p q h = absurd q
level_eq (fin s m e) (inf t) p q h = absurd q
level_eq (fin s m e) (fin t n d) p q h = eqb→eq (m * up e * down d) (n * up d * down e) (and_l _ _ h)

pub not_nan : (x : Float) → Level x → is_nan x ≡ false
unfolding is_nan
not_nan nan p = absurd p
not_nan (inf s) p = absurd p
not_nan (fin s m e) p = refl

-- ---- the greater of two levels
pub most_level : (x y : Float) → Level x → Level y → Level (float_max x y)
most_level x y p q = go (le y x || is_nan y)
  where
    go : (b : Bool) → Level (cond b x y)
    go true = p
    go false = q

pub most_comm : (x y : Float) → Level x → Level y → Same (float_max x y) (float_max y x)
most_comm x y p q = rw (not_nan x p, not_nan y q) (go (le y x) (le x y) (level_le y x q p) (no_le y x q p) (level_le x y p q) (no_le x y p q))
  where
    go : (a b : Bool) → (T a → num y * den x ≤ num x * den y) → ((T a → ⊥) → num x * den y ≤ num y * den x) → (T b → num x * den y ≤ num y * den x) → ((T b → ⊥) → num y * den x ≤ num x * den y)
        → Same (cond (a || false) x y) (cond (b || false) y x)
    go true true f g h k = le_antisymm (h tt) (f tt)
    go true false f g h k = refl
    go false true f g h k = refl
    go false false f g h k = le_antisymm (k (λ t. t)) (g (λ t. t))

-- ---- the difference of two levels is their gap, rounded once
abbrev pub gap : ℕ → ℕ → ℕ
gap a b = a - b + (b - a)

-- the sign s says which is the greater
abbrev pub Sided : Bool → ℕ → ℕ → Type 0
Sided false a b = b ≤ a
Sided true a b = a ≤ b

pub record Difference (f : Format) (x y : Float) : Type 0 where
  pub sign : Bool
  pub side : Sided sign (num x * den y) (num y * den x)
  pub is : sub f x y ≡ round f sign (gap (num x * den y) (num y * den x)) (den x * den y)

apart : (f : Format) (a b c : ℕ) → (s : Bool) × Sided s a b × (sum f false a true b c ≡ round f s (gap a b) c)
unfolding sum
apart f a b c = go (ltb a b) (ltb→lt a b) (nltb→le a b)
  where
    go : (t : Bool) → (T t → a < b) → (T (not t) → b ≤ a) → (s : Bool) × Sided s a b × (cond t (round f true (b - a) c) (round f false (a - b) c) ≡ round f s (gap a b) c)
    go true l g = let h = l tt in (true, omega arith, ap (λ (k : ℕ). round f true k c) {x = b - a} {y = gap a b} (omega arith))
    go false l g = let h = g tt in (false, h, ap (λ (k : ℕ). round f false k c) {x = a - b} {y = gap a b} (omega arith))

like : (f : Format) (s : Bool) (a b c : ℕ) → sum f s a s b c ≡ round f s (a + b) c
unfolding sum
like f true a b c = refl
like f false a b c = refl

noughts : (f : Format) (a b c : ℕ) → a ≡ 0 → b ≡ 0 → sum f true a false b c ≡ round f false (gap a b) c
unfolding sum
noughts f a b c p q = rw (p, q) refl

vanish : (a b : ℕ) → a ≡ 0 → a * b ≡ 0
vanish a b p = ap (λ (k : ℕ). k * b) p ∙ zero-mul b

pub difference : (f : Format) (x y : Float) → Level x → Level y → Difference f x y
unfolding sub
difference f nan y p q = absurd p
difference f (inf s) y p q = absurd p
difference f (fin s m e) nan p q = absurd q
difference f (fin s m e) (inf t) p q = absurd q
difference f (fin false m e) (fin false n d) p q =
    let r = apart f (m * up e * down d) (n * up d * down e) (down e * down d) in
    record { sign = r.0; side = r.1; is = r.2 }
difference f (fin false m e) (fin true n d) p q =
    let a = m * up e * down d in
    let b = n * up d * down e in
    let z : b ≡ 0 = vanish (n * up d) (down e) q in
    record { sign = false; side = omega arith; is = like f false a b (down e * down d) ∙ ap (λ (k : ℕ). round f false k (down e * down d)) {x = a + b} {y = gap a b} (omega arith) }
difference f (fin true m e) (fin false n d) p q =
    let a = m * up e * down d in
    let b = n * up d * down e in
    let z : a ≡ 0 = vanish (m * up e) (down d) p in
    record { sign = true; side = omega arith; is = like f true a b (down e * down d) ∙ ap (λ (k : ℕ). round f true k (down e * down d)) {x = a + b} {y = gap a b} (omega arith) }
difference f (fin true m e) (fin true n d) p q =
    let a = m * up e * down d in
    let b = n * up d * down e in
    let y : a ≡ 0 = vanish (m * up e) (down d) p in
    let z : b ≡ 0 = vanish (n * up d) (down e) q in
    record { sign = false; side = omega arith; is = noughts f a b (down e * down d) y z }

-- a level that is not 0 is above 0
pub level_positive : (x : Float) → Level x → eq x zeroth ≡ false → T (positive x)
unfolding eq
level_positive nan p h = absurd p
level_positive (inf s) p h = absurd p
level_positive (fin true m e) p h =
    let a : m * up e * 1 ≡ 0 = omega arith in
    absurd (true≢false (rw (eq-eqb (m * up e * 1) (0 * down e) (omega arith), eq-eqb (m * up e * 1) 0 a) at h))
level_positive (fin false zero e) p h =
    absurd (true≢false (rw (eq-eqb (0 * up e * 1) (0 * down e) (omega arith)) at h))
level_positive (fin false (suc m) e) p h = lt→ltb 0 (suc m) (zero-lt-suc m)
