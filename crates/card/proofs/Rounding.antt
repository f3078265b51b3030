-- What rounding keeps: a fraction that is no greater than a float rounds to no more than that float, and a sign goes through every operation.
use Rattle.std.proofs.Common.{◌≡◌, ℕ, zero, suc, ◌+◌, ◌-◌, ◌*◌, ◌/◌, ◌%◌, ◌^◌, ◌<◌, ◌≤◌, min, Bool, true, false, cond, not, ◌&&◌, ◌||◌, T, eqb, ltb, leb, ◌⊎◌, ℤ, pos, negsuc, neg_ℤ, ◌≤ℤ◌, sym, refl, ap, ◌∙◌, subst, inl, inr, true≢false, le_of_eq, le_of_lt, mul_assoc, mul_comm, eq-zero-or-pos, lt_of_mul-lt-mul_right, mul-lt-mul_of_pos_right, mul-pos, one-mul, mul-one, mul_right_comm, not-le_of_lt, arith, lit≤, le→leb, eqb→eq, ltb→lt, lt→ltb, leb→le, pow_pos, pow-add, ne_eqb}
use native.Mathlib.Nat.{div-le_of_le-mul}
use lib.IntN.{neg_ℤ-neg_ℤ}
use lib.Signed.{le_z_yes}
use lib.Pow.{pow-lt}
use lib.Ieee.{Float, nan, inf, fin, Format, binary32, prec, emax, low, up, down, units, odd, round, fits, le, lt, neg, div, mul, to_signed}
use lib.Ieee.Digits.{back}
use lib.Ieee.Fits.{up_pos, down_pos, and_l, and_r, round_is}
use lib.Ieee.Exact.{HasValue, odd_sign, round_exact}
use lib.Ieee.Back.{round_whole}
use lib.Ieee.Order.{round_mono, kept, drop}
use lib.Ieee.Scale.{grid}
use lib.Ieee.Positive.{through}

-- x is finite, has the sign s, and is at most n / d in size
abbrev pub Within : Bool → ℕ → ℕ → Float → Type 0
Within s n d nan = ⊥
Within s n d (inf t) = ⊥
Within s n d (fin t m e) = (t ≡ s) × (m * up e * d ≤ n * down e)

-- ---- a float that the format holds is not changed by rounding

pow_le : (i j : ℕ) → 2 ^ i ≤ 2 ^ j → i ≤ j
pow_le i j h = elim (eq-zero-or-pos (i - j)) [ inl z ↦ omega arith | inr p ↦ let l : j < i = omega arith in absurd (not-le_of_lt (pow-lt l) h) ]

-- the exponent e, counted from the format's least
place : (f : Format) (e : ℤ) → down e ≤ 2 ^ low f → (j : ℕ) × (up e * 2 ^ low f ≡ 2 ^ j * down e)
place f (pos k) h = (k + low f, sym (pow-add 2 k (low f)) ∙ sym (mul-one (2 ^ (k + low f))))
place f (negsuc k) h = (
  low f - suc k,
  one-mul (2 ^ low f) ∙ ap (λ (x : ℕ). 2 ^ x) (sym (back (low f) (suc k) (pow_le (suc k) (low f) h))) ∙ pow-add 2 (low f - suc k) (suc k),
)

-- a float above 0 that the format holds
pub unrounded : (f : Format) (m : ℕ) (e : ℤ) → 0 < m → T (fits f (fin false m e)) → HasValue (round f false (m * up e) (down e)) false (m * up e) (down e)
unfolding fits
unrounded f zero e p t = absurd (not-le_of_lt p (lit≤ tt))
unrounded f (suc m) e p t =
    let a : Bool = eqb (suc m % 2) 1 in
    let b : Bool = ltb (suc m) (2 ^ prec f) in
    let c : Bool = leb (down e) (2 ^ low f) in
    let d : Bool = ltb (suc m * up e) (2 ^ suc (emax f) * down e) in
    let small : suc m < 2 ^ prec f = ltb→lt (suc m) (2 ^ prec f) (and_r a b (and_l (a && b) c (and_l (a && b && c) d t))) in
    let deep : down e ≤ 2 ^ low f = leb→le (down e) (2 ^ low f) (and_r (a && b) c (and_l (a && b && c) d t)) in
    let far : suc m * up e < 2 ^ suc (emax f) * down e = ltb→lt (suc m * up e) (2 ^ suc (emax f) * down e) (and_r (a && b && c) d t) in
    let j = (place f e deep).0 in
    let h : suc m * up e * 2 ^ low f ≡ suc m * 2 ^ j * down e = mul_assoc (suc m) (up e) (2 ^ low f) ∙ ap (λ (x : ℕ). suc m * x) (place f e deep).1 ∙ sym (mul_assoc (suc m) (2 ^ j) (down e)) in
    let w : suc m * 2 ^ j * down e < 2 ^ (low f + suc (emax f)) * down e =
    subst (λ (x : ℕ). x < 2 ^ (low f + suc (emax f)) * down e) h
    (subst (λ (x : ℕ). suc m * up e * 2 ^ low f < x)
    (mul_right_comm (2 ^ suc (emax f)) (down e) (2 ^ low f) ∙ ap (λ (x : ℕ). x * down e) (mul_comm (2 ^ suc (emax f)) (2 ^ low f) ∙ sym (pow-add 2 (low f) (suc (emax f)))))
    (mul-lt-mul_of_pos_right far (pow_pos (low f)))) in
    round_exact f false (suc m * up e) (down e) (suc m) j (down_pos e) small (lt_of_mul-lt-mul_right (down e) w) h

-- ---- so what is no greater rounds to no more

units_shape : (f : Format) (q k : ℕ) → (units f false q k ≡ inf false) ⊎ HasValue (units f false q k) false (q * 2 ^ k) (2 ^ low f)
unfolding units
units_shape f q k = go (ltb (q * 2 ^ k) (2 ^ (low f + suc (emax f))))
  where
    go : (b : Bool) → (cond b (odd (suc (prec f)) false q k (low f)) (inf false) ≡ inf false) ⊎ HasValue (cond b (odd (suc (prec f)) false q k (low f)) (inf false)) false (q * 2 ^ k) (2 ^ low f)
    go true = inr (odd_sign (suc (prec f)) false q k (low f))
    go false = inl refl

round_shape : (f : Format) (a c : ℕ) → (round f false a c ≡ inf false) ⊎ HasValue (round f false a c) false (grid f a c) (2 ^ low f)
round_shape f a c =
    subst (λ (z : Float). (z ≡ inf false) ⊎ HasValue z false (grid f a c) (2 ^ low f)) (sym (round_is f false a c))
    (units_shape f (kept (prec f) (a * 2 ^ low f) c) (drop (prec f) (a * 2 ^ low f) c))

pub le_out : (a b : ℕ) → T (ltb a b || (eqb a b && true)) → a ≤ b
le_out a b t = go (ltb a b) (ltb→lt a b) t
  where
    go : (x : Bool) → (T x → a < b) → T (x || (eqb a b && true)) → a ≤ b
    go true l u = le_of_lt (l tt)
    go false l u = le_of_eq (eqb→eq a b (and_l (eqb a b) true u))

infinite_true : inf true ≡ inf false → ⊥
infinite_true p = let z : true ≡ false = cc in true≢false z

infinite_fin : (s t : Bool) (m : ℕ) (e : ℤ) → fin s m e ≡ inf t → ⊥
infinite_fin s t m e p = let z : true ≡ false = cc in true≢false z

le_within : (x y : Float) (n d b c : ℕ) → HasValue y false n d → (x ≡ inf false) ⊎ HasValue x false b c → T (le x y) → Within false n d x
unfolding le
le_within nan y n d b c v r h = absurd h
le_within (inf true) y n d b c v (inl p) h = absurd (infinite_true p)
le_within (inf true) y n d b c v (inr w) h = absurd w
le_within (inf false) nan n d b c v r h = absurd v
le_within (inf false) (inf t) n d b c v r h = absurd v
le_within (inf false) (fin t m' e') n d b c v r h = absurd h
le_within (fin s m e) nan n d b c v r h = absurd v
le_within (fin s m e) (inf t) n d b c v r h = absurd v
le_within (fin s m e) (fin t m' e') n d b c v (inl p) h = absurd (infinite_fin s false m e p)
le_within (fin true m e) (fin t m' e') n d b c v (inr w) h = absurd (true≢false w.0)
le_within (fin false m e) (fin true m' e') n d b c v (inr w) h = absurd (true≢false v.0)
le_within (fin false m e) (fin false m' e') n d b c v (inr w) h =
    (refl, through (m * up e) (m' * up e') n (down e) (down e') d (down_pos e') (le_out (m * up e * down e') (m' * up e' * down e) h) (le_of_eq v.1))

-- ---- a sign goes through a rounding

neg_odd : (d q k l : ℕ) → neg (odd d false q k l) ≡ odd d true q k l
unfolding neg odd
neg_odd d zero k l = refl
neg_odd d (suc q) k l = refl

neg_units : (f : Format) (q k : ℕ) → neg (units f false q k) ≡ units f true q k
unfolding units neg
neg_units f q k = go (ltb (q * 2 ^ k) (2 ^ (low f + suc (emax f))))
  where
    go : (b : Bool) → neg (cond b (odd (suc (prec f)) false q k (low f)) (inf false)) ≡ cond b (odd (suc (prec f)) true q k (low f)) (inf true)
    go true = neg_odd (suc (prec f)) q k (low f)
    go false = refl

neg_neg : (x : Float) → neg (neg x) ≡ x
unfolding neg
neg_neg nan = refl
neg_neg (inf true) = refl
neg_neg (inf false) = refl
neg_neg (fin true m e) = refl
neg_neg (fin false m e) = refl

negative_round : (f : Format) (a c : ℕ) → neg (round f false a c) ≡ round f true a c
negative_round f a c = ap neg (round_is f false a c) ∙ neg_units f _ _ ∙ sym (round_is f true a c)

pub neg_round : (f : Format) (s : Bool) (a c : ℕ) → neg (round f s a c) ≡ round f (not s) a c
neg_round f false a c = negative_round f a c
neg_round f true a c = ap neg (sym (negative_round f a c)) ∙ neg_neg (round f false a c)

pub neg_within : (s : Bool) (n d : ℕ) (x : Float) → Within s n d x → Within (not s) n d (neg x)
unfolding neg
neg_within s n d nan w = w
neg_within s n d (inf t) w = w
neg_within s n d (fin t m e) w = (ap not w.0, w.1)

-- a / c is at most n / d, which the format holds
positive_within : (f : Format) (a c n d : ℕ) → 0 < c → 0 < d → HasValue (round f false n d) false n d → a * d ≤ n * c → Within false n d (round f false a c)
positive_within f a c n d C D v h = le_within (round f false a c) (round f false n d) n d (grid f a c) (2 ^ low f) v (round_shape f a c) (round_mono f a c n d C D h)

pub round_within : (f : Format) (s : Bool) (a c n d : ℕ) → 0 < c → 0 < d → HasValue (round f false n d) false n d → a * d ≤ n * c → Within s n d (round f s a c)
round_within f false a c n d C D v h = positive_within f a c n d C D v h
round_within f true a c n d C D v h = subst (Within true n d) (negative_round f a c) (neg_within false n d (round f false a c) (positive_within f a c n d C D v h))

-- ---- the quotient by a float above 0, and the product with 127

not_zero : (n : ℕ) → 0 < n → n ≡ 0 → ⊥
not_zero n p e = omega arith

pub div_is : (f : Format) (s : Bool) (m : ℕ) (e : ℤ) (n : ℕ) (k : ℤ) → 0 < n → div f (fin s m e) (fin false n k) ≡ round f s (m * up e * down k) (n * up k * down e)
unfolding div
div_is f true m e n k p = rw (ne_eqb n 0 (not_zero n p)) refl
div_is f false m e n k p = rw (ne_eqb n 0 (not_zero n p)) refl

pub mul_is : (f : Format) (s : Bool) (m : ℕ) (e : ℤ) (n : ℕ) (k : ℤ) → mul f (fin s m e) (fin false n k) ≡ round f s (m * up e * (n * up k)) (down e * down k)
unfolding mul
mul_is f true m e n k = refl
mul_is f false m e n k = refl

one_value : HasValue (round binary32 false 1 1) false 1 1
one_value = round_whole binary32 false 1 (lit≤ tt)

full_value : HasValue (round binary32 false 127 1) false 127 1
full_value = round_whole binary32 false 127 (lit≤ tt)

pub div_within : (s : Bool) (x : Float) (n : ℕ) (k : ℤ) → 0 < n → Within s (n * up k) (down k) x → Within s 1 1 (div binary32 x (fin false n k))
div_within s nan n k p w = absurd w
div_within s (inf t) n k p w = absurd w
div_within s (fin t m e) n k p w =
    subst (λ (u : Bool). Within u 1 1 (div binary32 (fin t m e) (fin false n k))) w.0
    (subst (Within t 1 1) (sym (div_is binary32 t m e n k p))
    (round_within binary32 t (m * up e * down k) (n * up k * down e) 1 1 (mul-pos (mul-pos p (up_pos k)) (down_pos e)) (lit≤ tt) one_value (omega (arith, w.1))))

pub mul_within : (s : Bool) (x : Float) → Within s 1 1 x → Within s 127 1 (mul binary32 x (fin false 127 (pos 0)))
mul_within s nan w = absurd w
mul_within s (inf t) w = absurd w
mul_within s (fin t m e) w =
    subst (λ (u : Bool). Within u 127 1 (mul binary32 (fin t m e) (fin false 127 (pos 0)))) w.0
    (subst (Within t 127 1) (sym (mul_is binary32 t m e 127 (pos 0)))
    (round_within binary32 t (m * up e * 127) (down e * 1) 127 1 (mul-pos (down_pos e) (lit≤ tt)) (lit≤ tt) full_value (omega (arith, w.1))))

-- ---- without its fraction: of a float that is at most 127 in size

quotient_le : (a c : ℕ) → a * 1 ≤ 127 * c → a / c ≤ 127
quotient_le a c h = div-le_of_le-mul c (omega arith)

abbrev signed : Bool → ℕ → ℤ
signed s q = cond s (neg_ℤ (pos q)) (pos q)

picked : (t s : Bool) (q a b : ℕ) → t ≡ s → a ≡ q → b ≡ q → cond t (neg_ℤ (pos a)) (pos b) ≡ signed s q
picked t s q a b p x y = subst (λ (u : Bool). cond t (neg_ℤ (pos a)) (pos b) ≡ signed u q) p (go t)
  where
    go : (u : Bool) → cond u (neg_ℤ (pos a)) (pos b) ≡ signed u q
    go true = ap (λ (k : ℕ). neg_ℤ (pos k)) x
    go false = ap pos y

upper : (q : ℕ) → q ≤ 127 → min q (2 ^ 63) ≡ q
upper q l = omega arith

lower : (q : ℕ) → q ≤ 127 → min q (2 ^ 63 - 1) ≡ q
lower q l = omega arith

pub cut_is : (s : Bool) (x : Float) → Within s 127 1 x → (q : ℕ) × (q ≤ 127) × (to_signed 63 x ≡ signed s q) × (to_signed 63 (neg x) ≡ signed (not s) q)
unfolding to_signed neg
cut_is s nan w = absurd w
cut_is s (inf t) w = absurd w
cut_is s (fin t m e) w =
    let q = m * up e / down e in
    let l : q ≤ 127 = quotient_le (m * up e) (down e) w.1 in
    (q, l, picked t s q (min q (2 ^ 63)) (min q (2 ^ 63 - 1)) w.0 (upper q l) (lower q l), picked (not t) (not s) q (min q (2 ^ 63)) (min q (2 ^ 63 - 1)) (ap not w.0) (upper q l) (lower q l))

signed_not : (s : Bool) (q : ℕ) → signed (not s) q ≡ neg_ℤ (signed s q)
signed_not true q = sym (neg_ℤ-neg_ℤ (pos q))
signed_not false q = refl

pub cut_neg : (s : Bool) (x : Float) → Within s 127 1 x → to_signed 63 (neg x) ≡ neg_ℤ (to_signed 63 x)
cut_neg s x w = let c = cut_is s x w in c.3 ∙ signed_not s c.0 ∙ ap neg_ℤ (sym c.2)

signed_low : (s : Bool) (q : ℕ) → q ≤ 127 → negsuc 126 ≤ℤ signed s q
signed_low true zero l = le_z_yes tt
signed_low true (suc q) l = le_z_yes (le→leb q 126 (omega arith))
signed_low false q l = le_z_yes tt

signed_high : (s : Bool) (q : ℕ) → q ≤ 127 → signed s q ≤ℤ pos 127
signed_high true zero l = le_z_yes tt
signed_high true (suc q) l = le_z_yes tt
signed_high false q l = le_z_yes (le→leb q 127 l)

pub cut_within : (s : Bool) (x : Float) → Within s 127 1 x → (negsuc 126 ≤ℤ to_signed 63 x) × (to_signed 63 x ≤ℤ pos 127)
cut_within s x w =
    let c = cut_is s x w in
    (subst (λ (z : ℤ). negsuc 126 ≤ℤ z) (sym c.2) (signed_low s c.0 c.1), subst (λ (z : ℤ). z ≤ℤ pos 127) (sym c.2) (signed_high s c.0 c.1))

-- and it lies in the range of 64 bits
under_limit : (a c : ℕ) → 0 < c → a * 1 ≤ 127 * c → a * 1 < 9223372036854775808 * c
under_limit a c C h = omega arith

or_left : (a b : Bool) → T a → T (a || b)
or_left true b t = tt
or_left false b t = absurd t

pub in_i64 : (s : Bool) (x : Float) → Within s 127 1 x → T (le (fin true 1 (pos 63)) x) × T (lt x (fin false 1 (pos 63)))
unfolding le lt
in_i64 s nan w = absurd w
in_i64 s (inf t) w = absurd w
in_i64 s (fin true m e) w =
    let h : m * up e * 1 < 9223372036854775808 * down e = under_limit (m * up e) (down e) (down_pos e) w.1 in
    let D = down_pos e in
    let g : 0 < m * up e * 1 + 9223372036854775808 * down e = omega arith in
    (or_left _ _ (lt→ltb _ _ h), lt→ltb _ _ g)
in_i64 s (fin false m e) w =
    let h : m * up e * 1 < 9223372036854775808 * down e = under_limit (m * up e) (down e) (down_pos e) w.1 in
    let D = down_pos e in
    let g : 0 < 9223372036854775808 * down e + m * up e * 1 = omega arith in
    (or_left _ _ (lt→ltb _ _ g), lt→ltb _ _ h)
