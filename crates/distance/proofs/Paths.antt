-- The best path into a state: a path is as good as its first bits, and the best path into a state extends a best path
-- into one of the two states before it.
use Rattle.std.proofs.Common.{◌≡◌, ℕ, zero, suc, ◌+◌, ◌*◌, ◌^◌, ◌<◌, ◌≤◌, Bool, true, false, sym, refl, ap, ◌∙◌, pow-suc, arith}
use Rattle.distance.specs.Nearest.{total}
use Rattle.distance.specs.Trellis.{four, one, state, window, branch, begin_cost, path_cost, value, Best}
use Rattle.distance.proofs.Totals.{total_ext}

-- two paths agree below place n
abbrev pub Agree : ℕ → (ℕ → Bool) → (ℕ → Bool) → Type 0
Agree n c y = (i : ℕ) → i < n → c i ≡ y i

pub one_le : (b : Bool) → one b ≤ 1
one_le true = omega arith
one_le false = omega arith

pub one_inj : (a b : Bool) → one a ≡ one b → a ≡ b
one_inj true true e = refl
one_inj true false e = absurd (omega arith)
one_inj false true e = absurd (omega arith)
one_inj false false e = refl

pub state_agree : (k : ℕ) (c y : ℕ → Bool) → Agree (four k) c y → state k c ≡ state k y
state_agree k c y h =
    let p = h k (omega arith) in
    let q = h (suc k) (omega arith) in
    let r = h (suc (suc k)) (omega arith) in
    let s = h (suc (suc (suc k))) (omega arith) in
    cc

pub window_agree : (k : ℕ) (c y : ℕ → Bool) → Agree (suc (four k)) c y → window k c ≡ window k y
window_agree k c y h =
    let p = h k (omega arith) in
    let q = h (suc k) (omega arith) in
    let r = h (suc (suc k)) (omega arith) in
    let s = h (suc (suc (suc k))) (omega arith) in
    let t = h (four k) (omega arith) in
    cc

pub cost_agree : (cost : ℕ → Bool → ℕ) (k : ℕ) (c y : ℕ → Bool) → Agree (four k) c y → path_cost cost k c ≡ path_cost cost k y
unfolding path_cost
cost_agree cost k c y h =
    let b : begin_cost (state 0 c) ≡ begin_cost (state 0 y) =
    ap begin_cost (state_agree 0 c y (λ i l. h i (omega arith))) in
    let e : total k (λ j. branch cost j c) ≡ total k (λ j. branch cost j y) =
    total_ext k (λ j. branch cost j c) (λ j. branch cost j y)
    (λ j l. branch_agree j (λ i m. h i (omega arith))) in
    omega arith
  where
    branch_agree : (j : ℕ) → Agree (suc (four j)) c y → branch cost j c ≡ branch cost j y
    branch_agree j a = let w = window_agree j c y a in cc

pub value_agree : (n : ℕ) (c y : ℕ → Bool) → Agree n c y → value n c ≡ value n y
unfolding value
value_agree n c y h = total_ext n (λ i. one (c i) * 2 ^ i) (λ i. one (y i) * 2 ^ i) (λ i l. ap (λ b. one b * 2 ^ i) (h i l))

pub best_agree : (cost : ℕ → Bool → ℕ) (k : ℕ) (c d : ℕ → Bool) → Agree (four k) c d → Best cost k c → Best cost k d
best_agree cost k c d h best y e =
    let s = state_agree k c d h in
    let b = best y (e ∙ sym s) in
    let p = cost_agree cost k c d h in
    let v = value_agree (four k) c d h in
    (omega arith, omega arith)

pub cost_suc : (cost : ℕ → Bool → ℕ) (k : ℕ) (c : ℕ → Bool) → path_cost cost (suc k) c ≡ path_cost cost k c + branch cost k c
unfolding path_cost
cost_suc cost k c = omega arith

pub value_suc : (n : ℕ) (c : ℕ → Bool) → value (suc n) c ≡ value n c + one (c n) * 2 ^ n
unfolding value
value_suc n c = refl

pub value_below : (n : ℕ) (c : ℕ → Bool) → value n c < 2 ^ n
unfolding value
value_below zero c = omega arith
value_below (suc n) c = go (c n) (value_below n c)
  where
    go : (b : Bool) → value n c < 2 ^ n → value n c + one b * 2 ^ n < 2 ^ suc n
    go true h = let e = pow-suc 2 n in omega arith
    go false h = let e = pow-suc 2 n in omega arith

-- the bits of two paths in one state
record SameBits (k : ℕ) (c y : ℕ → Bool) : Type 0 where
  bit1 : c (suc k) ≡ y (suc k)
  bit2 : c (suc (suc k)) ≡ y (suc (suc k))
  bit3 : c (suc (suc (suc k))) ≡ y (suc (suc (suc k)))
  bit4 : c (four k) ≡ y (four k)

same_bits : (k : ℕ) (c y : ℕ → Bool) → state (suc k) c ≡ state (suc k) y → SameBits k c y
same_bits k c y e =
    let c1 = one_le (c (suc k)) in
    let c2 = one_le (c (suc (suc k))) in
    let c3 = one_le (c (suc (suc (suc k)))) in
    let c4 = one_le (c (four k)) in
    let y1 = one_le (y (suc k)) in
    let y2 = one_le (y (suc (suc k))) in
    let y3 = one_le (y (suc (suc (suc k)))) in
    let y4 = one_le (y (four k)) in
    record {
      bit1 = one_inj (c (suc k)) (y (suc k)) (omega arith);
      bit2 = one_inj (c (suc (suc k))) (y (suc (suc k))) (omega arith);
      bit3 = one_inj (c (suc (suc (suc k)))) (y (suc (suc (suc k)))) (omega arith);
      bit4 = one_inj (c (four k)) (y (four k)) (omega arith);
    }

-- where the bit that drops out is the same too, the better at step k is the better at the next
module _ (cost : ℕ → Bool → ℕ) (k : ℕ) (c y : ℕ → Bool) (same : SameBits k c y) where
  carried : c k ≡ y k → Best cost k c
      → (path_cost cost (suc k) c ≤ path_cost cost (suc k) y) × (path_cost cost (suc k) c ≡ path_cost cost (suc k) y → value (four (suc k)) c ≤ value (four (suc k)) y)
  carried e best =
      let b1 = same.bit1 in
      let b2 = same.bit2 in
      let b3 = same.bit3 in
      let b4 = same.bit4 in
      let s : state k y ≡ state k c = cc in
      let w : window k c ≡ window k y = cc in
      let br : branch cost k c ≡ branch cost k y = cc in
      let b = best y s in
      let p = cost_suc cost k c in
      let q = cost_suc cost k y in
      let v = value_suc (four k) c in
      let u = value_suc (four k) y in
      let t : one (c (four k)) * 2 ^ four k ≡ one (y (four k)) * 2 ^ four k = cc in
      (omega arith, omega arith)

-- of two paths that meet, the one whose bit 0 drops out comes first
earlier : (k : ℕ) (c y : ℕ → Bool) → SameBits k c y → c k ≡ false → y k ≡ true → value (four (suc k)) c ≤ value (four (suc k)) y
earlier k c y same p q =
    let b1 = same.bit1 in
    let b2 = same.bit2 in
    let b3 = same.bit3 in
    let b4 = same.bit4 in
    let l = value_below k c in
    let c0 = value_suc k c in
    let c1 = value_suc (suc k) c in
    let c2 = value_suc (suc (suc k)) c in
    let c3 = value_suc (suc (suc (suc k))) c in
    let c4 = value_suc (four k) c in
    let y0 = value_suc k y in
    let y1 = value_suc (suc k) y in
    let y2 = value_suc (suc (suc k)) y in
    let y3 = value_suc (suc (suc (suc k))) y in
    let y4 = value_suc (four k) y in
    let t0 : one (c k) * 2 ^ k ≡ 0 * 2 ^ k = cc in
    let u0 : one (y k) * 2 ^ k ≡ 1 * 2 ^ k = cc in
    let t1 : one (c (suc k)) * 2 ^ suc k ≡ one (y (suc k)) * 2 ^ suc k = cc in
    let t2 : one (c (suc (suc k))) * 2 ^ suc (suc k) ≡ one (y (suc (suc k))) * 2 ^ suc (suc k) = cc in
    let t3 : one (c (suc (suc (suc k)))) * 2 ^ suc (suc (suc k)) ≡ one (y (suc (suc (suc k)))) * 2 ^ suc (suc (suc k)) = cc in
    let t4 : one (c (four k)) * 2 ^ four k ≡ one (y (four k)) * 2 ^ four k = cc in
    omega arith

-- of two best paths that meet, the one with the bit 0 dropping out goes on unless the other is cheaper
module _ (cost : ℕ → Bool → ℕ) (k : ℕ) (c d : ℕ → Bool) (zero-drops : c k ≡ false) (one-drops : d k ≡ true)
    (meet : state (suc k) c ≡ state (suc k) d) (best-c : Best cost k c) (best-d : Best cost k d) where
  pub stays : path_cost cost (suc k) c ≤ path_cost cost (suc k) d → Best cost (suc k) c
  stays h y e = go (y k) refl
    where
      go : (b : Bool) → y k ≡ b → (path_cost cost (suc k) c ≤ path_cost cost (suc k) y) × (path_cost cost (suc k) c ≡ path_cost cost (suc k) y → value (four (suc k)) c ≤ value (four (suc k)) y)
      go false p = carried cost k c y (same_bits k c y (sym e)) (zero-drops ∙ sym p) best-c
      go true p =
          let r = carried cost k d y (same_bits k d y (sym (e ∙ meet))) (one-drops ∙ sym p) best-d in
          let v = earlier k c y (same_bits k c y (sym e)) zero-drops p in
          (omega arith, λ _. v)

  pub turns : path_cost cost (suc k) d < path_cost cost (suc k) c → Best cost (suc k) d
  turns h y e = go (y k) refl
    where
      go : (b : Bool) → y k ≡ b → (path_cost cost (suc k) d ≤ path_cost cost (suc k) y) × (path_cost cost (suc k) d ≡ path_cost cost (suc k) y → value (four (suc k)) d ≤ value (four (suc k)) y)
      go true p = carried cost k d y (same_bits k d y (sym e)) (one-drops ∙ sym p) best-d
      go false p =
          let r = carried cost k c y (same_bits k c y (sym (e ∙ sym meet))) (zero-drops ∙ sym p) best-c in
          (omega arith, omega arith)
