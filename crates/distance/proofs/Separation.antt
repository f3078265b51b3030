-- Two different texts have coded bits that differ in at least 16 places.
-- The code is linear: the places where two coded streams differ are the ones of the coded difference. For each state of
-- the coder there is a least weight still to come before it is back in the zero state; one computed test over the 32
-- branches shows that no branch takes more off it than the branch weighs, and the first 1 weighs 4 and leaves 12.
use Rattle.std.proofs.Common.{◌≡◌, ℕ, zero, suc, ◌+◌, ◌*◌, ◌<◌, ◌≤◌, Bool, true, false, ◌&&◌, T, leb, ◌⊎◌, List, [], ◌∷◌, map, length, get_or, sym, refl, ap, ◌∙◌, subst, inl, inr, ⊎_elim, arith, lit≤, leb→le}
use mathlib.Core.Bool.{xor}
use Rattle.std.proofs.lemmas.Bool.{cases_lt, lt-ltb}
use Rattle.code.specs.Coder.{bit, coded, coded_count, sums, parity}
use Rattle.distance.specs.Nearest.{total, Octets}
use Rattle.distance.specs.Apart.{count, Apart}
use Rattle.distance.specs.Trellis.{four, one, path, state, window, sent}
use Rattle.distance.proofs.Totals.{total_ext, total_four}
use Rattle.distance.proofs.Paths.{Agree, state_agree}
use Rattle.distance.proofs.Texts.{delayed, coded_sent, octet_of, path_beyond}
use Rattle.distance.proofs.Orders.{same_texts}

-- how many of the four coded bits of a step are ones
abbrev weight : List Bool → ℕ
weight bits = (one (sent bits 0) + one (sent bits 1)) + (one (sent bits 2) + one (sent bits 3))

-- the least weight from a state to the zero state
abbrev to_go : ℕ → ℕ
to_go s = get_or (0 ∷ 4 ∷ 7 ∷ 5 ∷ 10 ∷ 8 ∷ 7 ∷ 7 ∷ 12 ∷ 12 ∷ 9 ∷ 9 ∷ 10 ∷ 8 ∷ 9 ∷ 9 ∷ []) s 0

abbrev number : Bool → Bool → Bool → Bool → ℕ
number a b c d = one a + 2 * one b + 4 * one c + 8 * one d

abbrev both : (Bool → Bool) → Bool
both test = test false && test true

both_at : (test : Bool → Bool) → T (both test) → (b : Bool) → T (test b)
both_at test h b = go (test false) (test true) refl refl h b
  where
    go : (x y : Bool) → test false ≡ x → test true ≡ y → T (x && y) → (b : Bool) → T (test b)
    go true y p q t true = subst T (sym q) t
    go true y p q t false = subst T (sym p) tt
    go false y p q t b = absurd t

-- the certificate: a branch from four bits a to d, the oldest first, with the new bit e
abbrev branch_holds : Bool → Bool → Bool → Bool → Bool → Bool
branch_holds a b c d e = leb (to_go (number a b c d)) (weight (e ∷ d ∷ c ∷ b ∷ a ∷ []) + to_go (number b c d e))

abbrev all_branches_hold : Bool
all_branches_hold = both (λ a. both (λ b. both (λ c. both (λ d. both (λ e. branch_holds a b c d e)))))

computed : T all_branches_hold
unfolding xor
computed = tt

certified : (a b c d e : Bool) → to_go (number a b c d) ≤ weight (e ∷ d ∷ c ∷ b ∷ a ∷ []) + to_go (number b c d e)
certified a b c d e =
    leb→le _ _
    (both_at (λ e. branch_holds a b c d e)
    (both_at (λ d. both (λ e. branch_holds a b c d e))
    (both_at (λ c. both (λ d. both (λ e. branch_holds a b c d e)))
    (both_at (λ b. both (λ c. both (λ d. both (λ e. branch_holds a b c d e))))
    (both_at (λ a. both (λ b. both (λ c. both (λ d. both (λ e. branch_holds a b c d e))))) computed a) b) c) d) e)

first_one : (a b c d e : Bool) → a ≡ false → b ≡ false → c ≡ false → d ≡ false → e ≡ true
    → 16 ≤ weight (e ∷ d ∷ c ∷ b ∷ a ∷ []) + to_go (number b c d e)
unfolding xor
first_one a b c d e p q r s t = rw (p, q, r, s, t) (lit≤ tt)

-- the code is linear
parity_xor : (f g : ℕ → Bool) (ds : List ℕ) → xor (parity (map f ds)) (parity (map g ds)) ≡ parity (map (λ d. xor (f d) (g d)) ds)
unfolding xor
parity_xor f g [] = refl
parity_xor f g (d ∷ ds) = swap (f d) (parity (map f ds)) (g d) (parity (map g ds)) ∙ ap (xor (xor (f d) (g d))) (parity_xor f g ds)
  where
    swap : (a b c d : Bool) → xor (xor a b) (xor c d) ≡ xor (xor a c) (xor b d)
    swap true true true true = refl
    swap true true true false = refl
    swap true true false true = refl
    swap true true false false = refl
    swap true false true true = refl
    swap true false true false = refl
    swap true false false true = refl
    swap true false false false = refl
    swap false true true true = refl
    swap false true true false = refl
    swap false true false true = refl
    swap false true false false = refl
    swap false false true true = refl
    swap false false true false = refl
    swap false false false true = refl
    swap false false false false = refl

module _ (a b : ℕ → Bool) where
  -- the difference of the paths of two streams
  abbrev apart : ℕ → Bool
  apart i = xor (delayed a i) (delayed b i)

  sent_apart : (j r : ℕ) → r < 4 → xor (sent (window j (delayed a)) r) (sent (window j (delayed b)) r) ≡ sent (window j apart) r
  sent_apart j zero h = parity_xor (λ d. get_or (window j (delayed a)) d false) (λ d. get_or (window j (delayed b)) d false) (get_or sums 0 [])
  sent_apart j (suc zero) h = parity_xor (λ d. get_or (window j (delayed a)) d false) (λ d. get_or (window j (delayed b)) d false) (get_or sums 1 [])
  sent_apart j (suc (suc zero)) h = parity_xor (λ d. get_or (window j (delayed a)) d false) (λ d. get_or (window j (delayed b)) d false) (get_or sums 2 [])
  sent_apart j (suc (suc (suc zero))) h = parity_xor (λ d. get_or (window j (delayed a)) d false) (λ d. get_or (window j (delayed b)) d false) (get_or sums 3 [])
  sent_apart j (suc (suc (suc (suc r)))) h = absurd (omega arith)

  -- the places where the coded bits of n steps differ
  differing : (n : ℕ) → count (4 * n) (λ i. xor (coded a i) (coded b i)) ≡ total n (λ j. weight (window j apart))
  differing n = total_four n (λ i. one (xor (coded a i) (coded b i))) ∙ total_ext n _ _ (λ j l. at j)
    where
      joined : (x y x' y' z : Bool) → x ≡ x' → y ≡ y' → xor x' y' ≡ z → one (xor x y) ≡ one z
      joined x y x' y' z p q r = cc

      at : (j : ℕ) → (one (xor (coded a (4 * j)) (coded b (4 * j))) + one (xor (coded a (4 * j + 1)) (coded b (4 * j + 1)))) + (one (xor (coded a (4 * j + 2)) (coded b (4 * j + 2))) + one (xor (coded a (4 * j + 3)) (coded b (4 * j + 3)))) ≡ weight (window j apart)
      at j =
          let p = coded_sent a j in
          let q = coded_sent b j in
          let e0 = joined _ _ _ _ _ p.0 q.0 (sent_apart j 0 (omega arith)) in
          let e1 = joined _ _ _ _ _ p.1 q.1 (sent_apart j 1 (omega arith)) in
          let e2 = joined _ _ _ _ _ p.2 q.2 (sent_apart j 2 (omega arith)) in
          let e3 = joined _ _ _ _ _ p.3 q.3 (sent_apart j 3 (omega arith)) in
          cc

  -- after n steps the two paths are the same so far, or their coded bits differ and will differ in 16 places
  Split : ℕ → Type 0
  Split n = ((i : ℕ) → i < four n → apart i ≡ false) ⊎ (16 ≤ total n (λ j. weight (window j apart)) + to_go (state n apart))

  split : (n : ℕ) → Split n
  unfolding Split xor
  split zero = inl (λ i l. none i l)
    where
      none : (i : ℕ) → i < 4 → apart i ≡ false
      none i l = rw (lt-ltb i 4 l) refl
  split (suc n) = ⊎_elim start goes_on (split n)
    where
      goes_on : 16 ≤ total n (λ j. weight (window j apart)) + to_go (state n apart) → Split (suc n)
      goes_on h =
          let c = certified (apart n) (apart (suc n)) (apart (suc (suc n))) (apart (suc (suc (suc n)))) (apart (four n)) in
          inr (omega arith)

      start : ((i : ℕ) → i < four n → apart i ≡ false) → Split (suc n)
      start h = go (apart (four n)) refl
        where
          go : (b : Bool) → apart (four n) ≡ b → Split (suc n)
          go false e = inl (λ i l. ⊎_elim (h i) (λ g. let q : four n ≡ i = omega arith in subst (λ j. apart j ≡ false) q e) (cases_lt i (four n)))
          go true e =
              let f = first_one (apart n) (apart (suc n)) (apart (suc (suc n))) (apart (suc (suc (suc n)))) (apart (four n))
              (h n (omega arith)) (h (suc n) (omega arith)) (h (suc (suc n)) (omega arith)) (h (suc (suc (suc n))) (omega arith)) e in
              inr (omega arith)

xor_false : (x y : Bool) → xor x y ≡ false → x ≡ y
unfolding xor
xor_false true true e = refl
xor_false true false e = e
xor_false false true e = sym e
xor_false false false e = refl

both_false : (x y : Bool) → x ≡ false → y ≡ false → xor x y ≡ false
unfolding xor
both_false x y p q = rw (p, q) refl

-- two texts whose paths agree are the same
same_paths : (m : ℕ) (a b : List ℕ) → Octets m a → Octets m b → Agree (four (four (8 * m))) (path a) (path b) → a ≡ b
same_paths m a b oa ob h =
    same_texts m a b oa ob
    (λ j l.
    let p = octet_of a j (oa.1 j) in
    let q = octet_of b j (ob.1 j) in
    let e = state_agree (four (8 * j)) (path a) (path b) (λ i g. h i (omega arith)) in
    let f = state_agree (four (four (8 * j))) (path a) (path b) (λ i g. h i (omega arith)) in
    omega arith)

-- the difference of two texts of m octets ends in the zero state
ends_zero : (m : ℕ) (a b : List ℕ) → length a ≡ m → length b ≡ m → state (four (8 * m)) (apart (bit a) (bit b)) ≡ 0
ends_zero m a b p q =
    let z0 = at (8 * m) (omega arith) in
    let z1 = at (suc (8 * m)) (omega arith) in
    let z2 = at (suc (suc (8 * m))) (omega arith) in
    let z3 = at (suc (suc (suc (8 * m)))) (omega arith) in
    rw (z0, z1, z2, z3) refl
  where
    at : (n : ℕ) → 8 * m ≤ n → apart (bit a) (bit b) (four n) ≡ false
    at n h = both_false (path a (four n)) (path b (four n)) (path_beyond a m n p h) (path_beyond b m n q h)

pub apart_sixteen : Apart 16
unfolding Split
apart_sixteen m a b oa ob ne =
    ⊎_elim
    (λ z. absurd (ne (same_paths m a b oa ob (λ i l. xor_false (path a i) (path b i) (z i l)))))
    (λ h.
    let n : coded_count m ≡ 4 * four (8 * m) = omega arith in
    let e = differing (bit a) (bit b) (four (8 * m)) in
    let c : count (coded_count m) (λ i. xor (coded (bit a) i) (coded (bit b) i)) ≡ count (4 * four (8 * m)) (λ i. xor (coded (bit a) i) (coded (bit b) i)) =
    ap (λ k. count k (λ i. xor (coded (bit a) i) (coded (bit b) i))) n in
    let z : to_go (state (four (8 * m)) (apart (bit a) (bit b))) ≡ 0 = ap to_go (ends_zero m a b oa.0 ob.0) in
    omega arith)
    (split (bit a) (bit b) (four (8 * m)))
