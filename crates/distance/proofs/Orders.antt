-- The order of texts: it is the order of the numbers that their paths spell.
use Rattle.std.proofs.Common.{◌≡◌, ℕ, zero, suc, ◌+◌, ◌*◌, ◌^◌, ◌<◌, ◌≤◌, Bool, true, false, ◌⊎◌, List, length, get_or, sym, ap, ◌∙◌, subst, inl, inr, ⊎_elim, mul-le-mul_right, pow-suc, arith}
use lib.ListN.{get_or-eq_default}
use Rattle.std.proofs.lemmas.List.{same_lists, get_or_default}
use Rattle.std.proofs.lemmas.Bool.{cases_order, cases_lt}
use Rattle.distance.specs.Nearest.{Octets, Earlier}
use Rattle.distance.specs.Trellis.{four, one, path, state, value}
use Rattle.distance.proofs.Paths.{value_suc, value_below}
use Rattle.distance.proofs.Texts.{octet_of}

doubled : (b : Bool) (n : ℕ) → one b * 2 ^ suc n ≡ 2 * (one b * 2 ^ n)
doubled true n = let e = pow-suc 2 n in omega arith
doubled false n = omega arith

-- the next four bits of a path, which are a state
pub value_four : (n : ℕ) (c : ℕ → Bool) → value (four n) c ≡ value n c + state n c * 2 ^ n
value_four n c =
    let v0 = value_suc n c in
    let v1 = value_suc (suc n) c in
    let v2 = value_suc (suc (suc n)) c in
    let v3 = value_suc (suc (suc (suc n))) c in
    let d1 = doubled (c (suc n)) n in
    let d2 = doubled (c (suc (suc n))) n in
    let d3 = doubled (c (suc (suc n))) (suc n) in
    let d4 = doubled (c (suc (suc (suc n)))) n in
    let d5 = doubled (c (suc (suc (suc n)))) (suc n) in
    let d6 = doubled (c (suc (suc (suc n)))) (suc (suc n)) in
    omega arith

sixteen : (s n : ℕ) → s * 2 ^ four n ≡ 16 * s * 2 ^ n
sixteen s n =
    let e0 : 2 ^ four n ≡ 16 * 2 ^ n =
    omega (arith, pow-suc 2 n, pow-suc 2 (suc n), pow-suc 2 (suc (suc n)), pow-suc 2 (suc (suc (suc n)))) in
    rw e0 (omega arith)

-- the number that the first n octets of a text spell, the last counting most
pub value_octet : (text : List ℕ) (n : ℕ) → get_or text n 0 < 256
    → value (four (8 * suc n)) (path text) ≡ value (four (8 * n)) (path text) + get_or text n 0 * 2 ^ four (8 * n)
value_octet text n h =
    let e : four (8 * suc n) ≡ four (four (four (8 * n))) = omega arith in
    let o = octet_of text n h in
    let v = value_four (four (8 * n)) (path text) in
    let w = value_four (four (four (8 * n))) (path text) in
    let s = sixteen (state (four (four (8 * n))) (path text)) (four (8 * n)) in
    let p : (state (four (8 * n)) (path text) + 16 * state (four (four (8 * n))) (path text)) * 2 ^ four (8 * n) ≡ get_or text n 0 * 2 ^ four (8 * n) =
    ap (λ x. x * 2 ^ four (8 * n)) o in
    ap (λ k. value k (path text)) e ∙ omega arith

pub same_texts : (m : ℕ) (a b : List ℕ) → Octets m a → Octets m b → ((j : ℕ) → j < m → get_or a j 0 ≡ get_or b j 0) → a ≡ b
same_texts m a b oa ob s =
    same_lists a b (oa.0 ∙ sym ob.0) (λ k d l. get_or_default a k d 0 l ∙ (s k (omega arith) ∙ get_or_default b k 0 d (omega arith)))

-- the same below place n, or earlier below it
Below : ℕ → List ℕ → List ℕ → Type 0
Below n a b = (k : ℕ) × (get_or a k 0 < get_or b k 0) × ((j : ℕ) → k < j → j < n → get_or a j 0 ≡ get_or b j 0)

module _ (a b : List ℕ) (fits-a : (k : ℕ) → get_or a k 0 < 256) (fits-b : (k : ℕ) → get_or b k 0 < 256) where
  Ordered : ℕ → Type 0
  Ordered n = ((j : ℕ) → j < n → get_or a j 0 ≡ get_or b j 0) ⊎ Below n a b

  further : (n : ℕ) → get_or a n 0 ≡ get_or b n 0 → Ordered n → Ordered (suc n)
  unfolding Ordered Below
  further n e (inl s) = inl (λ j l. ⊎_elim (s j) (λ g. let q : n ≡ j = omega arith in subst (λ i. get_or a i 0 ≡ get_or b i 0) q e) (cases_lt j n))
  further n e (inr r) =
      inr (r.0, r.1, λ j p l. ⊎_elim (r.2 j p) (λ g. let q : n ≡ j = omega arith in subst (λ i. get_or a i 0 ≡ get_or b i 0) q e) (cases_lt j n))

  ordered : (n : ℕ) → value (four (8 * n)) (path a) ≤ value (four (8 * n)) (path b) → Ordered n
  unfolding Ordered Below
  ordered zero h = inl (λ j l. absurd (omega arith))
  ordered (suc n) h =
      let va = value_octet a n (fits-a n) in
      let vb = value_octet b n (fits-b n) in
      let lb = value_below (four (8 * n)) (path b) in
      ⊎_elim
      (λ e. let p : get_or a n 0 * 2 ^ four (8 * n) ≡ get_or b n 0 * 2 ^ four (8 * n) = cc in
      further n e (ordered n (omega arith)))
      (⊎_elim (λ l. inr (n, l, λ j p q. absurd (omega arith)))
      (λ l. let m = mul-le-mul_right (2 ^ four (8 * n)) l in absurd (omega arith)))
      (cases_order (get_or a n 0) (get_or b n 0))

-- of two texts of one length the one whose path spells the smaller number comes first
pub value_earlier : (m : ℕ) (a b : List ℕ) → Octets m a → Octets m b
    → value (four (8 * m)) (path a) ≤ value (four (8 * m)) (path b) → (a ≡ b) ⊎ Earlier a b
unfolding Ordered Below
value_earlier m a b oa ob h =
    ⊎_elim
    (λ s. inl (same_texts m a b oa ob s))
    (λ r. inr (r.0, r.1, λ j p. ⊎_elim (r.2 j p) (λ g. past a (omega arith) ∙ sym (past b (omega arith))) (cases_lt j m)))
    (ordered a b oa.1 ob.1 m h)
  where
    past : (text : List ℕ) {j : ℕ} → length text ≤ j → get_or text j 0 ≡ 0
    past text l = get_or-eq_default text 0 l
