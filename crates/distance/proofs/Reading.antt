-- Why the reading is right: the best path into the zero state, traced back, is the path of the nearest text.
use Rattle.std.proofs.Common.{◌≡◌, ℕ, zero, suc, ◌+◌, ◌-◌, ◌*◌, ◌/◌, ◌^◌, ◌<◌, ◌≤◌, Bool, true, false, cond, eqb, ◌⊎◌, List, length, get_or, replicate, sym, refl, ap, ◌∙◌, subst, inl, inr, ⊎_elim, arith, lit<, lit≤}
use Rattle.std.proofs.lemmas.Bool.{eqb-true, cases_lt, cases_order}
use lib.ListN.{length-replicate, get_or-replicate, get_or-eq_default}
use Rattle.distance.specs.Nearest.{Octets, distance, Earlier, Nearest}
use Rattle.distance.specs.Apart.{Heard, HeardWithin}
use Rattle.distance.specs.Trellis.{four, one, path, state, window, sent, branch, begin_cost, path_cost, value, Best, octet, traced, Survivors, label_cost, odd, Bounded}
use Rattle.distance.proofs.Totals.{total_bound}
use Rattle.distance.proofs.Paths.{Agree, one_le, one_inj, cost_agree, value_agree}
use Rattle.distance.proofs.Texts.{cost_of_text, octet_of, path_beyond}
use Rattle.distance.proofs.Correction.{corrects_fifteen}
use Rattle.distance.proofs.Traces.{traced_state}
use Rattle.distance.proofs.Orders.{value_four, value_earlier}

-- the costs of the four coded bits of a step are bounded
branch_bound : (cost : ℕ → Bool → ℕ) (n b : ℕ) → Bounded cost n b → (k : ℕ) → k < n → (c : ℕ → Bool) → branch cost k c ≤ 4 * b
branch_bound cost n b h k l c =
    let w = window k c in
    let h0 = h (4 * k) (omega arith) (sent w 0) in
    let h1 = h (4 * k + 1) (omega arith) (sent w 1) in
    let h2 = h (4 * k + 2) (omega arith) (sent w 2) in
    let h3 = h (4 * k + 3) (omega arith) (sent w 3) in
    omega arith

-- what a path costs over n steps is bounded
pub cost_bound : (cost : ℕ → Bool → ℕ) (n b : ℕ) → Bounded cost n b → (c : ℕ → Bool)
    → (path_cost cost n c ≤ begin_cost (state 0 c) + n * (4 * b)) × (begin_cost (state 0 c) ≤ path_cost cost n c)
unfolding path_cost
cost_bound cost n b h c = let t = total_bound n (4 * b) (λ j. branch cost j c) (λ j l. branch_bound cost n b h j l c) in (omega arith, omega arith)

begin_le : (s : ℕ) → begin_cost s ≤ 2 ^ 30
begin_le s = go (eqb s 0)
  where
    go : (t : Bool) → cond t 0 (2 ^ 30) ≤ 2 ^ 30
    go true = lit≤ tt
    go false = lit≤ tt

-- a metric fits 31 bits
pub metric_small : (cost : ℕ → Bool → ℕ) (k : ℕ) → Bounded cost k 65535 → k ≤ 1924 → (work metrics : List ℕ)
    → Survivors cost k work metrics → (s : ℕ) → s < 16 → get_or metrics s 0 < 2 ^ 31
metric_small cost k h l work metrics survivors s g =
    let e = (survivors s g).1 in
    let b = (cost_bound cost k 65535 h (traced work k s)).0 in
    let u = begin_le (state 0 (traced work k s)) in
    omega arith

-- what the coded bits of a step cost fits 20 bits
pub label_cost_small : (cost : ℕ → Bool → ℕ) (k : ℕ) → Bounded cost (k + 1) 65535 → (q : ℕ) → label_cost cost k q < 2 ^ 20
label_cost_small cost k h q =
    let h0 = h (4 * k) (omega arith) (odd q) in
    let h1 = h (4 * k + 1) (omega arith) (odd (q / 2)) in
    let h2 = h (4 * k + 2) (omega arith) (odd (q / 4)) in
    let h3 = h (4 * k + 3) (omega arith) (odd (q / 8)) in
    omega arith

-- a path that costs little began in the zero state
begin_zero : (s : ℕ) → begin_cost s < 2 ^ 30 → s ≡ 0
begin_zero s h = go (eqb s 0) refl h
  where
    go : (t : Bool) → eqb s 0 ≡ t → cond t 0 (2 ^ 30) < 2 ^ 30 → s ≡ 0
    go true e l = eqb-true s 0 e
    go false e l = absurd (omega arith)

pub state_below : (k : ℕ) (c : ℕ → Bool) → state k c < 16
state_below k c =
    let l0 = one_le (c k) in
    let l1 = one_le (c (suc k)) in
    let l2 = one_le (c (suc (suc k))) in
    let l3 = one_le (c (suc (suc (suc k)))) in
    omega arith

-- two paths in one state hold the same four bits
state_bits : (k : ℕ) (c y : ℕ → Bool) → state k c ≡ state k y → (i : ℕ) → k ≤ i → i < four k → c i ≡ y i
state_bits k c y e i l h = go (i - k) (omega arith)
  where
    parted : (a0 a1 a2 a3 b0 b1 b2 b3 : ℕ) → a0 ≤ 1 → a1 ≤ 1 → a2 ≤ 1 → a3 ≤ 1 → b0 ≤ 1 → b1 ≤ 1 → b2 ≤ 1 → b3 ≤ 1
        → a0 + 2 * a1 + 4 * a2 + 8 * a3 ≡ b0 + 2 * b1 + 4 * b2 + 8 * b3 → (a0 ≡ b0) × (a1 ≡ b1) × (a2 ≡ b2) × (a3 ≡ b3)
    parted a0 a1 a2 a3 b0 b1 b2 b3 p0 p1 p2 p3 q0 q1 q2 q3 s = (omega arith, omega arith, omega arith, omega arith)

    parts : (one (c k) ≡ one (y k)) × (one (c (suc k)) ≡ one (y (suc k))) × (one (c (suc (suc k))) ≡ one (y (suc (suc k)))) × (one (c (suc (suc (suc k)))) ≡ one (y (suc (suc (suc k)))))
    parts = parted _ _ _ _ _ _ _ _ (one_le (c k)) (one_le (c (suc k))) (one_le (c (suc (suc k)))) (one_le (c (suc (suc (suc k)))))
        (one_le (y k)) (one_le (y (suc k))) (one_le (y (suc (suc k)))) (one_le (y (suc (suc (suc k))))) e

    at : (j : ℕ) → j ≡ i → one (c j) ≡ one (y j) → c i ≡ y i
    at j p q = one_inj (c i) (y i) (subst (λ n. one (c n) ≡ one (y n)) p q)

    go : (t : ℕ) → k + t ≡ i → c i ≡ y i
    go zero p = at k (omega arith) parts.0
    go (suc zero) p = at (suc k) (omega arith) parts.1
    go (suc (suc zero)) p = at (suc (suc k)) (omega arith) parts.2
    go (suc (suc (suc zero))) p = at (suc (suc (suc k))) (omega arith) parts.3
    go (suc (suc (suc (suc t)))) p = absurd (omega arith)

-- the path of a text of m octets ends in the zero state
pub text_ends : (m : ℕ) (text : List ℕ) → length text ≡ m → state (four (8 * m)) (path text) ≡ 0
text_ends m text e =
    let z0 = path_beyond text m (8 * m) e (omega arith) in
    let z1 = path_beyond text m (suc (8 * m)) e (omega arith) in
    let z2 = path_beyond text m (suc (suc (8 * m))) e (omega arith) in
    let z3 = path_beyond text m (suc (suc (suc (8 * m)))) e (omega arith) in
    zeros _ _ _ _ z0 z1 z2 z3
  where
    zeros : (a b c d : Bool) → a ≡ false → b ≡ false → c ≡ false → d ≡ false → one a + 2 * one b + 4 * one c + 8 * one d ≡ 0
    zeros a b c d p q r s = rw (p, q, r, s) refl

-- a path that begins and ends in the zero state is the path of the text that it holds
module _ (m : ℕ) (c : ℕ → Bool) (text : List ℕ) (octets : Octets m text) (begun : state 0 c ≡ 0) (ended : state (four (8 * m)) c ≡ 0)
    (held : (i : ℕ) → i < m → get_or text i 0 ≡ octet i c) where
  halves : (i : ℕ) → i < m
      → (state (four (8 * i)) c ≡ state (four (8 * i)) (path text)) × (state (four (four (8 * i))) c ≡ state (four (four (8 * i))) (path text))
  halves i l =
      let o = octet_of text i (octets.1 i) in
      let h = held i l in
      let c0 = state_below (four (8 * i)) c in
      let y0 = state_below (four (8 * i)) (path text) in
      parted _ _ _ _ c0 y0 (sym h ∙ sym o)
    where
      parted : (a b x y : ℕ) → a < 16 → x < 16 → a + 16 * b ≡ x + 16 * y → (a ≡ x) × (b ≡ y)
      parted a b x y p q e = (omega arith, omega arith)

  holds : Agree (four (four (8 * m))) c (path text)
  holds i l = ⊎_elim low (λ g. ⊎_elim (middle g) high (cases_lt i (four (8 * m)))) (cases_lt i 4)
    where
      low : i < 4 → c i ≡ path text i
      low g = state_bits 0 c (path text) begun i (omega arith) g

      high : four (8 * m) ≤ i → c i ≡ path text i
      high g = state_bits (four (8 * m)) c (path text) (ended ∙ sym (text_ends m text octets.0)) i g l

      middle : 4 ≤ i → i < four (8 * m) → c i ≡ path text i
      middle g h =
          let o = (i - 4) / 8 in
          let r = halves ((i - 4) / 8) (omega arith) in
          ⊎_elim (λ t. state_bits (four (8 * o)) c (path text) r.0 i (omega arith) t)
          (λ t. state_bits (four (four (8 * o))) c (path text) r.1 i t (omega arith))
          (cases_lt i (four (four (8 * o))))

zero_octets : (m : ℕ) → Octets m (replicate m 0)
zero_octets m = (length-replicate {A = ℕ} m 0, λ k. ⊎_elim (λ l. rw (get_or-replicate {A = ℕ} m k 0 0 l) (lit< tt)) (λ g. past (omega (arith, length-replicate {A = ℕ} m 0))) (cases_lt k m))
  where
    past : {k : ℕ} → length {A = ℕ} (replicate m 0) ≤ k → get_or {A = ℕ} (replicate m 0) k 0 < 256
    past l = rw (get_or-eq_default {A = ℕ} (replicate m 0) 0 l) (lit< tt)

-- the best path into the zero state holds the nearest text
module _ (cost : ℕ → Bool → ℕ) (m : ℕ) (bounded : Bounded cost (four (8 * m)) 65535) (short : m ≤ 240) (c : ℕ → Bool)
    (best : Best cost (four (8 * m)) c) (ended : state (four (8 * m)) c ≡ 0) where
  against : (text : List ℕ) → length text ≡ m
      → (path_cost cost (four (8 * m)) c ≤ distance cost text) × (path_cost cost (four (8 * m)) c ≡ distance cost text → value (four (four (8 * m))) c ≤ value (four (four (8 * m))) (path text))
  against text e =
      let b = best (path text) (text_ends m text e ∙ sym ended) in
      let d = cost_of_text cost m text e in
      (omega arith, omega arith)

  began : state 0 c ≡ 0
  began =
      let z = zero_octets m in
      let a = against (replicate m 0) z.0 in
      let d = cost_of_text cost m (replicate m 0) z.0 in
      let u = cost_bound cost (four (8 * m)) 65535 bounded (path (replicate m 0)) in
      let w = cost_bound cost (four (8 * m)) 65535 bounded c in
      begin_zero (state 0 c) (omega arith)

  module _ (text : List ℕ) (size : length text ≡ m) (held : (i : ℕ) → i < m → get_or text i 0 ≡ octet i c) where
    are_octets : Octets m text
    are_octets = (
      size,
      λ k. ⊎_elim (λ l. let h = held k l in let x = state_below (four (8 * k)) c in let y = state_below (four (four (8 * k))) c in omega arith)
          (λ g. past (omega arith)) (cases_lt k m),
    )
      where
        past : {k : ℕ} → length text ≤ k → get_or text k 0 < 256
        past l = rw (get_or-eq_default text 0 l) (lit< tt)

    pub its_distance : distance cost text ≡ path_cost cost (four (8 * m)) c
    its_distance =
        let h = holds m c text are_octets began ended held in
        sym (cost_agree cost (four (8 * m)) c (path text) h ∙ cost_of_text cost m text size)

    pub nearest : Nearest cost m text
    nearest =
        let d = its_distance in
        record {
          octets = are_octets;
          least = λ other o. let a = against other o.0 in omega arith;
          first = λ other o e ne.
              let a = against other o.0 in
              let h = holds m c text are_octets began ended held in
              let v = value_agree (four (four (8 * m))) c (path text) h in
              let p = ends_value (path text) (text_ends m text size) in
              let q = ends_value (path other) (text_ends m other o.0) in
              let u : path_cost cost (four (8 * m)) c ≡ distance cost other = omega arith in
              let w = a.1 u in
              ⊎_elim (λ s. absurd (ne (sym s))) (λ r. r) (value_earlier m text other are_octets o (omega arith));
        }
      where
        ends_value : (y : ℕ → Bool) → state (four (8 * m)) y ≡ 0 → value (four (four (8 * m))) y ≡ value (four (8 * m)) y
        ends_value y e = value_four (four (8 * m)) y ∙ rw e (omega arith)

-- what the two passes leave: the nearest text, and its distance
pub found : (cost : ℕ → Bool → ℕ) (m : ℕ) → m ≤ 240 → (work text : List ℕ) (n metric : ℕ) → Bounded cost n 65535
    → length work ≡ n → n ≡ 8 * m + 4 → length text ≡ m
    → Best cost n (traced work n 0) → metric ≡ path_cost cost n (traced work n 0)
    → ((i : ℕ) → i < m → get_or text i 0 ≡ octet i (traced work (length work) 0))
    → Nearest cost m text × (metric ≡ distance cost text)
found cost m short work text n metric every long steps size best is held =
    let e : n ≡ four (8 * m) = omega arith in
    let bounded : Bounded cost (four (8 * m)) 65535 = subst (λ k. Bounded cost k 65535) e every in
    let c = traced work (four (8 * m)) 0 in
    let b : Best cost (four (8 * m)) c = subst (λ k. Best cost k (traced work k 0)) e best in
    let ended = traced_state work (four (8 * m)) 0 (lit< tt) in
    let holding : (i : ℕ) → i < m → get_or text i 0 ≡ octet i c = λ i l. held i l ∙ ap (λ k. octet i (traced work k 0)) (long ∙ e) in (
      nearest cost m bounded short c b ended text size holding,
      is ∙ (ap (λ k. path_cost cost k (traced work k 0)) e ∙ sym (its_distance cost m bounded short c b ended text size holding)),
    )

-- there is one nearest text only
earlier_once : (a b : List ℕ) → Earlier a b → Earlier b a → ⊥
earlier_once a b p q =
    ⊎_elim (λ e. let r = q.1 in let s : get_or a p.0 0 < get_or b p.0 0 = p.1 in let t : get_or b p.0 0 < get_or a p.0 0 = subst (λ k. get_or b k 0 < get_or a k 0) (sym e) q.1 in omega arith)
    (⊎_elim (λ l. let e = p.2 q.0 l in let r = q.1 in omega arith) (λ l. let e = q.2 p.0 l in let r = p.1 in omega arith))
    (cases_order p.0 q.0)

-- two texts of one length are the same or differ
decided : (m : ℕ) (a b : List ℕ) → Octets m a → Octets m b → (a ≡ b) ⊎ (a ≡ b → ⊥)
decided m a b oa ob =
    ⊎_elim (λ h. ⊎_elim inl (λ p. inr (λ e. apart_at a b p e)) (value_earlier m a b oa ob (omega arith)))
    (λ h. ⊎_elim (λ e. inl (sym e)) (λ p. inr (λ e. apart_at b a p (sym e))) (value_earlier m b a ob oa h))
    (cases_lt (value (four (8 * m)) (path a)) (value (four (8 * m)) (path b)))
  where
    apart_at : (x y : List ℕ) → Earlier x y → x ≡ y → ⊥
    apart_at x y p e =
        let l = p.1 in
        let q : get_or x p.0 0 ≡ get_or y p.0 0 = ap (λ t. get_or t p.0 0) e in
        omega arith

pub nearest_once : (cost : ℕ → Bool → ℕ) (m : ℕ) (a b : List ℕ) → Nearest cost m a → Nearest cost m b → a ≡ b
nearest_once cost m a b na nb = ⊎_elim (λ e. e) (λ ne. absurd (clash ne)) (decided m a b na.octets nb.octets)
  where
    clash : (a ≡ b → ⊥) → ⊥
    clash ne =
        let p = na.least b nb.octets in
        let q = nb.least a na.octets in
        earlier_once a b (na.first b nb.octets (omega arith) (λ e. ne (sym e))) (nb.first a na.octets (omega arith) ne)

-- a text sent with little enough noise is the nearest
pub corrected : (cost : ℕ → Bool → ℕ) (m : ℕ) (sent : List ℕ) (heard : ℕ → Heard) → HeardWithin 15 cost m sent heard → (text : List ℕ) → Nearest cost m text → text ≡ sent
corrected cost m sent heard h text n =
    ⊎_elim (λ e. e)
    (λ ne.
    let c = corrects_fifteen cost m sent heard h text n.octets ne in
    let l = n.least sent h.octets in
    absurd (omega arith))
    (decided m text sent n.octets h.octets)
