-- The path that the decisions lead back to, and one step of the search.
use Rattle.std.proofs.Common.{◌≡◌, ℕ, zero, suc, ◌+◌, ◌*◌, ◌/◌, ◌%◌, ◌^◌, ◌<◌, ◌≤◌, Bool, true, false, cond, eqb, ltb, List, [], ◌∷◌, get_or, replicate, sym, refl, ap, ◌∙◌, subst, add-zero, arith}
use lib.Dec.{eqb-suc-zero}
use lib.ListN.{get_or-replicate}
use Rattle.std.proofs.lemmas.Bool.{eq-eqb, ne_eqb, ltb-true, ltb-false, cond-true, cond-false}
use Rattle.distance.specs.Trellis.{four, one, state, begin_cost, sent, four_cost, branch, path_cost, value, Best, put, back, four_back, octet, traced, Survivors, odd, label_cost, bits_of, label, candidate, Chosen}
use Rattle.distance.proofs.Paths.{Agree, one_le, one_inj, state_agree, cost_agree, best_agree, cost_suc, stays, turns}

pub put_same : (c : ℕ → Bool) (n : ℕ) (b : Bool) → put c n b n ≡ b
put_same c n b = rw (eq-eqb n n refl) refl

pub put_below : (c : ℕ → Bool) (n : ℕ) (b : Bool) → Agree n (put c n b) c
put_below c n b i l = let e : eqb i n ≡ false = ne_eqb i n (omega arith) in rw e refl

pub back_below : (s w : ℕ) → back s w < 16
back_below s w = omega arith

one_eqb : (x : ℕ) → x < 2 → one (eqb x 1) ≡ x
one_eqb zero h = refl
one_eqb (suc zero) h = refl
one_eqb (suc (suc x)) h = absurd (omega arith)

-- a path one step on: its state
put_state : (x : ℕ → Bool) (k s d : ℕ) → s < 16 → d < 2 → state k x ≡ 2 * (s % 8) + d → state (suc k) (put x (four k) (eqb (s / 8) 1)) ≡ s
put_state x k s d h l e =
    let c = put x (four k) (eqb (s / 8) 1) in
    let p1 = ap one (put_below x (four k) (eqb (s / 8) 1) (suc k) (omega arith)) in
    let p2 = ap one (put_below x (four k) (eqb (s / 8) 1) (suc (suc k)) (omega arith)) in
    let p3 = ap one (put_below x (four k) (eqb (s / 8) 1) (suc (suc (suc k))) (omega arith)) in
    let p4 = ap one (put_same x (four k) (eqb (s / 8) 1)) ∙ one_eqb (s / 8) (omega arith) in
    let x0 = one_le (x k) in
    summed s d _ _ _ _ _ _ _ _ h l x0 e p1 p2 p3 p4
  where
    summed : (s d x0 x1 x2 x3 c1 c2 c3 c4 : ℕ) → s < 16 → d < 2 → x0 ≤ 1 → x0 + 2 * x1 + 4 * x2 + 8 * x3 ≡ 2 * (s % 8) + d
        → c1 ≡ x1 → c2 ≡ x2 → c3 ≡ x3 → c4 ≡ s / 8 → c1 + 2 * c2 + 4 * c3 + 8 * c4 ≡ s
    summed s d x0 x1 x2 x3 c1 c2 c3 c4 h l x e p1 p2 p3 p4 = omega arith

-- a traced path is in the state that it was traced from
pub traced_state : (work : List ℕ) (k s : ℕ) → s < 16 → state k (traced work k s) ≡ s
unfolding traced
traced_state work zero s h = summed s _ _ _ _ h (one_eqb (s / 1 % 2) (omega arith)) (one_eqb (s / 2 % 2) (omega arith)) (one_eqb (s / 4 % 2) (omega arith)) (one_eqb (s / 8 % 2) (omega arith))
  where
    summed : (s x0 x1 x2 x3 : ℕ) → s < 16 → x0 ≡ s / 1 % 2 → x1 ≡ s / 2 % 2 → x2 ≡ s / 4 % 2 → x3 ≡ s / 8 % 2 → x0 + 2 * x1 + 4 * x2 + 8 * x3 ≡ s
    summed s x0 x1 x2 x3 h p0 p1 p2 p3 =
        let f0 : s / 1 % 2 + 2 * (s / 2) ≡ s = omega arith in
        let f1 : s / 2 % 2 + 2 * (s / 4) ≡ s / 2 = omega arith in
        let f2 : s / 4 % 2 + 2 * (s / 8) ≡ s / 4 = omega arith in
        let f3 : s / 8 % 2 ≡ s / 8 = omega arith in
        omega arith
traced_state work (suc k) s h =
    put_state (traced work k (back s (get_or work k 0))) k s (get_or work k 0 / 2 ^ s % 2) h (omega arith)
    (traced_state work k (back s (get_or work k 0)) (back_below s (get_or work k 0)))

-- one step back: the same path, below its last bit
pub traced_back : (work : List ℕ) (k s : ℕ) → Agree (four k) (traced work (suc k) s) (traced work k (back s (get_or work k 0)))
unfolding traced
traced_back work k s i l = put_below (traced work k (back s (get_or work k 0))) (four k) (eqb (s / 8) 1) i l

-- tracing looks at the decisions below k alone
pub traced_same : (a b : List ℕ) (k s : ℕ) → ((j : ℕ) → j < k → get_or a j 0 ≡ get_or b j 0) → (i : ℕ) → traced a k s i ≡ traced b k s i
unfolding traced
traced_same a b zero s h i = refl
traced_same a b (suc k) s h i =
    let e : back s (get_or a k 0) ≡ back s (get_or b k 0) = ap (back s) (h k (omega arith)) in
    let r = traced_same a b k (back s (get_or b k 0)) (λ j l. h j (omega arith)) i in
    ap (λ x. cond (eqb i (four k)) (eqb (s / 8) 1) x) (ap (λ t. traced a k t i) e ∙ r)

-- the costs by label are the costs of branches
odd_one : (x : ℕ) (b : Bool) → x % 2 ≡ one b → odd x ≡ b
odd_one x true e = eq-eqb (x % 2) 1 e
odd_one x false e = ne_eqb (x % 2) 1 (omega arith)

bits_back : (a b c d e : Bool) → bits_of (one a + 2 * one b + 4 * one c + 8 * one d + 16 * one e) ≡ e ∷ d ∷ c ∷ b ∷ a ∷ []
bits_back a b c d e =
    let v = one a + 2 * one b + 4 * one c + 8 * one d + 16 * one e in
    let la = one_le a in
    let lb = one_le b in
    let lc = one_le c in
    let ld = one_le d in
    let le = one_le e in
    let p0 = odd_one v a (omega arith) in
    let p1 = odd_one (v / 2) b (omega arith) in
    let p2 = odd_one (v / 4) c (omega arith) in
    let p3 = odd_one (v / 8) d (omega arith) in
    let p4 = odd_one (v / 16) e (omega arith) in
    cc

label_cost_of : (cost : ℕ → Bool → ℕ) (k : ℕ) (p q r s : Bool)
    → label_cost cost k (one p + 2 * one q + 4 * one r + 8 * one s) ≡ four_cost cost k p q r s
label_cost_of cost k p q r s =
    let v = one p + 2 * one q + 4 * one r + 8 * one s in
    let lp = one_le p in
    let lq = one_le q in
    let lr = one_le r in
    let ls = one_le s in
    let p0 = odd_one v p (omega arith) in
    let p1 = odd_one (v / 2) q (omega arith) in
    let p2 = odd_one (v / 4) r (omega arith) in
    let p3 = odd_one (v / 8) s (omega arith) in
    cc

label_below : (v : ℕ) → label v < 16
label_below v =
    let l0 = one_le (sent (bits_of v) 0) in
    let l1 = one_le (sent (bits_of v) 1) in
    let l2 = one_le (sent (bits_of v) 2) in
    let l3 = one_le (sent (bits_of v) 3) in
    omega arith

-- a branch's cost, read off by its label
branch_label : (cost : ℕ → Bool → ℕ) (k : ℕ) (costs : List ℕ) → ((q : ℕ) → q < 16 → get_or costs q 0 ≡ label_cost cost k q)
    → (c : ℕ → Bool) → get_or costs (label (state k c + 16 * one (c (four k)))) 0 ≡ branch cost k c
branch_label cost k costs h c =
    let w = bits_back (c k) (c (suc k)) (c (suc (suc k))) (c (suc (suc (suc k)))) (c (four k)) in
    let v = state k c + 16 * one (c (four k)) in
    h (label v) (label_below v) ∙ (label_cost_of cost k (sent (bits_of v) 0) (sent (bits_of v) 1) (sent (bits_of v) 2) (sent (bits_of v) 3)
    ∙ ap (λ u. four_cost cost k (sent u 0) (sent u 1) (sent u 2) (sent u 3)) w)

-- one step of the search: where each state takes the cheaper candidate, the survivors go on
module _ (cost : ℕ → Bool → ℕ) (k : ℕ) (work next metrics costs new : List ℕ) (decisions : ℕ)
    (survivors : Survivors cost k work metrics) (priced : (q : ℕ) → q < 16 → get_or costs q 0 ≡ label_cost cost k q)
    (kept : (j : ℕ) → j < k → get_or next j 0 ≡ get_or work j 0) (written : get_or next k 0 ≡ decisions)
    (chosen : (s : ℕ) → s < 16 → Chosen metrics costs new decisions s) where
  -- the path that comes to s where d drops out
  abbrev coming : ℕ → ℕ → ℕ → Bool
  coming s d = put (traced work k (2 * (s % 8) + d)) (four k) (eqb (s / 8) 1)

  coming_best : (s d : ℕ) → s < 16 → d < 2 → Best cost k (coming s d)
  coming_best s d h l =
      best_agree cost k (traced work k (2 * (s % 8) + d)) (coming s d)
      (λ i g. sym (put_below (traced work k (2 * (s % 8) + d)) (four k) (eqb (s / 8) 1) i g))
      (survivors (2 * (s % 8) + d) (omega arith)).0

  coming_from : (s d : ℕ) → s < 16 → d < 2 → state k (coming s d) ≡ 2 * (s % 8) + d
  coming_from s d h l =
      state_agree k (coming s d) (traced work k (2 * (s % 8) + d)) (put_below (traced work k (2 * (s % 8) + d)) (four k) (eqb (s / 8) 1))
      ∙ traced_state work k (2 * (s % 8) + d) (omega arith)

  coming_to : (s d : ℕ) → s < 16 → d < 2 → state (suc k) (coming s d) ≡ s
  coming_to s d h l =
      put_state (traced work k (2 * (s % 8) + d)) k s d h l (traced_state work k (2 * (s % 8) + d) (omega arith))

  coming_cost : (s d : ℕ) → s < 16 → d < 2 → path_cost cost (suc k) (coming s d) ≡ candidate metrics costs s d
  coming_cost s d h l =
      let x = traced work k (2 * (s % 8) + d) in
      let p = cost_suc cost k (coming s d) in
      let a = cost_agree cost k (coming s d) x (put_below x (four k) (eqb (s / 8) 1)) in
      let m = (survivors (2 * (s % 8) + d) (omega arith)).1 in
      let b = branch_label cost k costs priced (coming s d) in
      let f = coming_from s d h l in
      let g : one (coming s d (four k)) ≡ s / 8 = ap one (put_same x (four k) (eqb (s / 8) 1)) ∙ one_eqb (s / 8) (omega arith) in
      let v : state k (coming s d) + 16 * one (coming s d (four k)) ≡ 2 * (s % 8) + d + 16 * (s / 8) = omega arith in
      let e : get_or costs (label (state k (coming s d) + 16 * one (coming s d (four k)))) 0 ≡ get_or costs (label (2 * (s % 8) + d + 16 * (s / 8))) 0 =
      ap (λ u. get_or costs (label u) 0) v in
      omega arith

  -- the bit that drops out
  drops : (s d : ℕ) → s < 16 → d < 2 → one (coming s d k) ≡ d
  drops s d h l =
      let f = coming_from s d h l in
      let u = one_le (coming s d k) in
      halves _ _ _ _ (s % 8) d u l f
    where
      halves : (x0 x1 x2 x3 t d : ℕ) → x0 ≤ 1 → d < 2 → x0 + 2 * x1 + 4 * x2 + 8 * x3 ≡ 2 * t + d → x0 ≡ d
      halves x0 x1 x2 x3 t d u l e = omega arith

  -- the traced path is the one that came
  traced_coming : (s d : ℕ) → decisions / 2 ^ s % 2 ≡ d → Agree (four (suc k)) (coming s d) (traced next (suc k) s)
  unfolding traced
  traced_coming s d e i l =
      let w : back s (get_or next k 0) ≡ 2 * (s % 8) + d = ap (back s) written ∙ ap (λ x. 2 * (s % 8) + x) e in
      let r = traced_same next work k (2 * (s % 8) + d) kept i in
      sym (ap (λ x. cond (eqb i (four k)) (eqb (s / 8) 1) x) (ap (λ t. traced next k t i) w ∙ r))

  meeting : (s : ℕ) → s < 16 → state (suc k) (coming s 0) ≡ state (suc k) (coming s 1)
  meeting s h = coming_to s 0 h (omega arith) ∙ sym (coming_to s 1 h (omega arith))

  -- what came is the survivor, and its metric stands
  survives : (s d : ℕ) → s < 16 → d < 2 → decisions / 2 ^ s % 2 ≡ d → Best cost (suc k) (coming s d) → get_or new s 0 ≡ candidate metrics costs s d
      → Best cost (suc k) (traced next (suc k) s) × (get_or new s 0 ≡ path_cost cost (suc k) (traced next (suc k) s))
  survives s d h l e best m = (
    best_agree cost (suc k) (coming s d) (traced next (suc k) s) (traced_coming s d e) best,
    m ∙ (sym (coming_cost s d h l) ∙ cost_agree cost (suc k) (coming s d) (traced next (suc k) s) (traced_coming s d e)),
  )

  pub step : Survivors cost (suc k) next new
  step s h = go (ltb (candidate metrics costs s 1) (candidate metrics costs s 0)) refl
    where
      zeros : coming s 0 k ≡ false
      zeros = one_inj (coming s 0 k) false (drops s 0 h (omega arith))

      ones : coming s 1 k ≡ true
      ones = one_inj (coming s 1 k) true (drops s 1 h (omega arith))

      go : (b : Bool) → ltb (candidate metrics costs s 1) (candidate metrics costs s 0) ≡ b
          → Best cost (suc k) (traced next (suc k) s) × (get_or new s 0 ≡ path_cost cost (suc k) (traced next (suc k) s))
      go true t =
          let p = coming_cost s 0 h (omega arith) in
          let q = coming_cost s 1 h (omega arith) in
          let l = ltb-true (candidate metrics costs s 1) (candidate metrics costs s 0) t in
          survives s 1 h (omega arith) ((chosen s h).1 ∙ ap one t)
          (turns cost k (coming s 0) (coming s 1) zeros ones (meeting s h) (coming_best s 0 h (omega arith)) (coming_best s 1 h (omega arith)) (omega arith))
          ((chosen s h).0 ∙ cond-true _ _ _ t)
      go false t =
          let p = coming_cost s 0 h (omega arith) in
          let q = coming_cost s 1 h (omega arith) in
          let l = ltb-false (candidate metrics costs s 1) (candidate metrics costs s 0) t in
          survives s 0 h (omega arith) ((chosen s h).1 ∙ ap one t)
          (stays cost k (coming s 0) (coming s 1) zeros ones (meeting s h) (coming_best s 0 h (omega arith)) (coming_best s 1 h (omega arith)) (omega arith))
          ((chosen s h).0 ∙ cond-false _ _ _ t)

-- before the first step: nothing in the zero state, and more than any text can cost in the others
pub begins : (cost : ℕ → Bool → ℕ) (work metrics : List ℕ) → ((s : ℕ) → s < 16 → get_or metrics s 0 ≡ begin_cost s) → Survivors cost 0 work metrics
unfolding path_cost value
begins cost work metrics h s l =
    let e = traced_state work 0 s l in (
      λ y p. let b : begin_cost (state 0 y) ≡ begin_cost (state 0 (traced work 0 s)) = ap begin_cost p in (omega arith, λ _. omega arith),
      h s l ∙ (ap begin_cost (sym e) ∙ sym (add-zero _)),
    )

-- the metrics before the first step
pub begin_metrics : (s : ℕ) → s < 16 → get_or {A = ℕ} (0 ∷ replicate 15 (2 ^ 30)) s 0 ≡ begin_cost s
begin_metrics zero h = refl
begin_metrics (suc s) h = get_or-replicate 15 s (2 ^ 30) 0 (omega arith) ∙ sym (ap (λ t. cond t 0 (2 ^ 30)) (eqb-suc-zero s))

-- four steps back: the same path, below its last four bits
pub four_traced : (work : List ℕ) (k s : ℕ) → Agree (four k) (traced work (four k) s) (traced work k (four_back work k s))
four_traced work k s i l =
    let e3 : suc (suc (suc k)) ≡ k + 3 = omega arith in
    let e2 : suc (suc k) ≡ k + 2 = omega arith in
    let e1 : suc k ≡ k + 1 = omega arith in
    let s3 : back s (get_or work (suc (suc (suc k))) 0) ≡ back s (get_or work (k + 3) 0) = ap (λ n. back s (get_or work n 0)) e3 in
    let b3 = back s (get_or work (k + 3) 0) in
    let s2 : back b3 (get_or work (suc (suc k)) 0) ≡ back b3 (get_or work (k + 2) 0) = ap (λ n. back b3 (get_or work n 0)) e2 in
    let b2 = back b3 (get_or work (k + 2) 0) in
    let s1 : back b2 (get_or work (suc k) 0) ≡ back b2 (get_or work (k + 1) 0) = ap (λ n. back b2 (get_or work n 0)) e1 in
    let b1 = back b2 (get_or work (k + 1) 0) in
    traced_back work (suc (suc (suc k))) s i (omega arith) ∙ (ap (λ n. traced work (suc (suc (suc k))) n i) s3
    ∙ (traced_back work (suc (suc k)) b3 i (omega arith) ∙ (ap (λ n. traced work (suc (suc k)) n i) s2
    ∙ (traced_back work (suc k) b2 i (omega arith) ∙ (ap (λ n. traced work (suc k) n i) s1
    ∙ traced_back work k b1 i l)))))

-- the way back over one octet: eight steps, whose two states are the octet
module _ (work : List ℕ) (c : ℕ → Bool) (i o s high low : ℕ) (next : i ≡ suc o)
    (agree : Agree (four (four (8 * i))) c (traced work (four (8 * i)) s))
    (high_is : high ≡ four_back work (8 * o + 8) s) (low-is : low ≡ four_back work (8 * o + 4) high) where
  upper : Agree (four (four (four (8 * o)))) c (traced work (four (four (8 * o))) high)
  upper j l =
      let e : four (8 * i) ≡ four (four (four (8 * o))) = omega arith in
      let k : 8 * o + 8 ≡ four (four (8 * o)) = omega arith in
      agree j (omega arith) ∙ (ap (λ n. traced work n s j) e
      ∙ (four_traced work (four (four (8 * o))) s j l ∙ ap (λ t. traced work (four (four (8 * o))) t j) (sym (high_is ∙ ap (λ n. four_back work n s) k))))

  pub octet_agree : Agree (four (four (8 * o))) c (traced work (four (8 * o)) low)
  octet_agree j l =
      let k : 8 * o + 4 ≡ four (8 * o) = omega arith in
      upper j (omega arith) ∙ (four_traced work (four (8 * o)) high j l ∙ ap (λ t. traced work (four (8 * o)) t j) (sym (low-is ∙ ap (λ n. four_back work n high) k)))

  high_below : high < 16
  high_below = subst (λ n. n < 16) (sym high_is) (back_below _ (get_or work (8 * o + 8) 0))

  pub low_below : low < 16
  low_below = subst (λ n. n < 16) (sym low-is) (back_below _ (get_or work (8 * o + 4) 0))

  pub octet_back : low + 16 * high ≡ octet o c
  octet_back =
      let a = state_agree (four (four (8 * o))) c (traced work (four (four (8 * o))) high) upper in
      let b = state_agree (four (8 * o)) c (traced work (four (8 * o)) low) octet_agree in
      let p = traced_state work (four (four (8 * o))) high high_below in
      let q = traced_state work (four (8 * o)) low low_below in
      omega arith
