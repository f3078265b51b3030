-- The octets of a character: what they are for each range of numbers, and which ranges they lie in.
use Rattle.std.proofs.Common.{◌≡◌, ℕ, suc, ◌+◌, ◌-◌, ◌*◌, ◌/◌, ◌%◌, ◌^◌, ◌<◌, ◌≤◌, true, ◌&&◌, eqb, ◌⊎◌, List, [], ◌∷◌, ◌++◌, length, get_or, drop, fold, bit_and, bit_or, sym, refl, ap, ◌∙◌, subst, inl, inr, ⊎_elim, suc-le-suc, le_trans, arith, lit≤}
use lib.Utf8.{scalar, encode, next, scalar_cases, low_scalar}
use Rattle.std.proofs.lemmas.Bool.{lt-ltb, le-ltb, le-leb, cond-true, cond-false, cond_both, eqb-true, cases_lt}
use Rattle.std.proofs.lemmas.Grind.{or_after_shift}
use Rattle.std.proofs.lemmas.List.Folds.{fold_along}
use Rattle.std.proofs.lemmas.Nat.{and_mask}
use Rattle.std.proofs.lemmas.Str.{encode_ascii}
use Rattle.std.specs.Str.{StartsWithNoChar}
use Rattle.character.specs.Forms.{Tail, Second, least_second, greatest_second, with_behind}

pub two : (c : ℕ) → 128 ≤ c → c < 2048 → encode c ≡ (192 + c / 64) ∷ next c ∷ []
unfolding encode
two c l h = cond-false _ _ _ (le-ltb c 128 l) ∙ cond-true _ _ _ (lt-ltb c 2048 h)

pub three : (c : ℕ) → 2048 ≤ c → c < 65536 → encode c ≡ (224 + c / 4096) ∷ next (c / 64) ∷ next c ∷ []
unfolding encode
three c l h = cond-false _ _ _ (le-ltb c 128 (omega arith)) ∙ cond-false _ _ _ (le-ltb c 2048 l) ∙ cond-true _ _ _ (lt-ltb c 65536 h)

pub four : (c : ℕ) → 65536 ≤ c → encode c ≡ (240 + c / 262144) ∷ next (c / 4096) ∷ next (c / 64) ∷ next c ∷ []
unfolding encode
four c l =
    cond-false _ _ _ (le-ltb c 128 (omega arith)) ∙ cond-false _ _ _ (le-ltb c 2048 (omega arith)) ∙ cond-false _ _ _ (le-ltb c 65536 l)

-- the number of a character is in one of four ranges, each with its own form
pub data Form (c : ℕ) : Type 0 where
  form1 : c < 128 → encode c ≡ c ∷ [] → Form c
  form2 : 128 ≤ c → c < 2048 → encode c ≡ (192 + c / 64) ∷ next c ∷ [] → Form c
  form3 : 2048 ≤ c → c < 65536 → (c < 55296) ⊎ (57344 ≤ c) → encode c ≡ (224 + c / 4096) ∷ next (c / 64) ∷ next c ∷ [] → Form c
  form4 : 65536 ≤ c → c < 1114112 → encode c ≡ (240 + c / 262144) ∷ next (c / 4096) ∷ next (c / 64) ∷ next c ∷ [] → Form c

pub form : (c : ℕ) → scalar c ≡ true → Form c
form c s = by (cases_lt c 128) (cases_lt c 2048) (cases_lt c 65536) (scalar_cases c s)
  where
    by : (c < 128) ⊎ (128 ≤ c) → (c < 2048) ⊎ (2048 ≤ c) → (c < 65536) ⊎ (65536 ≤ c) → (c < 55296) ⊎ ((57344 ≤ c) × (c < 1114112)) → Form c
    by (inl h) _ _ _ = form1 h (encode_ascii c h)
    by (inr l) (inl h) _ _ = form2 l h (two c l h)
    by (inr _) (inr l) (inl h) (inl k) = form3 l h (inl k) (three c l h)
    by (inr _) (inr l) (inl h) (inr k) = form3 l h (inr k.0) (three c l h)
    by (inr _) (inr _) (inr l) (inl k) = absurd (omega arith)
    by (inr _) (inr _) (inr l) (inr k) = form4 l k.1 (four c l)

-- which octets may stand second
record Behind (x y : ℕ) : Type 0 where
  tail : Tail y
  shortest3 : x ≡ 224 → 160 ≤ y
  shortest4 : x ≡ 240 → 144 ≤ y
  surrogate : x ≡ 237 → y < 160
  past : x ≡ 244 → y < 144

second : (x y : ℕ) → Behind x y → Second x y
second x y h = (
  cond_both (eqb x 224) 160 _ (λ n. n ≤ y) (λ e. h.shortest3 (eqb-true x 224 e)) (λ _. cond_both (eqb x 240) 144 128 (λ n. n ≤ y) (λ e. h.shortest4 (eqb-true x 240 e)) (λ _. h.tail.0)),
  cond_both (eqb x 237) 159 _ (λ n. y ≤ n) (λ e. omega (arith, h.surrogate (eqb-true x 237 e))) (λ _. cond_both (eqb x 244) 143 191 (λ n. y ≤ n) (λ e. omega (arith, h.past (eqb-true x 244 e))) (λ _. omega (arith, h.tail.1))),
)

behind : (x y : ℕ) → Second x y → Behind x y
behind x y h =
    let low : 128 ≤ least_second x = cond_both (eqb x 224) 160 _ (λ n. 128 ≤ n) (λ _. lit≤ tt) (λ _. cond_both (eqb x 240) 144 128 (λ n. 128 ≤ n) (λ _. lit≤ tt) (λ _. lit≤ tt)) in
    let top : greatest_second x ≤ 191 = cond_both (eqb x 237) 159 _ (λ n. n ≤ 191) (λ _. lit≤ tt) (λ _. cond_both (eqb x 244) 143 191 (λ n. n ≤ 191) (λ _. lit≤ tt) (λ _. lit≤ tt)) in
    record {
      tail = (le_trans low h.0, lt_of (le_trans h.1 top));
      shortest3 = λ e. subst (λ n. least_second n ≤ y) e h.0;
      shortest4 = λ e. subst (λ n. least_second n ≤ y) e h.0;
      surrogate = λ e. lt_of (subst (λ n. y ≤ greatest_second n) e h.1);
      past = λ e. lt_of (subst (λ n. y ≤ greatest_second n) e h.1);
    }
  where
    lt_of : {m n : ℕ} → m ≤ n → m < suc n
    lt_of k = suc-le-suc k

-- of n octets that begin x, y, z, w: they begin with a character
pub record Ranged (n x y z w : ℕ) : Type 0 where
  pub lead : 128 ≤ x → (194 ≤ x) × (x < 245) × (1 < n) × Second x y
  pub third : 224 ≤ x → (2 < n) × Tail z
  pub fourth : 240 ≤ x → (3 < n) × Tail w

abbrev pub RangedAt : List ℕ → Type 0
RangedAt l = Ranged (length l) (get_or l 0 0) (get_or l 1 0) (get_or l 2 0) (get_or l 3 0)

ranged : (c : ℕ) (r : List ℕ) → Form c → RangedAt (encode c ++ r)
ranged c r (form1 h e) = subst (λ p. RangedAt (p ++ r)) (sym e) (record {
  lead = λ t. absurd (omega arith);
  third = λ t. absurd (omega arith);
  fourth = λ t. absurd (omega arith);
})
ranged c r (form2 l h e) = subst (λ p. RangedAt (p ++ r)) (sym e) (record {
  lead = λ t. (
    omega arith,
    omega arith,
    omega arith,
    second (192 + c / 64) (next c) (record {
      tail = (omega arith, omega arith);
      shortest3 = λ q. absurd (omega arith);
      shortest4 = λ q. absurd (omega arith);
      surrogate = λ q. absurd (omega arith);
      past = λ q. absurd (omega arith);
    }),
  );
  third = λ t. absurd (omega arith);
  fourth = λ t. absurd (omega arith);
})
ranged c r (form3 l h k e) = subst (λ p. RangedAt (p ++ r)) (sym e) (record {
  lead = λ t. (
    omega arith,
    omega arith,
    omega arith,
    second (224 + c / 4096) (next (c / 64)) (record {
      tail = (omega arith, omega arith);
      shortest3 = λ q. omega arith;
      shortest4 = λ q. absurd (omega arith);
      surrogate = λ q. ⊎_elim (λ v. omega arith) (λ v. absurd (omega arith)) k;
      past = λ q. absurd (omega arith);
    }),
  );
  third = λ t. (omega arith, (omega arith, omega arith));
  fourth = λ t. absurd (omega arith);
})
ranged c r (form4 l h e) = subst (λ p. RangedAt (p ++ r)) (sym e) (record {
  lead = λ t. (
    omega arith,
    omega arith,
    omega arith,
    second (240 + c / 262144) (next (c / 4096)) (record {
      tail = (omega arith, omega arith);
      shortest3 = λ q. absurd (omega arith);
      shortest4 = λ q. omega arith;
      surrogate = λ q. absurd (omega arith);
      past = λ q. omega arith;
    }),
  );
  third = λ t. (omega arith, (omega arith, omega arith));
  fourth = λ t. (omega arith, (omega arith, omega arith));
})

-- octets that are not so ranged begin with no character
pub no_char : (xs : List ℕ) → (RangedAt xs → ⊥) → StartsWithNoChar xs
no_char xs h c r s e = h (subst RangedAt (sym e) (ranged c r (form c s)))

-- octets that begin with those of a character
abbrev pub Begins : List ℕ → ℕ → Type 0
Begins xs c = (scalar c ≡ true) × (xs ≡ encode c ++ drop (length (encode c)) xs)

begun : (xs p : List ℕ) (c : ℕ) → encode c ≡ p → xs ≡ p ++ drop (length p) xs → xs ≡ encode c ++ drop (length (encode c)) xs
begun xs p c e h = subst (λ q. xs ≡ q ++ drop (length q) xs) (sym e) h

high : (c : ℕ) → 57344 ≤ c → c < 1114112 → scalar c ≡ true
high c l u = cond-false _ _ _ (le-ltb c 55296 (omega arith)) ∙ (λ k. le-leb 57344 c l k && lt-ltb c 1114112 u k)

pub of_two : (x : ℕ) (xs : List ℕ) (c : ℕ) → 0 < length xs → 194 ≤ x → x < 224 → Second x (get_or xs 0 0) → c ≡ with_behind (bit_and x 31) (get_or xs 0 0 ∷ []) → Begins (x ∷ xs) c
of_two x [] c l a b t e = absurd (omega arith)
of_two x (y ∷ xs) c l a b t e =
    let u : Tail y = (behind x y t).tail in
    let n : c ≡ (x - 192) * 64 + (y - 128) = omega (arith, e, and_mask x 5) in
    let p : x ≡ 192 + c / 64 = omega arith in
    let q : y ≡ next c = omega arith in
    (low_scalar c (omega arith), begun (x ∷ y ∷ xs) (x ∷ y ∷ []) c (two c (omega arith) (omega arith) ∙ sym (λ k. p k ∷ q k ∷ [])) refl)

pub of_three : (x : ℕ) (xs : List ℕ) (c : ℕ) → 1 < length xs → 224 ≤ x → x < 240 → Second x (get_or xs 0 0) → Tail (get_or xs 1 0)
    → c ≡ with_behind (bit_and x 15) (get_or xs 0 0 ∷ get_or xs 1 0 ∷ []) → Begins (x ∷ xs) c
of_three x [] c l a b t u e = absurd (omega arith)
of_three x (y ∷ []) c l a b t u e = absurd (omega arith)
of_three x (y ∷ z ∷ xs) c l a b t u e =
    let i : Behind x y = behind x y t in
    let v : Tail y = i.tail in
    let n : c ≡ (x - 224) * 4096 + (y - 128) * 64 + (z - 128) = omega (arith, e, and_mask x 4) in
    let p : x ≡ 224 + c / 4096 = omega arith in
    let h : c / 64 ≡ (x - 224) * 64 + (y - 128) = omega arith in
    let q : y ≡ next (c / 64) = subst (λ (m : ℕ). y ≡ next m) (sym h) (omega arith) in
    let r : z ≡ next c = omega arith in
    let least : 2048 ≤ c = ⊎_elim (λ (k : x < 225). let e : x ≡ 224 = omega arith in omega (arith, i.shortest3 e)) (λ k. omega arith) (cases_lt x 225) in
    let sc : scalar c ≡ true = ⊎_elim (λ k. low_scalar c k) (λ k. high c (⊎_elim (λ (v : x < 238). let e : x ≡ 237 = omega arith in absurd (omega (arith, i.surrogate e))) (λ v. omega arith) (cases_lt x 238)) (omega arith)) (cases_lt c 55296) in
    (sc, begun (x ∷ y ∷ z ∷ xs) (x ∷ y ∷ z ∷ []) c (three c least (omega arith) ∙ sym (λ k. p k ∷ q k ∷ r k ∷ [])) refl)

pub of_four : (x : ℕ) (xs : List ℕ) (c : ℕ) → 2 < length xs → 240 ≤ x → x < 245 → Second x (get_or xs 0 0) → Tail (get_or xs 1 0) → Tail (get_or xs 2 0)
    → c ≡ with_behind (bit_and x 7) (get_or xs 0 0 ∷ get_or xs 1 0 ∷ get_or xs 2 0 ∷ []) → Begins (x ∷ xs) c
of_four x [] c l a b t u v e = absurd (omega arith)
of_four x (y ∷ []) c l a b t u v e = absurd (omega arith)
of_four x (y ∷ z ∷ []) c l a b t u v e = absurd (omega arith)
of_four x (y ∷ z ∷ o ∷ xs) c l a b t u v e =
    let f : Behind x y = behind x y t in
    let g : Tail y = f.tail in
    let d : ℕ = (x - 240) * 4096 + (y - 128) * 64 + (z - 128) in
    let n : c ≡ d * 64 + (o - 128) = omega (arith, e, and_mask x 3) in
    let h : c / 64 ≡ d = omega arith in
    let p : x ≡ 240 + c / 262144 = omega arith in
    let q : y ≡ next (c / 4096) = omega arith in
    let r : z ≡ next (c / 64) = subst (λ (m : ℕ). z ≡ next m) (sym h) (omega arith) in
    let i : o ≡ next c = omega arith in
    let least : 65536 ≤ c = ⊎_elim (λ (k : x < 241). let e : x ≡ 240 = omega arith in omega (arith, f.shortest4 e)) (λ k. omega arith) (cases_lt x 241) in
    let most : c < 1114112 = ⊎_elim (λ k. omega arith) (λ (k : 244 ≤ x). let e : x ≡ 244 = omega arith in omega (arith, f.past e)) (cases_lt x 244) in
    (high c (omega arith) most, begun (x ∷ y ∷ z ∷ o ∷ xs) (x ∷ y ∷ z ∷ o ∷ []) c (four c least ∙ sym (λ k. p k ∷ q k ∷ r k ∷ i k ∷ [])) refl)

-- ---- six bits more, as the program adds them
abbrev pub shifted : ℕ → ℕ → ℕ
shifted number octet = bit_or (number * 64 % 2 ^ 32) (bit_and octet 63)

shifted_more : (n m octet : ℕ) → (m < 2 ^ 32 → n ≡ m) → m * 64 + octet % 64 < 2 ^ 32 → shifted n octet ≡ m * 64 + octet % 64
shifted_more n m octet e l =
    ap (λ k. shifted k octet) (e (omega arith)) ∙ ap (bit_or (m * 64 % 2 ^ 32)) (and_mask octet 6) ∙ or_after_shift m 64 (2 ^ 32) (octet % 64) refl (omega arith) (omega arith)

-- where it comes to the number of a character, no bit is lost
pub shifted_behind : (first : ℕ) (octets : List ℕ) (number : ℕ) → scalar (with_behind first octets) ≡ true → number ≡ fold shifted first octets → (scalar number ≡ true) × (number ≡ with_behind first octets)
shifted_behind first octets number s h =
    let e : number ≡ with_behind first octets = h ∙ fold_along shifted (λ n octet. n * 64 + octet % 64) (λ n m. m < 2 ^ 32 → n ≡ m) shifted_more first first octets (λ _. refl) (below (scalar_cases _ s)) in
    (ap scalar e ∙ s, e)
  where
    below : {n : ℕ} → (n < 55296) ⊎ ((57344 ≤ n) × (n < 1114112)) → n < 2 ^ 32
    below (inl h) = omega arith
    below (inr h) = omega arith
