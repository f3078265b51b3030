-- Laws of counting places: the first place that passes a test, how many pass, and the markers that stand there.
use Rattle.std.proofs.Common.{◌≡◌, ℕ, zero, suc, ◌+◌, ◌-◌, ◌*◌, ◌/◌, ◌<◌, ◌≤◌, min, Bool, true, false, cond, T, leb, List, [], ◌∷◌, ◌++◌, length, get_or, filter, sym, refl, ap, ◌∙◌, subst, inl, inr, le_of_suc-le-suc, not-suc-le-zero, add-zero, suc-add, mul-le-mul_left, zero-add, arith}
use native.Mathlib.Nat.{mul-div-le, lt-mul-div-succ}
use Rattle.std.proofs.lemmas.Bool.{cases_Bool, cases_lt, cases_order, le-leb, lt-leb}
use Rattle.std.proofs.lemmas.List.{length-map, length_push, get_or-map, get_or_push, get_or_append_left, append-nil}
use Rattle.std.specs.List.{range_with_len}
use Rattle.stage.specs.declared.Marker.{Marker}
use Rattle.stage.specs.Meaning.{first_place}
use Rattle.layout.specs.Places.{how_many, terms_to, markers_at}

-- a passed test, both ways round
pub T_true : (b : Bool) → T b → b ≡ true
T_true true t = refl
T_true false t = absurd t

pub true_T : (b : Bool) → b ≡ true → T b
true_T b e = subst T (sym e) tt

-- the first place that passes a test is the one that does where none before it does
pub first_place_is : (test : ℕ → Bool) (n p : ℕ) → p < n → T (test p) → ((q : ℕ) → q < p → T (test q) → ⊥) → first_place test n ≡ p
first_place_is test zero p h t none = absurd (not-suc-le-zero h)
first_place_is test (suc n) zero h t none = ap (λ b. cond b zero (suc (first_place (λ q. test (suc q)) n))) (T_true (test zero) t)
first_place_is test (suc n) (suc p) h t none =
    let f : test zero ≡ false = elim (cases_Bool (test zero)) [ inl e ↦ absurd (none zero (omega arith) (true_T (test zero) e)) | inr e ↦ e ] in
    ap (λ b. cond b zero (suc (first_place (λ q. test (suc q)) n))) f
    ∙ ap suc (first_place_is (λ q. test (suc q)) n p (le_of_suc-le-suc h) t (λ q l. none (suc q) (omega arith)))

-- one more place, which passes or not
pub how_many_yes : (test : ℕ → Bool) (p : ℕ) → test p ≡ true → how_many test (suc p) ≡ suc (how_many test p)
how_many_yes test p e = ap (λ b. cond b (suc (how_many test p)) (how_many test p)) e

pub how_many_no : (test : ℕ → Bool) (p : ℕ) → test p ≡ false → how_many test (suc p) ≡ how_many test p
how_many_no test p e = ap (λ b. cond b (suc (how_many test p)) (how_many test p)) e

-- it grows by at most one with each place
pub how_many_step : (test : ℕ → Bool) (p : ℕ) → (how_many test p ≤ how_many test (suc p)) × (how_many test (suc p) ≤ suc (how_many test p))
how_many_step test p =
    elim (cases_Bool (test p)) [ inl e ↦ (omega (arith, how_many_yes test p e), omega (arith, how_many_yes test p e)) | inr e ↦ (omega (arith, how_many_no test p e), omega (arith, how_many_no test p e)) ]

pub how_many_most : (test : ℕ → Bool) (p : ℕ) → how_many test p ≤ p
how_many_most test zero = omega arith
how_many_most test (suc p) = omega (arith, (how_many_step test p).1, how_many_most test p)

pub how_many_grows : (test : ℕ → Bool) (p k : ℕ) → how_many test p ≤ how_many test (k + p)
how_many_grows test p zero = rw zero-add (omega arith)
how_many_grows test p (suc k) = rw suc-add (omega (arith, (how_many_step test (k + p)).0, how_many_grows test p k))

-- where no place from p on passes it stays
pub how_many_past : (test : ℕ → Bool) (p k : ℕ) → ((q : ℕ) → p ≤ q → test q ≡ false) → how_many test (k + p) ≡ how_many test p
how_many_past test p zero none = rw zero-add refl
how_many_past test p (suc k) none = rw suc-add (how_many_no test (k + p) (none (k + p) (omega arith)) ∙ how_many_past test p k none)

-- where every place below a bound passes it is the place
pub how_many_all : (test : ℕ → Bool) (n : ℕ) → ((q : ℕ) → q < n → test q ≡ true) → (p : ℕ) → p ≤ n → how_many test p ≡ p
how_many_all test n all zero h = refl
how_many_all test n all (suc p) h = how_many_yes test p (all p h) ∙ ap suc (how_many_all test n all p (omega arith))

-- the terms of a progression that are at most x, by a division
pub terms_none : (x first step count : ℕ) → x < first → terms_to x first step count ≡ 0
terms_none x first step count h =
    let counted = how_many_past (λ k. leb (first + step * k) x) 0 count (λ k _. lt-leb (first + step * k) x (omega arith)) in
    rw add-zero at counted

pub terms_some : (x first step count : ℕ) → 0 < step → first ≤ x → terms_to x first step count ≡ min count ((x - first) / step + 1)
terms_some x first step count pos h =
    let last = (x - first) / step in
    let test : ℕ → Bool = λ k. leb (first + step * k) x in
    let reached : (k : ℕ) → k < last + 1 → test k ≡ true = λ k l. le-leb (first + step * k) x (omega (arith, mul-le-mul_left {m = k} {n = (x - first) / step} step (omega arith), mul-div-le (x - first) step)) in
    let missed : (k : ℕ) → last + 1 ≤ k → test k ≡ false = λ k l. lt-leb (first + step * k) x (omega (arith, mul-le-mul_left step l, lt-mul-div-succ (x - first) pos)) in
    elim (cases_lt (last + 1) count) [
      | inl more ↦
          let back : count - (last + 1) + (last + 1) ≡ count = omega arith in
          let counted = how_many_past test (last + 1) (count - (last + 1)) missed in
          (rw back at counted) ∙ how_many_all test (last + 1) reached (last + 1) (omega arith) ∙ omega arith
      | inr all ↦ how_many_all test count (λ k l. reached k (omega arith)) count (omega arith) ∙ omega arith
    ]

-- counting to one more, and what of it is kept
counting_push : (a n : ℕ) → range_with_len a (suc n) ≡ range_with_len a n ++ (a + n) ∷ []
counting_push a zero = ap (λ m. m ∷ []) (sym (add-zero a))
counting_push a (suc n) =
    ap (λ l. a ∷ l) (counting_push (a + 1) n ∙ ap (λ m. range_with_len (a + 1) n ++ m ∷ []) (omega arith))

kept_append : (test : ℕ → Bool) (xs : List ℕ) (y : ℕ) → filter test (xs ++ y ∷ []) ≡ filter test xs ++ cond (test y) (y ∷ []) []
kept_append test [] y = elim (test y) as (λ b. cond b (y ∷ []) [] ≡ cond b (y ∷ []) []) [ true ↦ refl | false ↦ refl ]
kept_append test (x ∷ xs) y =
    elim (test x) as (λ b. cond b (x ∷ filter test (xs ++ y ∷ [])) (filter test (xs ++ y ∷ [])) ≡ cond b (x ∷ filter test xs) (filter test xs) ++ cond (test y) (y ∷ []) [])
    [ true ↦ ap (λ l. x ∷ l) (kept_append test xs y) | false ↦ kept_append test xs y ]

-- the places below n that pass
abbrev pub passed : (ℕ → Bool) → ℕ → List ℕ
passed test n = filter test (range_with_len 0 n)

passed_yes : (test : ℕ → Bool) (n : ℕ) → test n ≡ true → passed test (suc n) ≡ passed test n ++ n ∷ []
passed_yes test n e =
    ap (filter test) (counting_push 0 n ∙ ap (λ m. range_with_len 0 n ++ m ∷ []) (zero-add n))
    ∙ kept_append test (range_with_len 0 n) n ∙ ap (λ b. passed test n ++ cond b (n ∷ []) []) e

passed_no : (test : ℕ → Bool) (n : ℕ) → test n ≡ false → passed test (suc n) ≡ passed test n
passed_no test n e =
    ap (filter test) (counting_push 0 n ∙ ap (λ m. range_with_len 0 n ++ m ∷ []) (zero-add n))
    ∙ kept_append test (range_with_len 0 n) n ∙ ap (λ b. passed test n ++ cond b (n ∷ []) []) e ∙ append-nil (passed test n)

pub length-passed : (test : ℕ → Bool) (n : ℕ) → length (passed test n) ≡ how_many test n
length-passed test zero = refl
length-passed test (suc n) =
    elim (cases_Bool (test n)) [
      | inl e ↦ omega (arith, ap length (passed_yes test n e), length_push (passed test n) n, length-passed test n, how_many_yes test n e)
      | inr e ↦ ap length (passed_no test n e) ∙ length-passed test n ∙ sym (how_many_no test n e)
    ]

-- the number before a place that passes is less than the number before any later place
pub how_many_below : (test : ℕ → Bool) (n p : ℕ) → p < n → test p ≡ true → how_many test p < how_many test n
how_many_below test zero p h e = absurd (not-suc-le-zero h)
how_many_below test (suc n) p h e =
    elim (cases_order p n) [
      | inl same ↦ rw same (omega (arith, how_many_yes test n (rw (← same) e)))
      | inr (inl less) ↦ omega (arith, how_many_below test n p less e, (how_many_step test n).0)
      | inr (inr more) ↦ absurd (omega arith)
    ]

-- one more place leaves what stands at the indices so far
grown : (test : ℕ → Bool) (n k d x : ℕ) → k < length (passed test n) → get_or (passed test n) k d ≡ x → get_or (passed test (suc n)) k d ≡ x
grown test n k d x l e =
    elim (cases_Bool (test n)) [
      | inl t ↦ ap (λ s. get_or s k d) (passed_yes test n t) ∙ get_or_append_left (passed test n) (n ∷ []) d k l ∙ e
      | inr f ↦ ap (λ s. get_or s k d) (passed_no test n f) ∙ e
    ]

-- a place that passes stands at the index that counts those before it
pub passed_at : (test : ℕ → Bool) (n p d : ℕ) → p < n → test p ≡ true → get_or (passed test n) (how_many test p) d ≡ p
passed_at test zero p d h e = absurd (not-suc-le-zero h)
passed_at test (suc n) p d h e =
    elim (cases_order p n) [
      | inl same ↦
          let yes-n : test n ≡ true = rw (← same) e in
          ap (λ l. get_or l (how_many test p) d) (passed_yes test n yes-n)
          ∙ get_or_push (passed test n) n d (how_many test p) (length-passed test n ∙ ap (how_many test) (sym same))
          ∙ sym same
      | inr (inl less) ↦ grown test n (how_many test p) d p (omega (arith, length-passed test n, how_many_below test n p less e)) (passed_at test n p d less e)
      | inr (inr more) ↦ absurd (omega arith)
    ]

-- what stands at an index passes, and so many before it do
pub passed_back : (test : ℕ → Bool) (n k d : ℕ) → k < length (passed test n) → (get_or (passed test n) k d < n) × (test (get_or (passed test n) k d) ≡ true) × (how_many test (get_or (passed test n) k d) ≡ k)
passed_back test zero k d h = absurd (not-suc-le-zero h)
passed_back test (suc n) k d h =
    elim (cases_lt k (length (passed test n))) [
      | inl old ↦
          let back = passed_back test n k d old in
          rw (grown test n k d (get_or (passed test n) k d) old refl) (omega (arith, back.0), back.1, back.2)
      | inr new ↦
          elim (cases_Bool (test n)) [
            | inl t ↦
                let long : length (passed test n) ≡ k = omega (arith, ap length (passed_yes test n t), length_push (passed test n) n) in
                let last : get_or (passed test (suc n)) k d ≡ n = ap (λ s. get_or s k d) (passed_yes test n t) ∙ get_or_push (passed test n) n d k long in
                rw last (omega arith, t, sym (length-passed test n) ∙ long)
            | inr f ↦ absurd (omega (arith, ap length (passed_no test n f)))
          ]
    ]

-- how many markers there are
pub length-markers : (test bit : ℕ → Bool) (n : ℕ) → length (markers_at test bit n) ≡ how_many test n
length-markers test bit n = length-map (passed test n) (λ p. record { place = p; bit = bit p }) ∙ length-passed test n

-- the marker at a place that passes has the index that counts those before it
pub marker_is : (test bit : ℕ → Bool) (n p k : ℕ) (d : Marker) → p < n → test p ≡ true → how_many test p ≡ k → get_or (markers_at test bit n) k d ≡ record { place = p; bit = bit p }
marker_is test bit n p k d h e j =
    let long : k < length (passed test n) = omega (arith, length-passed test n, how_many_below test n p h e, j) in
    let here : get_or (passed test n) k 0 ≡ p = ap (λ i. get_or (passed test n) i 0) (sym j) ∙ passed_at test n p 0 h e in
    get_or-map (λ q. record { place = q; bit = bit q }) (passed test n) k 0 d long ∙ ap (λ q. record { place = q; bit = bit q }) here

-- the marker with an index stands at a place that passes, before which so many do
pub marker_back : (test bit : ℕ → Bool) (n k : ℕ) (d : Marker) → k < length (markers_at test bit n) → (p : ℕ) × (p < n) × (test p ≡ true) × (how_many test p ≡ k) × (get_or (markers_at test bit n) k d ≡ record { place = p; bit = bit p })
marker_back test bit n k d h =
    let long : k < length (passed test n) = omega (arith, length-markers test bit n, length-passed test n) in
    let back = passed_back test n k 0 long in
    (get_or (passed test n) k 0, back.0, back.1, back.2, get_or-map (λ q. record { place = q; bit = bit q }) (passed test n) k 0 d long)

-- markers that are made so stand apart
pub markers_apart : (test bit : ℕ → Bool) (n : ℕ) (d : Marker) (j k : ℕ) → j < length (markers_at test bit n) → k < length (markers_at test bit n) → (get_or (markers_at test bit n) j d).place ≡ (get_or (markers_at test bit n) k d).place → j ≡ k
markers_apart test bit n d j k hj hk e =
    let (p, _, _, pj, pe) = marker_back test bit n j d hj in
    let (q, _, _, qk, qe) = marker_back test bit n k d hk in
    sym pj ∙ ap (how_many test) (sym (ap (λ m. m.place) pe) ∙ e ∙ ap (λ m. m.place) qe) ∙ qk
