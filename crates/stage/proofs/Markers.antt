-- Markers: no stage has more than it has places, and a pile's markers are apart and tell its content.
use Rattle.std.proofs.Common.{◌≡◌, ℕ, zero, suc, ◌+◌, ◌-◌, ◌<◌, ◌≤◌, Bool, cond, not, T, ltb, leb, ◌⊎◌, List, map, length, get_or, Ok, Err, sym, refl, ap, ◌∙◌, subst, inl, inr, ⊎_elim, arith, eqb→eq, leb-false}
use Rattle.std.proofs.lemmas.List.{length-append, length-map, get_or_append_left, get_or-append_right, get_or-map}
use Rattle.std.proofs.lemmas.Bool.{cases_lt, cond_both, ltb-true, ltb-false}
use borrow.Author.Tests.{lt-leb}
use Rattle.refusal.specs.declared.Refusal.{Refusal}
use Rattle.stage.specs.declared.Content.{Content}
use Rattle.stage.specs.declared.Content.TheVariants.{Carried, Inverted, Fixed, Mute}
use Rattle.stage.specs.declared.Marker.{Marker}
use Rattle.stage.specs.Elements.{inverse}
use Rattle.stage.specs.Marked.{no_marker, Apart, Told, Marked, count_answer, marker_answer}
use Rattle.stage.specs.Meaning.{Meaning, carries, Stands, Homes, length_answer}
use Rattle.stage.specs.Piled.{over, piled, bit_over, moved, moved_answer, piled_markers}
use Rattle.stage.proofs.Homes.{parts_take, home_holds}
use Rattle.stage.proofs.Answers.{passed, taken, same_ok, is_true, length_told, pile_takes}

-- a number past v, one lower: so many numbers without v, put together again
squeezed : ℕ → ℕ → ℕ
squeezed v x = cond (ltb v x) (x - 1) x

squeezed_is : (v x : ℕ) → ((v < x) × (squeezed v x + 1 ≡ x)) ⊎ ((x ≤ v) × (squeezed v x ≡ x))
unfolding squeezed
squeezed_is v x =
    cond_both (ltb v x) (x - 1) x (λ y. ((v < x) × (y + 1 ≡ x)) ⊎ ((x ≤ v) × (y ≡ x)))
    (λ e. let h = ltb-true v x e in inl (h, omega arith)) (λ e. inr (ltb-false v x e, refl))

squeezed_apart : (v x y : ℕ) → (x ≡ v → ⊥) → (y ≡ v → ⊥) → squeezed v x ≡ squeezed v y → x ≡ y
squeezed_apart v x y a b e =
    ⊎_elim (λ w. ⊎_elim (λ z. omega (arith, w.0, w.1, z.0, z.1)) (λ z. omega (arith, w.0, w.1, z.0, z.1)) (squeezed_is v y))
    (λ w. ⊎_elim (λ z. omega (arith, w.0, w.1, z.0, z.1)) (λ z. omega (arith, w.0, w.1, z.0, z.1)) (squeezed_is v y))
    (squeezed_is v x)

squeezed_below : (v x s : ℕ) → (x ≡ v → ⊥) → v < suc s → x < suc s → squeezed v x < s
squeezed_below v x s ne hv hx =
    ⊎_elim (λ w. omega (arith, w.0, w.1)) (λ w. omega (arith, w.0, w.1)) (squeezed_is v x)

-- so many different numbers below s are at most s
pub at_most : (f : ℕ → ℕ) (c s : ℕ) → ((k : ℕ) → k < c → f k < s) → ((j k : ℕ) → j < c → k < c → f j ≡ f k → j ≡ k) → c ≤ s
at_most f zero s low apart = omega arith
at_most f (suc c) zero low apart = absurd (omega (arith, low c (omega arith)))
at_most f (suc c) (suc s) low apart =
    let other : (k : ℕ) → k < c → f k ≡ f c → ⊥ = λ k h e. omega (arith, apart k c (omega arith) (omega arith) e) in
    let rest : c ≤ s = at_most (λ k. squeezed (f c) (f k)) c s
    (λ k h. squeezed_below (f c) (f k) s (other k h) (low c (omega arith)) (low k (omega arith)))
    (λ j k hj hk e. apart j k (omega arith) (omega arith) (squeezed_apart (f c) (f j) (f k) (other j hj) (other k hk) e)) in
    omega arith

-- markers that are apart and told are at most as many as the places
pub markers_fit : (m : Meaning) (markers : ℕ → List Marker) (n : ℕ) → T (m.takes n) → Marked m markers n → length (markers n) ≤ m.size n
markers_fit m markers n t marked =
    at_most (λ k. (get_or (markers n) k no_marker).place) (length (markers n)) (m.size n) (λ k h. (marked.1 t k h).0) (marked.0 t)

-- a content carries one element at most
carries_one : (c : Content) (i j : ℕ) → T (carries c i) → T (carries c j) → i ≡ j
carries_one (Carried k) i j a b = sym (eqb→eq k i a) ∙ eqb→eq k j b
carries_one (Inverted k) i j a b = sym (eqb→eq k i a) ∙ eqb→eq k j b
carries_one (Fixed v) i j a b = absurd a
carries_one Mute i j a b = absurd a

-- a fixed bit of the lower shows in the pile as the upper carries or inverts it
over_fixed : (lower : ℕ → Content) (c : Content) (i : ℕ) (b : Bool) → T (carries c i) → lower i ≡ Fixed b → over lower c ≡ Fixed (bit_over b c)
over_fixed lower (Carried k) i b t e = ap lower (eqb→eq k i t) ∙ e
over_fixed lower (Inverted k) i b t e = ap (λ j. inverse (lower j)) (eqb→eq k i t) ∙ ap inverse e
over_fixed lower (Fixed v) i b t e = absurd t
over_fixed lower Mute i b t e = absurd t

module _ (l u : Meaning) (lm um : ℕ → List Marker) (n : ℕ) where
  upper_at : (k : ℕ) → k < length (um (l.size n)) → get_or (piled_markers l u lm um n) k no_marker ≡ get_or (um (l.size n)) k no_marker
  upper_at k h = get_or_append_left (um (l.size n)) (map (moved u (l.size n)) (lm n)) no_marker k h

  lower_at : (k : ℕ) → length (um (l.size n)) ≤ k → k - length (um (l.size n)) < length (lm n) → get_or (piled_markers l u lm um n) k no_marker ≡ moved u (l.size n) (get_or (lm n) (k - length (um (l.size n))) no_marker)
  lower_at k h b =
      get_or-append_right (um (l.size n)) (map (moved u (l.size n)) (lm n)) (length (um (l.size n))) k no_marker refl h
      ∙ get_or-map (moved u (l.size n)) (lm n) (k - length (um (l.size n))) no_marker no_marker b

  pub count_piled : length (piled_markers l u lm um n) ≡ length (um (l.size n)) + length (lm n)
  count_piled =
      length-append (um (l.size n)) (map (moved u (l.size n)) (lm n))
      ∙ ap (λ c. length (um (l.size n)) + c) (length-map (lm n) (moved u (l.size n)))

module _ (l u : Meaning) (hu : Homes u) (lm um : ℕ → List Marker) (n : ℕ) (t : T ((piled l u).takes n)) where
  -- a marker of the lower enters the upper, and stands at its home there
  marker_stands : Told l lm n → (j : ℕ) → j < length (lm n) → Stands u (l.size n) (get_or (lm n) j no_marker).place (moved u (l.size n) (get_or (lm n) j no_marker)).place
  marker_stands tl j h = home_holds u hu (l.size n) (get_or (lm n) j no_marker).place (parts_take l u n t).1 (tl (parts_take l u n t).0 j h).0

  Shows : Marker → Type 0
  Shows m = (m.place < (piled l u).size n) × ((piled l u).at n m.place ≡ Fixed m.bit)

  upper_shows : Told u um (l.size n) → (k : ℕ) → k < length (um (l.size n)) → Shows (get_or (um (l.size n)) k no_marker)
  unfolding Shows
  upper_shows tu k h = let w = tu (parts_take l u n t).1 k h in (w.0, ap (over (l.at n)) w.1)

  lower_shows : Told l lm n → (j : ℕ) → j < length (lm n) → Shows (moved u (l.size n) (get_or (lm n) j no_marker))
  unfolding Shows
  lower_shows tl j h =
      let s = marker_stands tl j h in
      (s.0, over_fixed (l.at n) _ (get_or (lm n) j no_marker).place (get_or (lm n) j no_marker).bit s.1 (tl (parts_take l u n t).0 j h).1)

  -- the markers of a pile tell its content
  pub pile_told : Told l lm n → Told u um (l.size n) → Told (piled l u) (piled_markers l u lm um) n
  unfolding Shows
  pile_told tl tu _ k h =
      let total = count_piled l u lm um n in
      ⊎_elim (λ b. subst Shows (sym (upper_at l u lm um n k b)) (upper_shows tu k b))
      (λ b. let j : k - length (um (l.size n)) < length (lm n) = omega (arith, total) in subst Shows (sym (lower_at l u lm um n k b j)) (lower_shows tl (k - length (um (l.size n))) j))
      (cases_lt k (length (um (l.size n))))

  -- a marker of the upper and one of the lower are apart
  mixed : Told l lm n → Told u um (l.size n) → (j k : ℕ) → j < length (um (l.size n)) → k < length (lm n) → (get_or (um (l.size n)) j no_marker).place ≡ (moved u (l.size n) (get_or (lm n) k no_marker)).place → ⊥
  mixed tl tu j k hj hk e =
      let s = (marker_stands tl k hk).1 in
      let f = (tu (parts_take l u n t).1 j hj).1 in
      subst (λ c. T (carries c (get_or (lm n) k no_marker).place)) (ap (u.at (l.size n)) (sym e) ∙ f) s

  both_lower : Apart l lm n → Told l lm n → (j k : ℕ) → j < length (lm n) → k < length (lm n) → (moved u (l.size n) (get_or (lm n) j no_marker)).place ≡ (moved u (l.size n) (get_or (lm n) k no_marker)).place → j ≡ k
  both_lower al tl j k hj hk e =
      let a = (marker_stands tl j hj).1 in
      let b = (marker_stands tl k hk).1 in
      al (parts_take l u n t).0 j k hj hk
      (carries_one _ _ _ a (subst (λ p. T (carries (u.at (l.size n) p) (get_or (lm n) k no_marker).place)) (sym e) b))

  -- the markers of a pile are apart
  pub pile_apart : Apart l lm n → Apart u um (l.size n) → Told l lm n → Told u um (l.size n) → Apart (piled l u) (piled_markers l u lm um) n
  pile_apart al au tl tu _ j k hj hk e =
      let c = length (um (l.size n)) in
      let total = count_piled l u lm um n in
      let low : (i : ℕ) → c ≤ i → i < length (piled_markers l u lm um n) → i - c < length (lm n) = λ i a b. omega (arith, total) in
      let place : Marker → ℕ = λ m. m.place in
      ⊎_elim
      (λ a. ⊎_elim
      (λ b. au (parts_take l u n t).1 j k a b (ap place (sym (upper_at l u lm um n j a)) ∙ e ∙ ap place (upper_at l u lm um n k b)))
      (λ b. absurd (mixed tl tu j (k - c) a (low k b hk) (ap place (sym (upper_at l u lm um n j a)) ∙ e ∙ ap place (lower_at l u lm um n k b (low k b hk)))))
      (cases_lt k c))
      (λ a. ⊎_elim
      (λ b. absurd (mixed tl tu k (j - c) b (low j a hj) (ap place (sym (upper_at l u lm um n k b)) ∙ sym e ∙ ap place (lower_at l u lm um n j a (low j a hj)))))
      (λ b. let same : j - c ≡ k - c = both_lower al tl (j - c) (k - c) (low j a hj) (low k b hk) (ap place (sym (lower_at l u lm um n j a (low j a hj))) ∙ e ∙ ap place (lower_at l u lm um n k b (low k b hk))) in omega arith)
      (cases_lt k c))
      (cases_lt j c)

-- an answered count: n is taken, and it is the number of markers
pub count_told : (s : Meaning) (markers : ℕ → List Marker) (n c : ℕ) → Ok c ≡ count_answer s markers n → T (s.takes n) × (c ≡ length (markers n))
count_told s markers n c q =
    let p = passed (not (s.takes n)) _ _ c q in
    (taken (s.takes n) p.0, same_ok c (length (markers n)) p.1)

-- an answered marker: n is taken, the marker exists, and it is that one
pub marker_told : (s : Meaning) (markers : ℕ → List Marker) (n k : ℕ) (m : Marker) → Ok m ≡ marker_answer s markers n k → T (s.takes n) × (k < length (markers n)) × (m ≡ get_or (markers n) k no_marker)
marker_told s markers n k m q =
    let a = passed (not (s.takes n)) _ _ m q in
    let b = passed (leb (length (markers n)) k) _ _ m a.1 in
    (taken (s.takes n) a.0, leb-false (length (markers n)) k b.0, same_ok m (get_or (markers n) k no_marker) b.1)

-- a count that is taken has its number of markers answered
pub count_there : (s : Meaning) (markers : ℕ → List Marker) (n : ℕ) → T (s.takes n) → count_answer s markers n ≡ Ok (length (markers n))
count_there s markers n t = rw (is_true (s.takes n) t)

-- an existing marker of a count that is taken is answered
pub marker_there : (s : Meaning) (markers : ℕ → List Marker) (n k : ℕ) → T (s.takes n) → k < length (markers n) → marker_answer s markers n k ≡ Ok (get_or (markers n) k no_marker)
marker_there s markers n k t h = rw (is_true (s.takes n) t, lt-leb (length (markers n)) k h)

-- a marker among the elements that enter is answered where it leaves
moved_there : (u : Meaning) (n : ℕ) (m : Marker) → T (u.takes n) → m.place < n → moved_answer u n m ≡ Ok (moved u n m)
moved_there u n m t h = rw (is_true (u.takes n) t, lt-leb n m.place h)

module _ (l u : Meaning) (lm um : ℕ → List Marker) (n k : ℕ) (length-is : Ok k ≡ length_answer l n) where
  -- what the upper says of the lower's length k, said of that length
  at_length : (P : ℕ → Type 0) → P k → P (l.size n)
  at_length P p = subst P (length_told l n k length-is).1 p

  -- the counts of a pile's parts are small enough to add
  pub counts_fit : Homes l → Homes u → (a b : ℕ) → Ok a ≡ count_answer u um k → Ok b ≡ count_answer l lm n → Marked u um k → Marked l lm n → a + b ≤ 65536
  counts_fit hl hu a b qa qb mu ml =
      let x = count_told u um k a qa in
      let y = count_told l lm n b qb in
      omega (arith, x.1, y.1, markers_fit u um k x.0 mu, markers_fit l lm n y.0 ml, hu.most k x.0, hl.most n y.0)

  both_take : (a : ℕ) → Ok a ≡ count_answer u um k → T ((piled l u).takes n)
  both_take a qa =
      pile_takes l u n (length_told l n k length-is).0 (at_length (λ x. T (u.takes x)) (count_told u um k a qa).0)

  -- the count of a pile's markers is the sum of its parts' counts
  pub count_sum : (a b : ℕ) → Ok a ≡ count_answer u um k → Ok b ≡ count_answer l lm n → Ok (a + b) ≡ count_answer (piled l u) (piled_markers l u lm um) n
  count_sum a b qa qb =
      let t = both_take a qa in
      let x = at_length (λ z. a ≡ length (um z)) (count_told u um k a qa).1 in
      let y = (count_told l lm n b qb).1 in
      ap Ok (ap (λ z. z + b) x ∙ ap (λ z. length (um (l.size n)) + z) y ∙ sym (count_piled l u lm um n))
      ∙ sym (count_there (piled l u) (piled_markers l u lm um) n t)

  -- the markers of a pile stand apart and hold their bits, as its parts' do
  pub marked_sum : Homes u → Marked u um k → Marked l lm n → Marked (piled l u) (piled_markers l u lm um) n
  marked_sum hu mu ml =
      let above : Marked u um (l.size n) = at_length (Marked u um) mu in
      (λ t. pile_apart l u hu lm um n t ml.0 above.0 ml.1 above.1 t, λ t. pile_told l u hu lm um n t ml.1 above.1 t)

  -- an index below the upper's count is that of the upper's marker
  pub marker_above : (a i : ℕ) → Ok a ≡ count_answer u um k → i < a → marker_answer u um k i ≡ marker_answer (piled l u) (piled_markers l u lm um) n i
  marker_above a i qa h =
      let t = both_take a qa in
      let x = at_length (λ z. a ≡ length (um z)) (count_told u um k a qa).1 in
      let total = count_piled l u lm um n in
      let low : i < length (um (l.size n)) = omega arith in
      let all : i < length (piled_markers l u lm um n) = omega arith in
      ap (λ z. marker_answer u um z i) (length_told l n k length-is).1
      ∙ marker_there u um (l.size n) i (parts_take l u n t).1 low ∙ ap Ok (sym (upper_at l u lm um n i low))
      ∙ sym (marker_there (piled l u) (piled_markers l u lm um) n i t all)

  -- an index from there on is that of a marker of the lower, moved up
  pub marker_below : (a i : ℕ) (m : Marker) → Ok a ≡ count_answer u um k → Ok m ≡ marker_answer l lm n (i - a) → Marked l lm n → a ≤ i → moved_answer u k m ≡ marker_answer (piled l u) (piled_markers l u lm um) n i
  marker_below a i m qa qm ml h =
      let t = both_take a qa in
      let w = marker_told l lm n (i - a) m qm in
      let x = at_length (λ z. a ≡ length (um z)) (count_told u um k a qa).1 in
      let total = count_piled l u lm um n in
      let inside : m.place < l.size n = subst (λ (z : Marker). z.place < l.size n) (sym w.2) (ml.1 w.0 (i - a) w.1).0 in
      let all : i < length (piled_markers l u lm um n) = omega (arith, w.1) in
      let here : m ≡ get_or (lm n) (i - length (um (l.size n))) no_marker = w.2 ∙ ap (λ z. get_or (lm n) (i - z) no_marker) x in
      let low : i - length (um (l.size n)) < length (lm n) = omega (arith, w.1) in
      ap (λ z. moved_answer u z m) (length_told l n k length-is).1
      ∙ moved_there u (l.size n) m (parts_take l u n t).1 inside
      ∙ ap (λ z. Ok (moved u (l.size n) z)) here ∙ ap Ok (sym (lower_at l u lm um n i (omega arith) low))
      ∙ sym (marker_there (piled l u) (piled_markers l u lm um) n i t all)

  -- where the pile has a marker that is not the upper's, the lower does not refuse it
  pub marker_not_refused : (a c i : ℕ) (e : Refusal) → Ok a ≡ count_answer u um k → Ok c ≡ count_answer (piled l u) (piled_markers l u lm um) n → a ≤ i → i < c → Err e ≡ marker_answer l lm n (i - a) → ⊥
  marker_not_refused a c i e qa qc h b q =
      let x = at_length (λ z. a ≡ length (um z)) (count_told u um k a qa).1 in
      let y = (count_told (piled l u) (piled_markers l u lm um) n c qc).1 in
      let total = count_piled l u lm um n in
      let low : i - a < length (lm n) = omega arith in
      let ok = marker_there l lm n (i - a) (length_told l n k length-is).0 low in
      let z : ◌≡◌ {A = ℕ} 0 1 = cc in
      omega arith
