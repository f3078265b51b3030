-- What the inserter owes: where each element stands, by four rows of mutes and whole periods, and nowhere else.
use Rattle.std.proofs.Common.{◌≡◌, ℕ, zero, suc, ◌+◌, ◌-◌, ◌*◌, ◌/◌, ◌%◌, ◌<◌, ◌≤◌, min, Bool, true, false, cond, not, ◌&&◌, ◌||◌, T, eqb, ltb, leb, length, get_or, sym, refl, ap, ◌∙◌, inl, inr, mod-eq_of_lt, mul-suc, arith, eqb→eq, leb→le}
use native.Mathlib.Nat.{mod-mod, div-eq_of_lt}
use lib.Dec.{eqb_refl}
use Rattle.std.proofs.lemmas.Nat.{div-mul-add, mod-mul-add}
use Rattle.std.proofs.lemmas.Bool.{cases_Bool, cases_lt, lt-ltb, le-ltb, ltb-true, and_parts, and_right, not-true, leb-true, le-leb, lt-leb, eqb-true}
use Rattle.stage.specs.declared.Content.TheVariants.{Carried, Fixed}
use Rattle.stage.specs.Meaning.{Homes, Stands, carries, home_of}
use Rattle.stage.specs.Marked.{Marked, no_marker}
use Rattle.layout.specs.Places.{taken, is_one_of, how_many, terms_to}
use Rattle.layout.specs.Inserter.{mutes, is_mute, is_resync, is_carrier, resynchronisation, resync_bit, inserter_at, inserter_size, inserter_meaning, inserter_markers}
use Rattle.layout.proofs.Places.{T_true, first_place_is, how_many_yes, how_many_no, how_many_most, how_many_grows, how_many_below, length-markers, marker_is}
use Rattle.layout.proofs.Fitting.{Placed, homes_fit, home_is, markers_hold}
use Rattle.layout.proofs.Tables.{everywhere, at}

-- one place on, within a period and at its end
within : (p : ℕ) → p % 384 < 383 → (suc p / 384 ≡ p / 384) × (suc p % 384 ≡ suc (p % 384))
within p h =
    let e : suc p ≡ p / 384 * 384 + suc (p % 384) = omega arith in
    (ap (λ x. x / 384) e ∙ div-mul-add (p / 384) 384 (suc (p % 384)) (omega arith), ap (λ x. x % 384) e ∙ mod-mul-add (p / 384) 384 (suc (p % 384)) (omega arith))

across : (p : ℕ) → 383 ≤ p % 384 → (suc p / 384 ≡ suc (p / 384)) × (suc p % 384 ≡ 0)
across p h =
    let e : suc p ≡ suc (p / 384) * 384 + 0 = omega arith in
    (ap (λ x. x / 384) e ∙ div-mul-add (suc (p / 384)) 384 0 (omega arith), ap (λ x. x % 384) e ∙ mod-mul-add (suc (p / 384)) 384 0 (omega arith))

-- a count over periods: f counts within one, and each whole one adds the total
grows : (ℕ → Bool) → (ℕ → ℕ) → ℕ → ℕ → Bool
grows test f total q = eqb (cond (test q) (suc (f q)) (f q)) (cond (ltb q 383) (f (suc q)) total)

module _ (test : ℕ → Bool) (f : ℕ → ℕ) (total : ℕ) (again : (p : ℕ) → test p ≡ test (p % 384)) (start : f 0 ≡ 0) (table : T (everywhere (grows test f total) 384)) where
  step : (q : ℕ) → q < 384 → cond (test q) (suc (f q)) (f q) ≡ cond (ltb q 383) (f (suc q)) total
  unfolding grows
  step q h = eqb→eq (cond (test q) (suc (f q)) (f q)) (cond (ltb q 383) (f (suc q)) total) (at (grows test f total) 384 table q h)

  lifted : (p : ℕ) → how_many test p ≡ total * (p / 384) + f (p % 384) → how_many test (suc p) ≡ total * (p / 384) + cond (test (p % 384)) (suc (f (p % 384))) (f (p % 384))
  lifted p e =
      elim (cases_Bool (test p)) [
        | inl t ↦ rw (sym (again p) ∙ t) (omega (arith, how_many_yes test p t, e))
        | inr t ↦ rw (sym (again p) ∙ t) (omega (arith, how_many_no test p t, e))
      ]

  periodic : (p : ℕ) → how_many test p ≡ total * (p / 384) + f (p % 384)
  periodic zero = omega (arith, start)
  periodic (suc p) =
      lifted p (periodic p) ∙ ap (λ x. total * (p / 384) + x) (step (p % 384) (omega arith))
      ∙ elim (cases_lt (p % 384) 383) [
        | inl h ↦ rw (lt-ltb (p % 384) 383 h, (within p h).0, (within p h).1)
        | inr h ↦ rw (le-ltb (p % 384) 383 h, (across p h).0, (across p h).1) (omega (arith, start, mul-suc total (p / 384)))
      ]

-- the mutes before place q of a period: four rows of eight, 15 apart
abbrev pub mutes_before : ℕ → ℕ
mutes_before q = terms_to q 8 15 8 + terms_to q 16 15 8 + terms_to q 24 15 8 + terms_to q 32 15 8

-- how many carriers of the period stand before its place q
unfoldable pub carriers : ℕ → ℕ
carriers q = min 320 (q - mutes_before q)

abbrev pub resyncs : ℕ → ℕ
resyncs q = q - 352

-- the mutes before element e of the period: in the count of elements they stand before 7 and 14, twice before
-- 20, 31, .. and 26, 37, .., and before 98 and 105
abbrev pub mutes_before_element : ℕ → ℕ
mutes_before_element e = terms_to e 7 7 2 + 2 * terms_to e 20 11 7 + 2 * terms_to e 26 11 7 + terms_to e 98 7 2

-- the place in the period of its element e
unfoldable pub spot : ℕ → ℕ
spot e = e + mutes_before_element e

resync_again : (p : ℕ) → is_resync p ≡ is_resync (p % 384)
resync_again p = ap (leb 352) (sym (mod-mod p 384))

mute_again : (p : ℕ) → is_mute p ≡ is_mute (p % 384)
mute_again p = ap (λ q. is_one_of q mutes) (sym (mod-mod p 384))

carrier_again : (p : ℕ) → is_carrier p ≡ is_carrier (p % 384)
carrier_again p = ap (λ q. not (is_one_of q mutes) && not (leb 352 q)) (sym (mod-mod p 384))

-- the counts over the stream
pub carriers_before : (p : ℕ) → how_many is_carrier p ≡ 320 * (p / 384) + carriers (p % 384)
unfolding grows carriers
carriers_before = periodic is_carrier carriers 320 carrier_again refl tt

pub resyncs_before : (p : ℕ) → how_many is_resync p ≡ 32 * (p / 384) + resyncs (p % 384)
unfolding grows
resyncs_before = periodic is_resync resyncs 32 resync_again refl tt

-- within a period each element has a carrier, and each carrier an element: two tests that antt computes
takes_up : ℕ → Bool
takes_up e = is_carrier (spot e) && (eqb (carriers (spot e)) e && ltb (spot e) 352)

gives_back : ℕ → Bool
gives_back q = not (is_carrier q) || (eqb (spot (carriers q)) q && ltb (carriers q) 320)

element_spot : (e : ℕ) → e < 320 → (is_carrier (spot e) ≡ true) × (carriers (spot e) ≡ e) × (spot e < 352)
unfolding takes_up carriers spot
element_spot e h =
    let t = T_true (takes_up e) (at takes_up 320 tt e h) in
    let (a, bc) = and_parts (is_carrier (spot e)) (eqb (carriers (spot e)) e && ltb (spot e) 352) t in
    let (b, c) = and_parts (eqb (carriers (spot e)) e) (ltb (spot e) 352) bc in
    (a, eqb-true (carriers (spot e)) e b, ltb-true (spot e) 352 c)

spot_element : (q : ℕ) → q < 384 → is_carrier q ≡ true → (spot (carriers q) ≡ q) × (carriers q < 320)
unfolding gives_back carriers spot
spot_element q h e =
    let t = at gives_back 384 tt q h in
    let (b, c) = and_parts (eqb (spot (carriers q)) q) (ltb (carriers q) 320) (T_true (eqb (spot (carriers q)) q && ltb (carriers q) 320) (rw e at t)) in
    (eqb-true (spot (carriers q)) q b, ltb-true (carriers q) 320 c)

-- the place of element i: whole periods, and its spot in the last
unfoldable pub place_of : ℕ → ℕ
place_of i = 384 * (i / 320) + spot (i % 320)

in_period : (m q : ℕ) → q < 384 → ((384 * m + q) / 384 ≡ m) × ((384 * m + q) % 384 ≡ q)
in_period m q h =
    (ap (λ x. x / 384) (omega arith) ∙ div-mul-add m 384 q h, ap (λ x. x % 384) (omega arith) ∙ mod-mul-add m 384 q h)

pub place_carries : (i : ℕ) → (is_carrier (place_of i) ≡ true) × (how_many is_carrier (place_of i) ≡ i)
unfolding place_of
place_carries i =
    let (carrier, order, low) = element_spot (i % 320) (omega arith) in
    let (period, rest) = in_period (i / 320) (spot (i % 320)) (omega arith) in (
      carrier_again (place_of i) ∙ ap is_carrier rest ∙ carrier,
      carriers_before (place_of i) ∙ rw (period, rest, order) (omega arith),
    )

pub carrier_place : (p : ℕ) → is_carrier p ≡ true → p ≡ place_of (how_many is_carrier p)
unfolding place_of
carrier_place p e =
    let (back, low) = spot_element (p % 384) (omega arith) (sym (carrier_again p) ∙ e) in
    let count : how_many is_carrier p ≡ p / 384 * 320 + carriers (p % 384) = carriers_before p ∙ omega arith in
    rw (count, div-mul-add (p / 384) 320 (carriers (p % 384)) low, mod-mul-add (p / 384) 320 (carriers (p % 384)) low, back) (omega arith)

place_low : (i : ℕ) → place_of i < 384 * (i / 320) + 352
unfolding place_of
place_low i = omega (arith, (element_spot (i % 320) (omega arith)).2)

place_high : (i : ℕ) → 384 * (i / 320) ≤ place_of i
unfolding place_of
place_high i = omega arith

-- elements stand in order
ordered : (i j : ℕ) → i ≤ j → place_of i ≤ place_of j
ordered i j h =
    elim (cases_lt (place_of j) (place_of i)) [
      | inl less ↦
          absurd (omega (arith, how_many_below is_carrier (place_of i) (place_of j) less (place_carries j).0, (place_carries i).1, (place_carries j).1))
      | inr fine ↦ fine
    ]

-- a place carries an element where it is a carrier before which so many stand
carries_at : (n p : ℕ) → is_carrier p ≡ true → inserter_at n p ≡ Carried (how_many is_carrier p)
carries_at n p e =
    let (a, b) = and_parts (not (is_mute p)) (not (is_resync p)) e in
    rw (not-true (is_mute p) a, not-true (is_resync p) b)

there : (n i : ℕ) → T (carries (inserter_at n (place_of i)) i)
there n i =
    let (carrier, order) = place_carries i in
    rw (carries_at n (place_of i) carrier, order) (eqb_refl i)

carried_back : (n i p : ℕ) → T (carries (inserter_at n p) i) → (is_carrier p ≡ true) × (how_many is_carrier p ≡ i)
carried_back n i p t =
    elim (cases_Bool (is_mute p)) [
      | inl m ↦ absurd (rw m at t)
      | inr m ↦
          elim (cases_Bool (is_resync p)) [
            | inl r ↦ absurd (rw (m, r) at t)
            | inr r ↦ (rw (m, r), eqb→eq (how_many is_carrier p) i (rw (m, r) at t))
          ]
    ]

at_home : (n i p : ℕ) → T (carries (inserter_at n p) i) → p ≡ place_of i
at_home n i p t = let (carrier, order) = carried_back n i p t in carrier_place p carrier ∙ ap place_of order

-- the stream ends with the last element
pub size_is : (n : ℕ) → inserter_size (suc n) ≡ suc (place_of n)
size_is n =
    ap suc
    (first_place_is (λ p. carries (inserter_at (suc n) p) n) (384 * suc (n / 320)) (place_of n) (omega (arith, place_low n)) (there (suc n) n)
    (λ q l t. omega (arith, at_home (suc n) n q t)))

standing : (n i : ℕ) → i < n → Stands inserter_meaning n i (place_of i)
standing zero i h = absurd (omega arith)
standing (suc l) i h = (rw (size_is l) (omega (arith, ordered i l (omega arith))), there (suc l) i)

entering : (n i p : ℕ) → Stands inserter_meaning n i p → i < n
entering zero i p s = absurd (omega (arith, s.0))
entering (suc l) i p s =
    let inside : p ≤ place_of l = omega (arith, rw (size_is l) at s.0) in
    let (carrier, order) = carried_back (suc l) i p s.1 in
    let few = how_many_grows is_carrier p (place_of l - p) in
    let reach : place_of l - p + p ≡ place_of l = omega arith in
    omega (arith, rw reach at few, (place_carries l).1, order)

size_bound : (n : ℕ) → T (taken n) → inserter_size n ≤ 32768
size_bound zero t = omega arith
size_bound (suc l) t = rw (size_is l) (omega (arith, place_low l, leb→le (suc l) 10000 t))

size_least : (n : ℕ) → n ≤ inserter_size n
size_least zero = omega arith
size_least (suc l) = rw (size_is l) (omega (arith, how_many_most is_carrier (place_of l), (place_carries l).1))

placed : Placed inserter_meaning place_of
placed =
    record {
      least = λ n t. size_least n;
      most = size_bound;
      there = standing;
      only = λ n i p s. (entering n i p s, at_home n i p s.1);
    }

pub inserter_homes : Homes inserter_meaning
inserter_homes = homes_fit inserter_meaning place_of placed

-- a carrier before which i carriers stand is element i's home, and ends the stream where i is the last
pub home_from : (n i p : ℕ) → i < n → is_carrier p ≡ true → how_many is_carrier p ≡ i → home_of inserter_meaning n i ≡ p
home_from n i p h e o = home_is inserter_meaning place_of placed n i h ∙ ap place_of (sym o) ∙ sym (carrier_place p e)

pub size_from : (n p : ℕ) → 0 < n → is_carrier p ≡ true → how_many is_carrier p ≡ n - 1 → inserter_size n ≡ p + 1
size_from zero p h e o = absurd (omega arith)
size_from (suc l) p h e o =
    let same : how_many is_carrier p ≡ l = omega (arith, o) in
    size_is l ∙ omega (arith, carrier_place p e, ap place_of same)

-- the rules that the code counts by
pub mutes_in_period : (q : ℕ) → q < 384 → how_many is_mute q ≡ mutes_before q
unfolding grows
mutes_in_period q h =
    periodic is_mute mutes_before 32 mute_again refl tt q
    ∙ rw (div-eq_of_lt h, mod-eq_of_lt h) (omega arith)

pub carriers_rule : (p : ℕ) → how_many is_carrier p ≡ 320 * (p / 384) + min 320 (p % 384 - how_many is_mute (p % 384))
unfolding carriers
carriers_rule p = carriers_before p ∙ rw (mutes_in_period (p % 384) (omega arith)) refl

same_bool : Bool → Bool → Bool
same_bool true b = b
same_bool false b = not b

same_bools : (a b : Bool) → T (same_bool a b) → a ≡ b
unfolding same_bool
same_bools true b t = sym (T_true b t)
same_bools false b t = sym (not-true b (T_true (not b) t))

mute_test : ℕ → Bool
mute_test q = same_bool (is_mute q) (leb (7 + 15 * (7 - q % 8)) q && leb q (31 + 15 * (7 - q % 8)))

-- a place of the period is a mute where it lies in the row that its remainder by 8 points to
pub mute_rule : (p : ℕ) → is_mute p ≡ (leb (7 + 15 * (7 - p % 384 % 8)) (p % 384) && leb (p % 384) (31 + 15 * (7 - p % 384 % 8)))
unfolding mute_test same_bool
mute_rule p =
    mute_again p ∙ same_bools (is_mute (p % 384)) (leb (7 + 15 * (7 - p % 384 % 8)) (p % 384) && leb (p % 384) (31 + 15 * (7 - p % 384 % 8))) (at mute_test 384 tt (p % 384) (omega arith))

-- the place that the code gives an element carries it
pub spot_rule : (i p : ℕ) → p ≡ 384 * (i / 320) + (i % 320 + mutes_before_element (i % 320)) → (is_carrier p ≡ true) × (how_many is_carrier p ≡ i)
unfolding spot place_of
spot_rule i p e = rw e (place_carries i)

-- the markers: whole resynchronisation sequences, one after each period but the last
resync_in : (n p : ℕ) → is_resync p ≡ true → inserter_at n p ≡ Fixed (resync_bit p)
resync_in n p e =
    let late = leb-true 352 (p % 384) e in
    let sounds : is_mute p ≡ false =
    mute_rule p
    ∙ and_right (leb (7 + 15 * (7 - p % 384 % 8)) (p % 384)) (leb (p % 384) (31 + 15 * (7 - p % 384 % 8))) (lt-leb (p % 384) (31 + 15 * (7 - p % 384 % 8)) (omega arith)) in
    rw (sounds, e)

resyncs_whole : (l : ℕ) → how_many is_resync (suc (place_of l)) ≡ 32 * (l / 320)
unfolding place_of
resyncs_whole l =
    let low = (element_spot (l % 320) (omega arith)).2 in
    let (period, rest) = in_period (l / 320) (suc (spot (l % 320))) (omega arith) in
    let turned : suc (place_of l) ≡ 384 * (l / 320) + suc (spot (l % 320)) = omega arith in
    resyncs_before (suc (place_of l)) ∙ rw (turned, period, rest) (omega arith)

one_less : (l : ℕ) → (suc l - 1) / 320 ≡ l / 320
one_less l = ap (λ x. x / 320) (omega arith)

pub inserter_count : (n : ℕ) → length (inserter_markers n) ≡ 32 * ((n - 1) / 320)
inserter_count zero = refl
inserter_count (suc l) =
    length-markers is_resync resync_bit (inserter_size (suc l)) ∙ ap (how_many is_resync) (size_is l) ∙ resyncs_whole l ∙ omega (arith, one_less l)

pub inserter_marker : (n k : ℕ) → k < 32 * ((n - 1) / 320) → get_or (inserter_markers n) k no_marker ≡ record { place = 384 * (k / 32) + 352 + k % 32; bit = get_or resynchronisation (k % 32) false }
inserter_marker zero k h = absurd (omega arith)
inserter_marker (suc l) k h =
    let (period, rest) = in_period (k / 32) (352 + k % 32) (omega arith) in
    let turned : 384 * (k / 32) + 352 + k % 32 ≡ 384 * (k / 32) + (352 + k % 32) = omega arith in
    let spot_in : (384 * (k / 32) + 352 + k % 32) % 384 ≡ 352 + k % 32 = ap (λ x. x % 384) turned ∙ rest in
    let whole : (384 * (k / 32) + 352 + k % 32) / 384 ≡ k / 32 = ap (λ x. x / 384) turned ∙ period in
    let back : (384 * (k / 32) + 352 + k % 32) % 384 - 352 ≡ k % 32 = rw spot_in (omega arith) in
    let inside : 384 * (k / 32) + 352 + k % 32 < inserter_size (suc l) = rw (size_is l) (omega (arith, one_less l, place_high l)) in
    marker_is is_resync resync_bit (inserter_size (suc l)) (384 * (k / 32) + 352 + k % 32) k no_marker inside
    (ap (leb 352) spot_in ∙ le-leb 352 (352 + k % 32) (omega arith))
    (resyncs_before (384 * (k / 32) + 352 + k % 32) ∙ rw (whole, spot_in) (omega arith))
    ∙ ap (λ b. record { place = 384 * (k / 32) + 352 + k % 32; bit = b }) (ap (λ q. get_or resynchronisation q false) back)

pub inserter_marked : (n : ℕ) → Marked inserter_meaning inserter_markers n
inserter_marked n = markers_hold inserter_meaning is_resync resync_bit n (resync_in n)
