-- What the lead owes: element i stands at i + 8 and nowhere else.
use Rattle.std.proofs.Common.{◌≡◌, ℕ, ◌+◌, ◌-◌, ◌<◌, ◌≤◌, true, cond, T, eqb, length, get_or, ap, ◌∙◌, subst, inl, inr, arith, eqb→eq, leb→le}
use Rattle.std.proofs.lemmas.Bool.{cases_lt, lt-ltb, le-ltb, eq-eqb}
use Rattle.stage.specs.declared.Content.{Content}
use Rattle.stage.specs.declared.Content.TheVariants.{Carried, Fixed}
use Rattle.stage.specs.Meaning.{Homes, carries, home_of}
use Rattle.stage.specs.Marked.{Marked, no_marker}
use Rattle.layout.specs.Lead.{in_lead, lead_bit, lead_at, lead_meaning, lead_markers}
use Rattle.layout.proofs.Places.{true_T, how_many_past, how_many_all, length-markers, marker_is}
use Rattle.layout.proofs.Fitting.{Placed, homes_fit, home_is, markers_hold}

lead_in : (n p : ℕ) → in_lead p ≡ true → lead_at n p ≡ Fixed (lead_bit p)
lead_in n p e = ap (λ b. cond b (Fixed (lead_bit p)) (Carried (p - 8))) e

lead_behind : (n p : ℕ) → 8 ≤ p → lead_at n p ≡ Carried (p - 8)
lead_behind n p h = ap (λ b. cond b (Fixed (lead_bit p)) (Carried (p - 8))) (le-ltb p 8 h)

there : (n i : ℕ) → T (carries (lead_at n (i + 8)) i)
there n i = rw (lead_behind n (i + 8) (omega arith)) (true_T (eqb (i + 8 - 8) i) (eq-eqb (i + 8 - 8) i (omega arith)))

only : (n i p : ℕ) → T (carries (lead_at n p) i) → p ≡ i + 8
only n i p t =
    elim (cases_lt p 8) [
      | inl h ↦ absurd (subst (λ (c : Content). T (carries c i)) (lead_in n p (lt-ltb p 8 h)) t)
      | inr h ↦ omega (arith, eqb→eq (p - 8) i (subst (λ (c : Content). T (carries c i)) (lead_behind n p h) t))
    ]

lead_placed : Placed lead_meaning (λ i. i + 8)
lead_placed =
    record {
      least = λ n t. omega arith;
      most = λ n t. omega (arith, leb→le n 10000 t);
      there = λ n i h. (omega arith, there n i);
      only = λ n i p s. (omega (arith, only n i p s.1, s.0), only n i p s.1);
    }

pub lead_homes : Homes lead_meaning
lead_homes = homes_fit lead_meaning (λ i. i + 8) lead_placed

pub lead_home : (n i : ℕ) → i < n → home_of lead_meaning n i ≡ i + 8
lead_home n i h = home_is lead_meaning (λ i. i + 8) lead_placed n i h

pub lead_count : (n : ℕ) → length (lead_markers n) ≡ 8
lead_count n = length-markers in_lead lead_bit (n + 8) ∙ how_many_past in_lead 8 n (λ q h. le-ltb q 8 h)

pub lead_marked : (n : ℕ) → Marked lead_meaning lead_markers n
lead_marked n = markers_hold lead_meaning in_lead lead_bit n (lead_in n)

pub lead_marker : (n k : ℕ) → k < 8 → get_or (lead_markers n) k no_marker ≡ record { place = k; bit = lead_bit k }
lead_marker n k h =
    marker_is in_lead lead_bit (n + 8) k k no_marker (omega arith) (lt-ltb k 8 h) (how_many_all in_lead 8 (λ q l. lt-ltb q 8 l) k (omega arith))
