-- A list of calls, one after the other, leads where the definitions over the whole list say; and the law over all lists.
use Rattle.std.proofs.Common.{◌≡◌, ℕ, ◌+◌, ◌-◌, ◌^◌, ◌<◌, ◌≤◌, Bool, true, false, cond, not, ◌&&◌, ltb, List, [], ◌∷◌, length, get_or, take, fold, sym, refl, ap, ◌∙◌, subst, add-zero, add_assoc, zero-add, arith}
use Rattle.std.proofs.lemmas.Bool.{ltb-true, ltb-false, false≢true}
use Rattle.std.proofs.lemmas.List.Sums.{fold_more}
use Rattle.character.specs.Reader.{holds_enquiry}
use Rattle.negotiation.specs.declared.State.{State}
use Rattle.negotiation.specs.declared.State.TheVariants.{New, Asking, Known, Clear}
use Rattle.negotiation.specs.declared.Call.{Call}
use Rattle.negotiation.specs.declared.Call.TheVariants.{Tick, Hear}
use Rattle.negotiation.specs.declared.Played.{Played}
use Rattle.negotiation.specs.Transitions.{over, ticked, starts_try, is_known, calls_for_one}
use Rattle.negotiation.specs.Calls.{after, tries, called, called_waiting, heard_one, Outcome}
use Rattle.negotiation.specs.Steps.{stepped, Room}

abbrev pub opened : Played
opened = record { state = New; tries = 0; idles = 0; texts = 0 }

-- time alone makes no line known, and none unknown
ticked_known : (s : State) (n : ℕ) (w : Bool) → is_known (ticked s n w) ≡ is_known s
ticked_known New n true = refl
ticked_known New n false = refl
ticked_known (Asking a t) n w = by (over (t + n)) (ltb a 3)
  where
    by : (b c : Bool) → is_known (cond b (cond c (Asking (a + 1) 0) Clear) (Asking a (t + n))) ≡ false
    by true true = refl
    by true false = refl
    by false c = refl
ticked_known Known n w = refl
ticked_known Clear n w = refl

both : (d w : Bool) → cond (d && not w) 1 0 + cond (d && w) 1 0 ≡ cond d 1 0
both true true = refl
both true false = refl
both false w = refl

-- one call after the other leads where the whole list leads
record Leads (p r : Played) (heard : Bool) (calls : List Call) : Type 0 where
  state : r.state ≡ after p.state calls
  tries : r.tries ≡ p.tries + tries p.state calls
  dues : r.idles + r.texts ≡ (p.idles + p.texts) + called heard calls
  texts : r.texts ≡ p.texts + called_waiting heard calls

leads : (calls : List Call) (p : Played) (heard : Bool) → is_known p.state ≡ heard → Leads p (fold stepped p calls) heard calls
leads [] p heard k = record { state = refl; tries = sym (add-zero _); dues = sym (add-zero _); texts = sym (add-zero _) }
leads (Tick n w ∷ calls) p heard k =
    let r = leads calls (stepped p (Tick n w)) heard (ticked_known p.state n w ∙ k) in
    record { state = r.state; tries = r.tries ∙ add_assoc p.tries _ _; dues = r.dues; texts = r.texts }
leads (Hear b w ∷ calls) p heard k =
    let r = leads calls (stepped p (Hear b w)) true refl in
    let was : Bool = calls_for_one (holds_enquiry b.now) (is_known p.state) in
    let is : Bool = calls_for_one (holds_enquiry b.now) heard in
    let e : was ≡ is = ap (calls_for_one (holds_enquiry b.now)) k in
    let f : cond (was && not w) 1 0 + cond (was && w) 1 0 ≡ cond is 1 0 = both was w ∙ ap (λ d. cond d 1 0) e in
    let h : ◌≡◌ {A = ℕ} (cond (was && w) 1 0) (cond (is && w) 1 0) = ap (λ d. cond (d && w) 1 0) e in
    record {
      state = r.state;
      tries = r.tries;
      dues = omega (arith, r.dues, f);
      texts = omega (arith, r.texts, h);
    }

-- ---- at most three tries
-- how many tries a state has left
abbrev left : State → ℕ
left New = 3
left (Asking a t) = 3 - a
left Known = 0
left Clear = 0

-- a call that starts a try uses one up, and time that leads to a clear line comes when none is left
left_ticked : (s : State) (n : ℕ) (w : Bool) → cond (starts_try s n w) 1 0 + left (ticked s n w) ≤ left s
left_ticked New n true = omega arith
left_ticked New n false = omega arith
left_ticked (Asking a t) n w = by (over (t + n)) (ltb a 3) refl
  where
    by : (b c : Bool) → ltb a 3 ≡ c → cond (cond b c false) 1 0 + left (cond b (cond c (Asking (a + 1) 0) Clear) (Asking a (t + n))) ≤ 3 - a
    by true true e = omega (arith, ltb-true a 3 e)
    by true false e = omega arith
    by false c e = omega arith
left_ticked Known n w = omega arith
left_ticked Clear n w = omega arith

at_most : (calls : List Call) (s : State) → tries s calls ≤ left s
at_most [] s = omega arith
at_most (Tick n w ∷ calls) s = omega (arith, at_most calls (ticked s n w), left_ticked s n w)
at_most (Hear b w ∷ calls) s = omega (arith, at_most calls Known)

-- ---- a clear line has used its tries up
used_up : (s : State) (n : ℕ) (w : Bool) (rest : ℕ) → (is_known s ≡ true → ⊥) → rest ≡ left (ticked s n w) → cond (starts_try s n w) 1 0 + rest ≡ left s
used_up New n true rest k e = omega (arith, e)
used_up New n false rest k e = omega (arith, e)
used_up (Asking a t) n w rest k e = by (over (t + n)) (ltb a 3) refl e
  where
    by : (b c : Bool) → ltb a 3 ≡ c → rest ≡ left (cond b (cond c (Asking (a + 1) 0) Clear) (Asking a (t + n))) → cond (cond b c false) 1 0 + rest ≡ 3 - a
    by true true f e = omega (arith, ltb-true a 3 f, e)
    by true false f e = omega (arith, ltb-false a 3 f, e)
    by false c f e = omega (arith, e)
used_up Known n w rest k e = absurd (k refl)
used_up Clear n w rest k e = omega (arith, e)

stays_known : (calls : List Call) → after Known calls ≡ Known
stays_known [] = refl
stays_known (Tick n w ∷ calls) = stays_known calls
stays_known (Hear b w ∷ calls) = stays_known calls

known_not_clear : Known ≡ Clear → ⊥
known_not_clear e = let z : ◌≡◌ {A = ℕ} 0 1 = cc in omega arith

cleared : (calls : List Call) (s : State) → after s calls ≡ Clear → tries s calls ≡ left s
cleared [] s e = sym (ap left e)
cleared (Tick n w ∷ calls) s e =
    used_up s n w (tries (ticked s n w) calls)
    (λ k. known_not_clear (sym (stays_known calls) ∙ ap (λ u. after u calls) (sym (known_ticked s k)) ∙ e))
    (cleared calls (ticked s n w) e)
  where
    known_ticked : (u : State) → is_known u ≡ true → ticked u n w ≡ Known
    known_ticked New k = absurd (false≢true k)
    known_ticked (Asking a t) k = absurd (false≢true k)
    known_ticked Known k = refl
    known_ticked Clear k = absurd (false≢true k)
cleared (Hear b w ∷ calls) s e = absurd (known_not_clear (sym (stays_known calls) ∙ e))

-- ---- a burst heard makes the line known for good
known : (calls : List Call) (s : State) → heard_one calls ≡ true → after s calls ≡ Known
known [] s h = absurd (false≢true h)
known (Tick n w ∷ calls) s h = known calls (ticked s n w) h
known (Hear b w ∷ calls) s h = stays_known calls

pub outcome : (calls : List Call) → Outcome calls (fold stepped opened calls)
outcome calls =
    let r = leads calls opened false refl in
    let t : (fold stepped opened calls).tries ≡ tries New calls = r.tries ∙ zero-add _ in
    record {
      state = r.state;
      tries = t;
      dues = r.dues ∙ zero-add _;
      texts = r.texts ∙ zero-add _;
      three = omega (arith, t, at_most calls New);
      clear = λ e. t ∙ cleared calls New (sym r.state ∙ e);
      known = λ h. r.state ∙ known calls New h;
    }

-- ---- no count passes the number of calls
pub record Few (p : Played) (n : ℕ) : Type 0 where
  pub tries : p.tries ≤ n
  pub idles : p.idles ≤ n
  pub texts : p.texts ≤ n

bit : (b : Bool) → cond b 1 0 ≤ 1
bit true = omega arith
bit false = omega arith

few_more : (p : Played) (n : ℕ) (c : Call) → Few p n → Few (stepped p c) (n + 1)
few_more p n (Tick k w) h = record { tries = omega (arith, h.tries, bit (starts_try p.state k w)); idles = omega (arith, h.idles); texts = omega (arith, h.texts) }
few_more p n (Hear b w) h =
    let d : Bool = calls_for_one (holds_enquiry b.now) (is_known p.state) in
    record { tries = omega (arith, h.tries); idles = omega (arith, h.idles, bit (d && not w)); texts = omega (arith, h.texts, bit (d && w)) }

pub room : (p : Played) (n m : ℕ) → Few p n → n < m → m < 2 ^ 64 → Room p
room p n m h l k = record { tries = omega (arith, h.tries); idles = omega (arith, h.idles); texts = omega (arith, h.texts) }

-- one turn of the loop that plays a list
pub again : (calls : List Call) (i : ℕ) (d : Call) (p r : Played) → i < length calls → p ≡ fold stepped opened (take i calls) → Few p i
    → r ≡ stepped p (get_or calls i d) → (r ≡ fold stepped opened (take (i + 1) calls)) × Few r (i + 1)
again calls i d p r l e h n =
    (n ∙ ap (λ q. stepped q (get_or calls i d)) e ∙ sym (fold_more stepped opened calls i d l), subst (λ q. Few q (i + 1)) (sym n) (few_more p i (get_or calls i d) h))
