-- The law over histories, for the calls that there are.
use Rattle.std.proofs.Common.{◌≡◌, ℕ, zero, suc, ◌*◌, ◌≤◌, Bool, true, false, not, eqb, ltb, List, [], ◌∷◌, ◌++◌, map, length, get_or, take, ℤ, pos, ◌≤ℤ◌, Ok, Err, Result, refl, ap, ◌∙◌, subst, arith}
use lib.Signed.{lt_z}
use Rattle.std.proofs.lemmas.Int.{ints}
use Rattle.std.proofs.lemmas.Bool.{ltb-false}
use Rattle.std.proofs.lemmas.List.{get_or_append_left}
use Rattle.refusal.specs.declared.Refusal.{Refusal}
use Rattle.refusal.specs.declared.Refusal.TheVariants.{EmptyText, TextTooLong, BurstNotHeard, NoMarker, PoorFit, CountNotTaken}
use Rattle.refusal.specs.Answer.{refused_when}
use Rattle.code.specs.Coder.{coded_count}
use Rattle.stage.specs.declared.Marker.{Marker}
use Rattle.stage.specs.Meaning.{Meaning}
use Rattle.fit.specs.Fit.{fit, Best, earliest_best, best_of, starts, fits_well, best_start_answer}
use Rattle.fit.proofs.Bests.{best_stands}
use Rattle.receiver.specs.State.{State, opened, begins, find_answer}
use Rattle.receiver.specs.History.{Reply, done, found, reply, replies, answered, state_after, Shows, FindShows, FoundWell, Lawful, as_request}
use Rattle.receiver.specs.declared.history.Call.{Call}
use Rattle.receiver.specs.declared.history.Call.TheVariants.{Begin, Hear, Lose, Find}
use Rattle.receiver.proofs.Plays.{get_or-replies, length-replies}

-- a call that is answered has passed the check
passed : {X : Type 0} (test : Bool) (e : Refusal) (rest : Result X Refusal) (x : X) → refused_when test e rest ≡ Ok x → (test ≡ false) × (rest ≡ Ok x)
passed true e rest x h = absurd (let z : ◌≡◌ {A = ℕ} 0 1 = cc in omega arith)
passed false e rest x h = (refl, h)

same_ok : {X : Type 0} (x y : X) → ◌≡◌ {A = Result X Refusal} (Ok x) (Ok y) → x ≡ y
same_ok x y h = cc

at_least : (a b : ℤ) → lt_z a b ≡ false → b ≤ℤ a
at_least a b h = grind (arith, ints)

found_well : (s : State) (pile : Meaning) (markers : ℕ → List Marker) (n : ℕ) (best : ℕ × ℤ) → best_start_answer pile markers n s.standing ≡ Ok best → FoundWell s pile (markers n) n best.0 best.1
found_well s pile markers n best answer =
    let v = s.standing in
    let f : ℕ → ℤ = fit v (markers n) in
    let some : ℕ = starts (length v) (pile.size n) in
    let b : ℕ = earliest_best f some in
    let r3 : Result (ℕ × ℤ) Refusal = fits_well (length (markers n)) (best_of f some) in
    let r2 : Result (ℕ × ℤ) Refusal = refused_when (eqb (length (markers n)) 0) NoMarker r3 in
    let r1 : Result (ℕ × ℤ) Refusal = refused_when (ltb (length v) (pile.size n)) BurstNotHeard r2 in
    let taken = passed (not (pile.takes n)) CountNotTaken r1 best answer in
    let long = passed (ltb (length v) (pile.size n)) BurstNotHeard r2 best taken.1 in
    let marked = passed (eqb (length (markers n)) 0) NoMarker r3 best long.1 in
    let good = passed (lt_z (f b) (pos (64 * length (markers n)))) PoorFit (Ok (b, f b)) best marked.1 in
    let room : pile.size n ≤ length v = ltb-false (length v) (pile.size n) long.0 in
    let stands : Best f some b = best_stands f some (omega arith) in
    let is : (b, f b) ≡ best = same_ok (b, f b) best good.1 in
    subst (λ (p : ℕ × ℤ). FoundWell s pile (markers n) n p.0 p.1) is
    (record {
      heard = omega (arith, stands.within);
      fit_is = refl;
      most = λ other h. stands.greatest other (omega arith);
      earliest = stands.earliest;
      enough = at_least (f b) (pos (64 * length (markers n))) good.0;
    })

find_shows : (room : ℕ) (s : State) (pile : Meaning) (markers : ℕ → List Marker) (m : ℕ) (r : Result (ℕ × ℤ) Refusal) → find_answer s pile markers m ≡ r → FindShows s pile markers m (answered (λ best. found best.0 best.1) r)
find_shows room s pile markers m (Err e) is = tt
find_shows room s pile markers m (Ok best) is =
    let rest : Result (ℕ × ℤ) Refusal = best_start_answer pile markers (coded_count m) s.standing in
    let some = passed (eqb m 0) EmptyText (refused_when (ltb 240 m) TextTooLong rest) best is in
    found_well s pile markers (coded_count m) best (passed (ltb 240 m) TextTooLong rest best some.1).1

-- every call of the code shows what it has to
shows : {M : Type 0} (meaning : M → Meaning) (markers : M → ℕ → List Marker) (room : ℕ) (s : State) (call : Call M) → Shows s (as_request meaning markers call) (reply room s (as_request meaning markers call))
shows meaning markers room s Begin = tt
shows meaning markers room s (Hear heard) = tt
shows meaning markers room s (Lose place n) = tt
shows meaning markers room s (Find pile m) = find_shows room s (meaning pile.now) (markers pile.now) m _ refl

get_or-map_at : {M : Type 0} (meaning : M → Meaning) (markers : M → ℕ → List Marker) (calls : List (Call M)) (k : ℕ) → get_or (map (as_request meaning markers) calls) k begins ≡ as_request meaning markers (get_or calls k Begin)
get_or-map_at meaning markers [] k = refl
get_or-map_at meaning markers (c ∷ cs) zero = refl
get_or-map_at meaning markers (c ∷ cs) (suc k) = get_or-map_at meaning markers cs k

pub lawful : {M : Type 0} (meaning : M → Meaning) (markers : M → ℕ → List Marker) (room : ℕ) (calls : List (Call M)) (answers rest : List Reply) → answers ≡ replies room opened (map (as_request meaning markers) calls) ++ rest → Lawful room (map (as_request meaning markers) calls) answers
lawful meaning markers room calls answers rest are k below =
    let requests = map (as_request meaning markers) calls in
    let told = get_or-replies room opened requests k below in
    let here : get_or answers k done ≡ reply room (state_after room opened (take k requests)) (get_or requests k begins) =
    ap (λ rs. get_or rs k done) are ∙ get_or_append_left (replies room opened requests) rest done k (rw length-replies below) ∙ told in
    let asked : get_or requests k begins ≡ as_request meaning markers (get_or calls k Begin) = get_or-map_at meaning markers calls k in
    rw (here, asked) (shows meaning markers room (state_after room opened (take k requests)) (get_or calls k Begin))
