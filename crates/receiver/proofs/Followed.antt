-- What a call has done to a receiver is what the rules say.
use Rattle.std.proofs.Common.{◌≡◌, ℕ, ◌+◌, ◌≤◌, List, ◌++◌, length, take, drop, replicate, ℤ, pos, Ok, sym, refl, ap, ◌∙◌, arith, rules}
use Rattle.std.proofs.lemmas.List.{places, same_lists, take-append-drop, length-take-le}
use Rattle.stage.specs.declared.Marker.{Marker}
use Rattle.stage.specs.Meaning.{Meaning}
use Rattle.receiver.specs.State.{Request, finds, find_answer, next, erased}
use Rattle.receiver.specs.Held.{memory_of, room, held, Follows}
use Rattle.receiver.specs.declared.memory.Receiver.{Receiver}

-- a call after which the receiver holds what the rules say, and which left the memory behind the count as it was
pub settled : (before after : Receiver) (call : Request) → held after ≡ next (room before) (held before) call → length (memory_of after) ≡ length (memory_of before) → drop after.count (memory_of after) ≡ drop after.count (memory_of before) → after.values.ghost_name ≡ before.values.ghost_name → Follows before call after
settled before after call state long rest same =
    let fits : after.count ≤ length (memory_of after) = omega (arith, after.within) in
    record {
      state = state;
      memory = rw (length-take-le after.count (memory_of after) fits, ← rest) (sym (take-append-drop after.count (memory_of after)));
      long = long;
      same = same;
    }

-- a burst was found
pub found_follows : (before after : Receiver) (pile : Meaning) (markers : ℕ → List Marker) (m : ℕ) (best : ℕ × ℤ) → after.values ≡ before.values → after.count ≡ before.count → after.start ≡ best.0 → find_answer (held before) pile markers m ≡ Ok best → Follows before (finds pile markers m) after
found_follows before after pile markers m best values count start accepted =
    let memory : memory_of after ≡ memory_of before = ap (λ v. v.now) values in
    let standing : take after.count (memory_of after) ≡ take before.count (memory_of before) = rw (memory, count) refl in
    let state : held after ≡ next (room before) (held before) (finds pile markers m) = rw accepted (ap (λ v. record { standing = v; start = after.start }) standing ∙ ap (λ s. record { standing = take before.count (memory_of before); start = s }) start) in
    settled before after (finds pile markers m) state (ap length memory) (ap (drop after.count) memory) (ap (λ x. x.ghost_name) values)

-- what stands after n values were set to 0
pub take_erased : (memory : List ℤ) (count place n : ℕ) → place + n ≤ count → count ≤ length memory → take count (take place memory ++ (replicate n (pos 0) ++ drop n (drop place memory))) ≡ erased (take count memory) place n
take_erased memory count place n within fits =
    same_lists _ _ (search (rules, places)) (λ k d h. grind (arith, places))
