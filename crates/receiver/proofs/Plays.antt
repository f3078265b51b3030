-- A list of calls one longer.
use Rattle.std.proofs.Common.{◌≡◌, ℕ, zero, suc, ◌+◌, ◌<◌, ◌≤◌, List, [], ◌∷◌, ◌++◌, map, length, get_or, take, drop, set, ℤ, sym, refl, ap, ◌∙◌, arith}
use Rattle.std.proofs.lemmas.List.{drop_more, take_more, get_or-map, set_at, append_assoc, map-set, length-map, length-take-le, take_all}
use Rattle.std.proofs.lemmas.List.Sums.{fold_push}
use Rattle.receiver.specs.State.{State, Request, begins, capacity, next, laid}
use Rattle.receiver.specs.Held.{memory_of, room, held, Follows}
use Rattle.receiver.specs.declared.memory.Receiver.{Receiver}
use Rattle.receiver.specs.History.{Reply, done, reply, replies, state_after, memory_after}

pub replies_push : (room : ℕ) (s : State) (cs : List Request) (c : Request) → replies room s (cs ++ c ∷ []) ≡ replies room s cs ++ reply room (state_after room s cs) c ∷ []
replies_push room s [] c = refl
replies_push room s (x ∷ cs) c = ap (λ rs. reply room s x ∷ rs) (replies_push room (next room s x) cs c)

pub memory_push : (room : ℕ) (s : State) (memory : List ℤ) (cs : List Request) (c : Request) → memory_after room s memory (cs ++ c ∷ []) ≡ laid (next room (state_after room s cs) c).standing (memory_after room s memory cs)
memory_push room s memory [] c = refl
memory_push room s memory (x ∷ cs) c = memory_push room (next room s x) (laid (next room s x).standing memory) cs c

pub state_push : (room : ℕ) (s : State) (cs : List Request) (c : Request) → state_after room s (cs ++ c ∷ []) ≡ next room (state_after room s cs) c
state_push room s cs c = fold_push (next room) s cs c

pub length-replies : (room : ℕ) (s : State) (cs : List Request) → length (replies room s cs) ≡ length cs
length-replies room s [] = refl
length-replies room s (x ∷ cs) = ap suc (length-replies room (next room s x) cs)

pub get_or-replies : (room : ℕ) (s : State) (cs : List Request) (k : ℕ) → k < length cs → get_or (replies room s cs) k done ≡ reply room (state_after room s (take k cs)) (get_or cs k begins)
get_or-replies room s [] k below = absurd (omega arith)
get_or-replies room s (x ∷ cs) zero below = refl
get_or-replies room s (x ∷ cs) (suc k) below = get_or-replies room (next room s x) cs k (omega arith)

-- one answer more is written behind the others
answers_push : (before found : List Reply) (now' : List Reply) (i : ℕ) (v : Reply) → length before ≡ i → i < length found → now' ≡ before ++ drop i found → set now' i v ≡ (before ++ v ∷ []) ++ drop (i + 1) found
answers_push before found now' i v long below is =
    let more : drop i found ≡ get_or found i v ∷ drop (i + 1) found = drop_more found i v below in
    let step : set (before ++ get_or found i v ∷ drop (i + 1) found) i v ≡ before ++ v ∷ drop (i + 1) found = set_at before (get_or found i v) (drop (i + 1) found) v i long in
    rw (is, more) (step ∙ sym (append_assoc before (v ∷ []) (drop (i + 1) found)))

-- what a turn of playing shows
pub record Played (room : ℕ) (s : State) (memory : List ℤ) (found : List Reply) (calls : List Request) (i : ℕ) (held' : State) (memory' : List ℤ) (answers : List Reply) : Type 0 where
  pub state : held' ≡ state_after room s (take i calls)
  pub left : memory' ≡ memory_after room s memory (take i calls)
  pub replied : answers ≡ replies room s (take i calls) ++ drop i found

pub played_none : (room : ℕ) (s : State) (memory : List ℤ) (found : List Reply) (calls : List Request) → Played room s memory found calls 0 s memory found
played_none room s memory found calls = record { state = refl; left = refl; replied = refl }

pub played_more : (room : ℕ) (s : State) (memory : List ℤ) (found : List Reply) (calls : List Request) (i : ℕ) (held' held'' : State) (memory' memory'' : List ℤ) (answers : List Reply) (c : Request) (r : Reply)
    → i < length calls → i < length found → take (i + 1) calls ≡ take i calls ++ c ∷ [] → Played room s memory found calls i held' memory' answers
    → held'' ≡ next room held' c → memory'' ≡ laid held''.standing memory' → r ≡ reply room held' c
    → Played room s memory found calls (i + 1) held'' memory'' (set answers i r)
played_more room s memory found calls i held' held'' memory' memory'' answers c r below within more so_far state left replied =
    let before = take i calls in
    let is_state : held'' ≡ next room (state_after room s before) c = state ∙ ap (λ h. next room h c) so_far.state in
    let is-reply : r ≡ reply room (state_after room s before) c = replied ∙ ap (λ h. reply room h c) so_far.state in
    let long : length (replies room s before) ≡ i = length-replies room s before ∙ length-take-le i calls (omega arith) in
    let put : set answers i r ≡ (replies room s before ++ r ∷ []) ++ drop (i + 1) found = answers_push (replies room s before) found answers i r long within so_far.replied in
    record {
      state = rw more (is_state ∙ sym (state_push room s before c));
      left = rw more (left ∙ ap (λ h. laid h.standing memory') is_state ∙ ap (laid (next room (state_after room s before) c).standing) so_far.left ∙ sym (memory_push room s memory before c));
      replied = rw more (put ∙ ap (λ rs. rs ++ drop (i + 1) found) (ap (λ x. replies room s before ++ x ∷ []) is-reply ∙ sym (replies_push room s before c)));
    }

-- the request that a turn makes
requests_more : {X : Type 0} (f : X → Request) (calls : List X) (i : ℕ) (x : X) → i < length calls → x ≡ get_or calls i x → take (i + 1) (map f calls) ≡ take i (map f calls) ++ f x ∷ []
requests_more f calls i x below is =
    let within : i < length (map f calls) = rw length-map below in
    let at : get_or (map f calls) i (f x) ≡ f x = get_or-map f calls i x (f x) below ∙ ap f (sym is) in
    take_more (map f calls) i (f x) within ∙ ap (λ y. take i (map f calls) ++ y ∷ []) at

-- a turn of playing: the receiver makes call x and answers a
pub turn : {X Y : Type 0} (f : X → Request) (h : Y → Reply) (size : ℕ) (s : State) (memory : List ℤ) (found : List Reply) (calls : List X) (i : ℕ) (x : X) (a : Y) (answers : List Y) (before after : Receiver)
    → i < length calls → i < length found → x ≡ get_or calls i x
    → Played (capacity size) s memory found (map f calls) i (held before) (memory_of before) (map h answers)
    → length (memory_of before) ≡ size → h a ≡ reply (room before) (held before) (f x) → Follows before (f x) after
    → Played (capacity size) s memory found (map f calls) (i + 1) (held after) (memory_of after) (map h (set answers i a))
turn f h size s memory found calls i x a answers before after below within is so_far long replied follows =
    let within' : i < length (map f calls) = rw length-map below in
    let state : held after ≡ next (capacity size) (held before) (f x) = follows.state ∙ ap (λ n. next (capacity n) (held before) (f x)) long in
    let told : h a ≡ reply (capacity size) (held before) (f x) = replied ∙ ap (λ n. reply (capacity n) (held before) (f x)) long in
    rw map-set (played_more (capacity size) s memory found (map f calls) i (held before) (held after) (memory_of before) (memory_of after) (map h answers) (f x) (h a) within' within (requests_more f calls i x below is) so_far state follows.memory told)

-- the whole list was played
pub played_all : (room : ℕ) (s : State) (memory : List ℤ) (found : List Reply) (calls : List Request) (i : ℕ) (held' : State) (memory' : List ℤ) (answers : List Reply) → length calls ≤ i → i ≤ length calls → Played room s memory found calls i held' memory' answers → (memory' ≡ memory_after room s memory calls) × (answers ≡ replies room s calls ++ drop (length (replies room s calls)) found)
played_all room s memory found calls i held' memory' answers most least so_far =
    let all : take i calls ≡ calls = take_all i calls most in
    let end : length (replies room s calls) ≡ i = length-replies room s calls ∙ omega arith in
    (so_far.left ∙ ap (memory_after room s memory) all, rw end (so_far.replied ∙ ap (λ cs. replies room s cs ++ drop i found) all))
