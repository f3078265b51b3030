-- A loop that fills the first places of lent memory, one after the other.
use Rattle.std.proofs.Common.{◌≡◌, ℕ, zero, suc, ◌+◌, ◌*◌, ◌<◌, ◌≤◌, List, [], ◌∷◌, ◌++◌, map, length, drop, set, sym, refl, ap, ◌∙◌, append_assoc, append-nil, add-zero, mul-zero, zero-add, mul-suc, add-one, arith}
use borrow.Rule.Slice.PartMut.{put_mid}
use Rattle.std.specs.List.{range_with_len, flat_map}
use Rattle.std.proofs.lemmas.List.FromFn.{fill_by_all, get_or-map-range_with_len, length-map-range_with_len, map-range_with_len_more}
use Rattle.std.proofs.lemmas.List.{flat_map_more, length-append, map-id, drop_all, drop_at, drop-drop, drop_more, set_at, take_at}

-- memory whose first n places hold f of their place, and whose rest is as found
abbrev pub filled : {X : Type 0} → (ℕ → X) → ℕ → List X → List X
filled f n memory = map f (range_with_len 0 n) ++ drop n memory

pub filled_more : {X : Type 0} (f : ℕ → X) (n j : ℕ) (memory : List X) (x : X) → n + 1 ≡ j → n < length memory → x ≡ f n → set (filled f n memory) n x ≡ filled f j memory
filled_more f n j memory x next within is =
    ap (λ l. set (map f (range_with_len 0 n) ++ l) n x) (drop_more memory n x within)
    ∙ set_at (map f (range_with_len 0 n)) _ (drop (n + 1) memory) x n (length-map-range_with_len f 0 n)
    ∙ ap (λ y. map f (range_with_len 0 n) ++ y ∷ drop (n + 1) memory) is
    ∙ sym (append_assoc (map f (range_with_len 0 n)) (f n ∷ []) (drop (n + 1) memory))
    ∙ ap (λ l. l ++ drop (n + 1) memory) (sym (map-range_with_len_more f 0 n n (omega arith)))
    ∙ ap (λ m. filled f m memory) next

-- a part that is filled to its end holds nothing else
pub filled_whole : {X : Type 0} (f : ℕ → X) (n : ℕ) (part : List X) → length part ≤ n → filled f n part ≡ map f (range_with_len 0 n)
filled_whole f n part all = ap (λ l. map f (range_with_len 0 n) ++ l) (drop_all n part all) ∙ append-nil (map f (range_with_len 0 n))

-- functions that agree below n list alike
pub same_map : {X : Type 0} (f g : ℕ → X) (n : ℕ) → ((i : ℕ) → i < n → f i ≡ g i) → map f (range_with_len 0 n) ≡ map g (range_with_len 0 n)
same_map f g n same =
    fill_by_all g (map f (range_with_len 0 n)) n (f 0) (length-map-range_with_len f 0 n) (λ k h. get_or-map-range_with_len f 0 n k k (f 0) h (zero-add k) ∙ same k h)

-- a list by places is its first n and what comes behind
split_map : {X : Type 0} (f : ℕ → X) (n k : ℕ) → map f (range_with_len 0 n) ++ map (λ i. f (n + i)) (range_with_len 0 k) ≡ map f (range_with_len 0 (n + k))
split_map f n zero = append-nil (map f (range_with_len 0 n)) ∙ ap (λ m. map f (range_with_len 0 m)) (sym (add-zero n))
split_map f n (suc k) =
    ap (λ m. map f (range_with_len 0 n) ++ map (λ i. f (n + i)) (range_with_len 0 m)) (sym (add-one k))
    ∙ ap (λ l. map f (range_with_len 0 n) ++ l) (map-range_with_len_more (λ i. f (n + i)) 0 k k (zero-add k))
    ∙ sym (append_assoc (map f (range_with_len 0 n)) (map (λ i. f (n + i)) (range_with_len 0 k)) (f (n + k) ∷ []))
    ∙ ap (λ l. l ++ f (n + k) ∷ []) (split_map f n k)
    ∙ sym (map-range_with_len_more f 0 (n + k) (n + k) (zero-add (n + k)))
    ∙ ap (λ m. map f (range_with_len 0 m)) (omega arith)

-- a write of k places from n on, as `&mut memory[n..n + k]`
pub filled_part : {X : Type 0} (f g : ℕ → X) (n k j : ℕ) (memory ys : List X) → n + k ≡ j → ys ≡ map g (range_with_len 0 k) → ((i : ℕ) → i < k → g i ≡ f (n + i)) → put_mid n k (filled f n memory) ys ≡ filled f j memory
filled_part f g n k j memory ys next is same =
    let front = map f (range_with_len 0 n) in
    let long : length front ≡ n = length-map-range_with_len f 0 n in
    let part : ys ≡ map (λ i. f (n + i)) (range_with_len 0 k) = is ∙ same_map g (λ i. f (n + i)) k same in
    (λ i. take_at front (drop n memory) n long i ++ (part i ++ drop k (drop_at front (drop n memory) n long i)))
    ∙ ap (λ l. front ++ (map (λ i. f (n + i)) (range_with_len 0 k) ++ l)) (drop-drop k n memory)
    ∙ sym (append_assoc front (map (λ i. f (n + i)) (range_with_len 0 k)) (drop (n + k) memory))
    ∙ ap (λ l. l ++ drop (n + k) memory) (split_map f n k)
    ∙ ap (λ m. filled f m memory) next

-- memory in whose first places a list was laid
abbrev pub laid : {X : Type 0} → List X → List X → List X
laid xs memory = xs ++ drop (length xs) memory

-- k more places are written behind it, as `&mut memory[n..n + k]`
pub laid_more : {X : Type 0} (xs ys memory : List X) (n k : ℕ) → length xs ≡ n → length ys ≡ k → put_mid n k (laid xs memory) ys ≡ laid (xs ++ ys) memory
laid_more xs ys memory n k long more =
    (λ i. take_at xs (drop (length xs) memory) n long i ++ (ys ++ drop k (drop_at xs (drop (length xs) memory) n long i)))
    ∙ ap (λ l. xs ++ (ys ++ l)) (drop-drop k (length xs) memory)
    ∙ sym (append_assoc xs ys (drop (length xs + k) memory))
    ∙ ap (λ m. (xs ++ ys) ++ drop m memory) (ap (λ m. length xs + m) (sym more) ∙ sym (length-append xs ys))

-- a list that is joined place by place, one place more
pub joined_counting_more : {X : Type 0} (f : ℕ → List X) (start : List X) (n : ℕ) → (start ++ flat_map f (range_with_len 0 n)) ++ f n ≡ start ++ flat_map f (range_with_len 0 (n + 1))
joined_counting_more f start n =
    let more : range_with_len 0 (n + 1) ≡ range_with_len 0 n ++ n ∷ [] = sym (map-id (range_with_len 0 (n + 1))) ∙ map-range_with_len_more (λ m. m) 0 n n (zero-add n) ∙ ap (λ l. l ++ n ∷ []) (map-id (range_with_len 0 n)) in
    flat_map_more f start (range_with_len 0 n) n ∙ ap (λ l. start ++ flat_map f l) (sym more)

-- its length, where each place gives as many
pub length-joined : {X : Type 0} (f : ℕ → List X) (k : ℕ) → ((i : ℕ) → length (f i) ≡ k) → (n : ℕ) → length (flat_map f (range_with_len 0 n)) ≡ k * n
length-joined f k each zero = sym (mul-zero k)
length-joined f k each (suc n) =
    ap length (ap (λ m. flat_map f (range_with_len 0 m)) (sym (add-one n)) ∙ sym (joined_counting_more f [] n))
    ∙ length-append (flat_map f (range_with_len 0 n)) (f n)
    ∙ (λ i. length-joined f k each n i + each n i)
    ∙ sym (mul-suc k n)

-- what was laid first does not matter once more is laid over it
pub laid_over : {X : Type 0} (xs ys memory : List X) → laid (xs ++ ys) (laid xs memory) ≡ laid (xs ++ ys) memory
laid_over xs ys memory =
    ap (λ l. (xs ++ ys) ++ l)
    (ap (λ m. drop m (laid xs memory)) (length-append xs ys)
    ∙ sym (drop-drop (length ys) (length xs) (laid xs memory))
    ∙ ap (drop (length ys)) (drop_at xs (drop (length xs) memory) (length xs) refl)
    ∙ drop-drop (length ys) (length xs) memory
    ∙ ap (λ m. drop m memory) (sym (length-append xs ys)))
