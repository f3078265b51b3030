-- A slice as arrays.
use Rattle.std.proofs.Common.{◌≡◌, ℕ, zero, suc, ◌+◌, ◌*◌, ◌<◌, List, [], get_or, drop, sym, ap, ◌∙◌, add-zero, add_assoc, add_comm, zero-add, mul-zero, mul-suc, arith}
use Rattle.std.proofs.lemmas.List.{get_or-drop, get_or-take}
use Rattle.std.specs.Simd.{first_chunks}

-- element j of chunk k
chunk_at : {X : Type 0} (c n : ℕ) (xs : List X) (k j : ℕ) (d : X) → k < n → j < c → get_or (get_or (first_chunks c n xs) k []) j d ≡ get_or xs (c * k + j) d
chunk_at c zero xs k j d below within = absurd (omega arith)
chunk_at c (suc n) xs zero j d below within = get_or-take c xs j d within ∙ ap (λ i. get_or xs i d) (sym (zero-add j) ∙ ap (λ m. m + j) (sym (mul-zero c)))
chunk_at c (suc n) xs (suc k) j d below within = chunk_at c n (drop c xs) k j d (omega arith) within ∙ get_or-drop c xs (c * k + j) d ∙ ap (λ i. get_or xs i d) (sym (add_assoc c (c * k) j) ∙ ap (λ m. m + j) (add_comm c (c * k) ∙ sym (mul-suc c k)))

-- the two elements of pair k
pub pair_at : (n : ℕ) (xs : List ℕ) (pairs : List (List ℕ)) (k : ℕ) → pairs ≡ first_chunks 2 n xs → k < n → (get_or (get_or pairs k []) 0 0 ≡ get_or xs (2 * k) 0) × (get_or (get_or pairs k []) 1 0 ≡ get_or xs (2 * k + 1) 0)
pair_at n xs pairs k is below =
    let element : (j : ℕ) → j < 2 → get_or (get_or pairs k []) j 0 ≡ get_or xs (2 * k + j) 0 = λ j h. ap (λ ps. get_or (get_or ps k []) j 0) is ∙ chunk_at 2 n xs k j 0 below h in
    (element 0 (omega arith) ∙ ap (λ i. get_or xs i 0) (add-zero (2 * k)), element 1 (omega arith))
