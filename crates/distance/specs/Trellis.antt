-- The trellis: paths through the sixteen states of the coder, what a path costs, and the best path into a state.
-- A path is a stream of bits that begins with the four before the first bit of the text: after k steps the coder's
-- state is the four bits from place k on, and step k adds the bit at place k + 4.
use Rattle.std.specs.Prelude.{◌≡◌, ℕ, zero, suc, ◌+◌, ◌*◌, ◌/◌, ◌%◌, ◌^◌, ◌<◌, ◌≤◌, Bool, false, cond, List, [], ◌∷◌, map, get_or, ◌==◌, nat_lt, slice_index, slice_index_or}
use Rattle.code.specs.Coder.{bit, before, sums, parity}
use Rattle.distance.specs.Nearest.{total}

-- the place four further on
abbrev pub four : ℕ → ℕ
four k = suc (suc (suc (suc k)))

-- a bit as a number
abbrev pub one : Bool → ℕ
one b = cond b 1 0

-- the path of a text: four zeros, its bits, zeros
abbrev pub path : List ℕ → ℕ → Bool
path text i = before (bit text) i 4

-- the state after k steps: the oldest of its four bits counts 1, the newest 8
abbrev pub state : ℕ → (ℕ → Bool) → ℕ
state k c = one (c k) + 2 * one (c (suc k)) + 4 * one (c (suc (suc k))) + 8 * one (c (suc (suc (suc k))))

-- the five bits that step k adds up, the newest first
abbrev pub window : ℕ → (ℕ → Bool) → List Bool
window k c = c (four k) ∷ c (suc (suc (suc k))) ∷ c (suc (suc k)) ∷ c (suc k) ∷ c k ∷ []

-- the coded bit i of the four that a step sends
abbrev pub sent : List Bool → ℕ → Bool
sent bits i = parity (map (λ d. get_or bits d false) (slice_index_or sums i []))

-- what four coded bits cost at step k
abbrev pub four_cost : (ℕ → Bool → ℕ) → ℕ → Bool → Bool → Bool → Bool → ℕ
four_cost cost k p q r s = (cost (4 * k) p + cost (4 * k + 1) q) + (cost (4 * k + 2) r + cost (4 * k + 3) s)

-- what the branch that a path takes at step k costs
abbrev pub branch : (ℕ → Bool → ℕ) → ℕ → (ℕ → Bool) → ℕ
branch cost k c =
    four_cost cost k (sent (window k c) 0) (sent (window k c) 1) (sent (window k c) 2) (sent (window k c) 3)

-- what it costs to begin in a state: nothing in the zero state, and in another more than any text can cost
abbrev pub begin_cost : ℕ → ℕ
begin_cost s = cond (s == 0) 0 (2 ^ 30)

-- what a path costs over its first k steps
unfoldable pub path_cost : (ℕ → Bool → ℕ) → ℕ → (ℕ → Bool) → ℕ
path_cost cost k c = begin_cost (state 0 c) + total k (λ j. branch cost j c)

-- the first n bits of a path as a number, the last counting most
unfoldable pub value : ℕ → (ℕ → Bool) → ℕ
value n c = total n (λ i. one (c i) * 2 ^ i)

-- of the paths that are in the same state after k steps this one is the cheapest, and of equally cheap ones the first
abbrev pub Best : (ℕ → Bool → ℕ) → ℕ → (ℕ → Bool) → Type 0
Best cost k c = (y : ℕ → Bool) → state k y ≡ state k c
    → (path_cost cost k c ≤ path_cost cost k y) × (path_cost cost k c ≡ path_cost cost k y → value (four k) c ≤ value (four k) y)

-- the path with the bit at place n put in
abbrev pub put : (ℕ → Bool) → ℕ → Bool → ℕ → Bool
put c n b i = cond (i == n) b (c i)

-- the state before state s: its bits move up by one, and a decision bit says which bit dropped out
abbrev pub back : ℕ → ℕ → ℕ
back s decisions = 2 * (s % 8) + decisions / 2 ^ s % 2

-- four states back: the state before the four steps from k on, where the state after them is s
abbrev pub four_back : List ℕ → ℕ → ℕ → ℕ
four_back work k s =
    back (back (back (back s (slice_index work (k + 3))) (slice_index work (k + 2))) (slice_index work (k + 1))) (slice_index work k)

-- the path that the decisions of the steps below k lead back to from state s
unfoldable pub traced : List ℕ → ℕ → ℕ → ℕ → Bool
traced work zero s i = s / 2 ^ i % 2 == 1
traced work (suc k) s i = put (traced work k (back s (slice_index work k))) (four k) (s / 8 == 1) i

-- after k steps the decisions lead from each state to the best path into it, and the metrics are what these paths cost
abbrev pub Survivors : (ℕ → Bool → ℕ) → ℕ → List ℕ → List ℕ → Type 0
Survivors cost k work metrics =
    (s : ℕ) → s < 16 → Best cost k (traced work k s) × (slice_index metrics s ≡ path_cost cost k (traced work k s))

-- the lowest bit of a number
abbrev pub odd : ℕ → Bool
odd n = n % 2 == 1

-- what the four coded bits that a number below 16 spells cost at step k, the first counting 1
abbrev pub label_cost : (ℕ → Bool → ℕ) → ℕ → ℕ → ℕ
label_cost cost k q = four_cost cost k (odd q) (odd (q / 2)) (odd (q / 4)) (odd (q / 8))

-- the five bits that a number below 32 spells, the newest first and counting 16
abbrev pub bits_of : ℕ → List Bool
bits_of v = odd (v / 16) ∷ odd (v / 8) ∷ odd (v / 4) ∷ odd (v / 2) ∷ odd v ∷ []

-- the number that the coded bits of a branch spell: v is the state before it, plus 16 where the new bit is 1
abbrev pub label : ℕ → ℕ
label v = one (sent (bits_of v) 0) + 2 * one (sent (bits_of v) 1) + 4 * one (sent (bits_of v) 2) + 8 * one (sent (bits_of v) 3)

-- the labels of the branches from the states 0, 2, 4 and so on with a new 0; the proofs hold them to the four sums
abbrev pub labels : List ℕ
labels = 0 ∷ 14 ∷ 11 ∷ 5 ∷ 12 ∷ 2 ∷ 7 ∷ 9 ∷ []

-- what it costs to come to state s where the bit d drops out
abbrev pub candidate : List ℕ → List ℕ → ℕ → ℕ → ℕ
candidate metrics costs s d = slice_index metrics (2 * (s % 8) + d) + slice_index costs (label (2 * (s % 8) + d + 16 * (s / 8)))

-- each state's new metric is the cheaper of its two candidates, and its decision bit says which one; a tie goes to 0
abbrev pub Chosen : List ℕ → List ℕ → List ℕ → ℕ → ℕ → Type 0
Chosen metrics costs new decisions s =
    (slice_index new s ≡ cond (nat_lt (candidate metrics costs s 1) (candidate metrics costs s 0)) (candidate metrics costs s 1) (candidate metrics costs s 0))
    × (decisions / 2 ^ s % 2 ≡ one (nat_lt (candidate metrics costs s 1) (candidate metrics costs s 0)))

-- the octet at i that a path holds: its lower four bits are the state after step 8i + 4, its upper four that after 8i + 8
abbrev pub octet : ℕ → (ℕ → Bool) → ℕ
octet i c = state (four (8 * i)) c + 16 * state (four (four (8 * i))) c

-- no coded bit of the first n steps costs more than b
abbrev pub Bounded : (ℕ → Bool → ℕ) → ℕ → ℕ → Type 0
Bounded cost n b = (i : ℕ) → i < 4 * n → (x : Bool) → cost i x ≤ b
