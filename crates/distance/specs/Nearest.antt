-- How far a text lies from what was heard, the order of texts, and the nearest text.
use Rattle.std.specs.Prelude.{◌≡◌, ℕ, zero, suc, ◌+◌, ◌<◌, ◌≤◌, Bool, List, length, ◌≢◌, slice_index}
use Rattle.code.specs.Coder.{bit, coded, coded_count}

-- the sum of f at 0, at 1, and so on below n
abbrev pub total : ℕ → (ℕ → ℕ) → ℕ
total zero f = 0
total (suc n) f = total n f + f n

-- a string of m octets
abbrev pub Octets : ℕ → List ℕ → Type 0
Octets m text = (length text ≡ m) × ((k : ℕ) → slice_index text k < 256)

-- the distance of a text: what each of its coded bits costs, summed; cost i b is the cost of coded bit i being b
abbrev pub distance : (ℕ → Bool → ℕ) → List ℕ → ℕ
distance cost text = total (coded_count (length text)) (λ i. cost i (coded (bit text) i))

-- of two strings of one length the first comes earlier: it has the smaller octet at the last place where they differ
abbrev pub Earlier : List ℕ → List ℕ → Type 0
Earlier a b = (k : ℕ) × (slice_index a k < slice_index b k) × ((j : ℕ) → k < j → slice_index a j ≡ slice_index b j)

-- the nearest string of m octets: every string is at least as far, and every other that is equally far comes later
pub record Nearest (cost : ℕ → Bool → ℕ) (m : ℕ) (text : List ℕ) : Type 0 where
  pub octets : Octets m text
  pub least : (other : List ℕ) → Octets m other → distance cost text ≤ distance cost other
  pub first : (other : List ℕ) → Octets m other → distance cost other ≡ distance cost text → (other ≢ text) → Earlier text other
