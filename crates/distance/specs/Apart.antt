-- How far apart the coded bits of two texts lie, and how much noise that corrects.
use Rattle.std.specs.Prelude.{◌≡◌, ℕ, ◌+◌, ◌*◌, ◌<◌, ◌≤◌, Bool, true, false, cond, List, ◌≢◌}
use Rattle.std.specs.Bool.{xor}
use Rattle.code.specs.Coder.{bit, coded, coded_count}
use Rattle.distance.specs.Nearest.{total, Octets, distance}

-- the number of places below n at which the test holds
abbrev pub count : ℕ → (ℕ → Bool) → ℕ
count n test = total n (λ i. cond (test i) 1 0)

-- any two different texts of m octets have coded bits that differ in at least n places
abbrev pub Apart : ℕ → Type 0
Apart n = (m : ℕ) (a b : List ℕ) → Octets m a → Octets m b → (a ≢ b)
    → n ≤ count (coded_count m) (λ i. xor (coded (bit a) i) (coded (bit b) i))

-- how a coded bit was heard: at full strength, wrong (at full strength the other way) or lost
pub data Heard : Type 0 where
  full wrong lost : Heard

abbrev pub is_wrong : Heard → Bool
is_wrong full = false
is_wrong wrong = true
is_wrong lost = false

abbrev pub is_lost : Heard → Bool
is_lost full = false
is_lost wrong = false
is_lost lost = true

-- what it then costs to take the bit for b, where it was sent as the second of the two: a value lies from -127 to
-- 127, and a bit costs how far the value is from its full strength
abbrev pub heard_cost : Heard → Bool → Bool → ℕ
heard_cost full sent b = cond (xor sent b) 254 0
heard_cost wrong sent b = cond (xor sent b) 0 254
heard_cost lost sent b = 127

-- the coded bits of a text were heard so, with twice the wrong ones plus the lost ones at most n
pub record HeardWithin (n : ℕ) (cost : ℕ → Bool → ℕ) (m : ℕ) (sent : List ℕ) (heard : ℕ → Heard) : Type 0 where
  pub octets : Octets m sent
  pub costs : (i : ℕ) → i < coded_count m → (b : Bool) → cost i b ≡ heard_cost (heard i) (coded (bit sent) i) b
  pub within : 2 * count (coded_count m) (λ i. is_wrong (heard i)) + count (coded_count m) (λ i. is_lost (heard i)) ≤ n

-- with twice the wrong plus the lost at most n, the text sent is nearer than every other
abbrev pub Corrects : ℕ → Type 0
Corrects n = (cost : ℕ → Bool → ℕ) (m : ℕ) (sent : List ℕ) (heard : ℕ → Heard) → HeardWithin n cost m sent heard
    → (other : List ℕ) → Octets m other → (other ≢ sent) → distance cost sent < distance cost other
