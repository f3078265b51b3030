-- What the private steps promise each other.
use Rattle.std.specs.Prelude.{◌≡◌, ℕ, ◌+◌, ◌*◌, ◌%◌, ◌^◌, ◌<◌, ◌≤◌, true, cond, List, ◌++◌, length, drop, fold, IfSome, Option, MatchOption, ◌==◌}
use Rattle.std.proofs.Math.Utf8.{scalar, encode}
use Rattle.std.specs.Str.{StartsWithNoChar}
use Rattle.character.specs.declared.Item.{Item}
use Rattle.character.specs.declared.Placed.{Placed}
use Rattle.character.specs.declared.Tally.{Tally}
use Rattle.character.specs.Reader.{octets_of, is_enquiry, is_idle, is_character, is_broken}

-- an octet that may stand third or fourth
abbrev pub Tail : ℕ → Type 0
Tail b = (0x80 ≤ b) × (b < 0xC0)

-- the least octet that may stand second: below it the form would not be the shortest
abbrev pub least_second : ℕ → ℕ
least_second first = cond (first == 0xE0) 0xA0 (cond (first == 0xF0) 0x90 0x80)

-- the greatest octet that may stand second: above it would be a surrogate, or a number past 0x10FFFF
abbrev pub greatest_second : ℕ → ℕ
greatest_second first = cond (first == 0xED) 0x9F (cond (first == 0xF4) 0x8F 0xBF)

-- an octet that may stand second, behind a first
abbrev pub Second : ℕ → ℕ → Type 0
Second first b = (least_second first ≤ b) × (b ≤ greatest_second first)

-- a number whose highest bits are given, and whose lower ones are the lowest six of each octet behind, in order
abbrev pub with_behind : ℕ → List ℕ → ℕ
with_behind high behind = fold (λ number octet. number * 64 + octet % 64) high behind

-- the octets begin with the encoding of the character that was found, or of none where none was
abbrev pub Found : List ℕ → Option ℕ → Type 0
Found octets r = MatchOption r (StartsWithNoChar octets) (λ c. (scalar c ≡ true) × (octets ≡ encode c ++ drop (length (encode c)) octets))

-- what came ends within so many octets, and takes one or more
abbrev pub Within : ℕ → ℕ → Option Placed → Type 0
Within n place r = IfSome r (λ x. (place + length (octets_of x.item) ≤ n) × (0 < length (octets_of x.item)))

-- a tally with one item more
abbrev pub one_more : Tally → Item → Tally
one_more t i =
    record { enquiries = t.enquiries + cond (is_enquiry i) 1 0; idles = t.idles + cond (is_idle i) 1 0; characters = t.characters + cond (is_character i) 1 0; broken = t.broken + cond (is_broken i) 1 0 }

-- each count has room for one more
pub record Room (t : Tally) : Type 0 where
  pub enquiries : t.enquiries + 1 < 2 ^ 64
  pub idles : t.idles + 1 < 2 ^ 64
  pub characters : t.characters + 1 < 2 ^ 64
  pub broken : t.broken + 1 < 2 ^ 64
