-- What stands at a place of a text's octets, and the reading of a whole text.
use Rattle.std.specs.Prelude.{◌≡◌, ℕ, ◌+◌, ◌*◌, ◌%◌, ◌<◌, Bool, true, false, cond, ◌&&◌, ◌||◌, List, [], ◌∷◌, ◌++◌, length, get_or, take, drop, Some, None, IsUtf8, Option, ◌==◌, nat_lt, slice_index, slice_index_or}
use Rattle.std.proofs.Math.Utf8.{scalar, encode}
use Rattle.std.specs.Str.{StartsWithNoChar}
use Rattle.character.specs.declared.Item.{Item}
use Rattle.character.specs.declared.Item.TheVariants.{Enquiry, Idle, Character, Broken}
use Rattle.character.specs.declared.Placed.{Placed}
use Rattle.character.specs.declared.Characters.{Characters}
use Rattle.character.specs.declared.Tally.{Tally}

-- the octets begin with those of a front
abbrev pub starts : List ℕ → List ℕ → Bool
starts [] octets = true
starts (a ∷ front) [] = false
starts (a ∷ front) (b ∷ octets) = a == b && starts front octets

-- the number that the first octets spell in the form that the first of them announces: all of an octet
-- below 0x80; else its lowest five, four or three bits, then the lowest six bits of one, two or three more
abbrev pub spelled : List ℕ → ℕ
spelled octets =
    cond (nat_lt (slice_index octets 0) 0x80) (slice_index octets 0)
    (cond (nat_lt (slice_index octets 0) 0xE0) (slice_index octets 0 % 32 * 64 + slice_index octets 1 % 64)
    (cond (nat_lt (slice_index octets 0) 0xF0) (slice_index octets 0 % 16 * 4096 + slice_index octets 1 % 64 * 64 + slice_index octets 2 % 64)
    (slice_index octets 0 % 8 * 262144 + slice_index octets 1 % 64 * 4096 + slice_index octets 2 % 64 * 64 + slice_index octets 3 % 64)))

-- a character stands at the front: the number spelled there is a scalar value, from 0 to 0x10FFFF and
-- no surrogate, and the octets begin with its encoding by RFC 3629, which is the shortest
abbrev pub character_stands : List ℕ → Bool
character_stands octets = scalar (spelled octets) && starts (encode (spelled octets)) octets

-- the item at the front of octets that begin with b
abbrev pub front_item : ℕ → List ℕ → Item
front_item b octets =
    cond (b == 0x05) Enquiry (cond (b == 0x16) Idle (cond (character_stands octets) (Character (spelled octets)) (Broken b)))

-- what stands at a place of a text: nothing from its end on
abbrev pub standing : List ℕ → ℕ → Option Placed
standing text place =
    cond (nat_lt place (length text)) (Some (record { place = place; item = front_item (slice_index text place) (drop place text) })) None

-- the octets of an item
abbrev pub octets_of : Item → List ℕ
octets_of Enquiry = 0x05 ∷ []
octets_of Idle = 0x16 ∷ []
octets_of (Character c) = encode c
octets_of (Broken b) = b ∷ []

-- how many octets what came takes
abbrev pub length_of : Option Placed → ℕ
length_of None = 0
length_of (Some x) = length (octets_of x.item)

-- one call of `next`: it gives what stands at the place, and goes on behind it
pub record Next (s : Characters) (r : Option Placed) (t : Characters) : Type 0 where
  pub item : r ≡ standing s.text.now s.place
  pub place : t.place ≡ s.place + length_of r
  pub text : t.text.now ≡ s.text.now

-- the octets of items in a row
abbrev pub joined : List Placed → List ℕ
joined [] = []
joined (x ∷ xs) = octets_of x.item ++ joined xs

-- the kinds of items
abbrev pub is_enquiry : Item → Bool
is_enquiry Enquiry = true
is_enquiry Idle = false
is_enquiry (Character c) = false
is_enquiry (Broken b) = false

abbrev pub is_idle : Item → Bool
is_idle Enquiry = false
is_idle Idle = true
is_idle (Character c) = false
is_idle (Broken b) = false

abbrev pub is_character : Item → Bool
is_character Enquiry = false
is_character Idle = false
is_character (Character c) = true
is_character (Broken b) = false

abbrev pub is_broken : Item → Bool
is_broken Enquiry = false
is_broken Idle = false
is_broken (Character c) = false
is_broken (Broken b) = true

-- how many items are of a kind
abbrev pub counted : (Item → Bool) → List Placed → ℕ
counted kind [] = 0
counted kind (x ∷ xs) = cond (kind x.item) 1 0 + counted kind xs

-- how many items of each kind there are
abbrev pub tally_of : List Placed → Tally
tally_of items =
    record { enquiries = counted is_enquiry items; idles = counted is_idle items; characters = counted is_character items; broken = counted is_broken items }

-- one of the octets is an enquiry
abbrev pub holds_enquiry : List ℕ → Bool
holds_enquiry [] = false
holds_enquiry (b ∷ text) = b == 0x05 || holds_enquiry text

-- these items, in order, are the reading of a text
pub record Reading (text : List ℕ) (items : List Placed) : Type 0 where
  -- their octets, in order, are the text
  pub octets : joined items ≡ text
  -- each place is the sum of the lengths before it
  pub places : (k : ℕ) (d : Placed) → k < length items → (get_or items k d).place ≡ length (joined (take k items))
  -- each item is what stands at its place
  pub stands : (k : ℕ) (d : Placed) → k < length items → standing text (get_or items k d).place ≡ Some (slice_index_or items k d)
  -- an octet is broken only where the encoding of no character begins
  pub broken : (k : ℕ) (d : Placed) → k < length items → is_broken (get_or items k d).item ≡ true → StartsWithNoChar (drop (get_or items k d).place text)
  -- a text that is valid UTF-8 has no broken octet
  pub unbroken : IsUtf8 text → counted is_broken items ≡ 0
  -- one of the octets is an enquiry exactly if one of the items is
  pub enquiries : holds_enquiry text ≡ nat_lt 0 (counted is_enquiry items)

-- these items are the reading of a text, and no others are
pub record OnlyReading (text : List ℕ) (items : List Placed) : Type 0 where
  pub reading : Reading text items
  pub only : (others : List Placed) → Reading text others → others ≡ items
