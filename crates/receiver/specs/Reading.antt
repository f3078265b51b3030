-- What reading will have to meet: it writes the nearest text. No call reads yet; these are the rules that the call is
-- to be held to.
use Rattle.std.specs.Prelude.{◌≡◌, ℕ, zero, suc, ◌+◌, ◌*◌, ◌/◌, ◌%◌, ◌^◌, ◌<◌, ◌≤◌, Bool, true, false, cond, not, ◌||◌, List, map, length, ℤ, pos, negsuc, ◌+ℤ◌, neg_ℤ, ◌≤ℤ◌, Some, None, Ok, Option, Result, ◌≢◌, nat_lt, slice_index, slice_index_or}
use Rattle.std.specs.List.{range_with_len}
use Rattle.std.specs.Option.{unwrap_or}
use Rattle.refusal.specs.declared.Refusal.{Refusal}
use Rattle.refusal.specs.declared.Refusal.TheVariants.{MemoryTooShort, BurstNotHeard, CountNotTaken}
use Rattle.refusal.specs.Answer.{refused_when, text_checked}
use Rattle.code.specs.Coder.{bit, coded, coded_count}
use Rattle.stage.specs.declared.Content.{Content}
use Rattle.stage.specs.declared.Content.TheVariants.{Carried, Inverted, Fixed, Mute}
use Rattle.stage.specs.Meaning.{Meaning, home_of}
use Rattle.fit.specs.Fit.{earliest_best}
use Rattle.receiver.specs.State.{State}

-- the bit that stands where a pile has this content when these bits enter, or none at a mute
abbrev pub evaluated : (ℕ → Bool) → Content → Option Bool
evaluated entering (Carried i) = Some (entering i)
evaluated entering (Inverted i) = Some (not (entering i))
evaluated entering (Fixed b) = Some b
evaluated entering Mute = None

-- the burst of a text at each place: what leaves the pile when the text's coded bits enter
abbrev pub burst : Meaning → List ℕ → ℕ → Option Bool
burst pile text place = evaluated (coded (bit text)) (pile.at (coded_count (length text)) place)

-- how far a value is from what was sent: 127 minus the value at a 1, 127 plus it at a 0, nothing at a mute
abbrev pub gap : Option Bool → ℤ → ℤ
gap (Some b) value = pos 127 +ℤ cond b (neg_ℤ value) value
gap None value = pos 0

-- the sum of f at 0, at 1, and so on below n
abbrev pub total : ℕ → (ℕ → ℤ) → ℤ
total zero f = pos 0
total (suc n) f = total n f +ℤ f n

-- the distance of a text: the gaps summed over the places of its burst, counted from the start
abbrev pub distance : State → Meaning → List ℕ → ℤ
distance s pile text =
    total (pile.size (coded_count (length text))) (λ place. gap (burst pile text place) (slice_index_or s.standing (s.start + place) (pos 0)))

-- the string of m octets that a number spells, the last octet counting most: of two strings the one with the smaller
-- octet at the last place where they differ has the smaller number
abbrev pub spelled : ℕ → ℕ → List ℕ
spelled m number = map (λ k. number / 256 ^ k % 256) (range_with_len 0 m)

-- the text to read: of all strings of m octets the first, in that order, whose distance is least
unfoldable pub nearest : State → Meaning → ℕ → List ℕ
nearest s pile m = spelled m (earliest_best (λ number. neg_ℤ (distance s pile (spelled m number))) (256 ^ m))

-- reading answers the nearest text, which it writes, and its distance; the text memory has to have m places, and the
-- working memory 8m + 4
abbrev pub read_answer : State → Meaning → (m text work : ℕ) → Result (List ℕ × ℤ) Refusal
read_answer s pile m text work =
    text_checked m
    (refused_when (not (pile.takes (coded_count m))) CountNotTaken
    (refused_when (nat_lt (length s.standing) (s.start + pile.size (coded_count m))) BurstNotHeard
    (refused_when (nat_lt text m || nat_lt work (8 * m + 4)) MemoryTooShort
    (Ok (nearest s pile m, distance s pile (nearest s pile m))))))

-- a string of m octets
abbrev pub Octets : ℕ → List ℕ → Type 0
Octets m text = (length text ≡ m) × ((k : ℕ) → slice_index text k < 256)

-- the first of two strings of one length comes earlier: it has the smaller octet at the last place where they differ
abbrev pub Earlier : List ℕ → List ℕ → Type 0
Earlier a b = (k : ℕ) × (slice_index a k < slice_index b k) × ((j : ℕ) → k < j → slice_index a j ≡ slice_index b j)

-- how a coded bit was heard: at full strength, wrong (at full strength the other way) or lost
pub data Heard : Type 0 where
  full wrong lost : Heard

abbrev pub is_wrong : Heard → Bool
is_wrong full = false
is_wrong wrong = true
is_wrong lost = false

abbrev pub is_lost : Heard → Bool
is_lost full = false
is_lost wrong = false
is_lost lost = true

-- the value that a bit so heard leaves
abbrev pub heard_value : Heard → Bool → ℤ
heard_value full b = cond b (pos 127) (negsuc 126)
heard_value wrong b = cond b (negsuc 126) (pos 127)
heard_value lost b = pos 0

-- how many of the first n pass a test
abbrev pub count : ℕ → (ℕ → Bool) → ℕ
count zero test = 0
count (suc n) test = count n test + cond (test n) 1 0

-- the burst of a text of m octets stands at the start, each of its coded bits heard in some way at its home; the
-- other places hold anything. Twice the wrong ones plus the lost ones are at most 15
pub record StandsAtStart (s : State) (pile : Meaning) (m : ℕ) (sent : List ℕ) (heard : ℕ → Heard) : Type 0 where
  pub octets : Octets m sent
  pub values : (i : ℕ) → i < coded_count m → slice_index_or s.standing (s.start + home_of pile (coded_count m) i) (pos 0) ≡ heard_value (heard i) (unwrap_or (burst pile sent (home_of pile (coded_count m) i)) false)
  pub within : 2 * count (coded_count m) (λ i. is_wrong (heard i)) + count (coded_count m) (λ i. is_lost (heard i)) ≤ 15

-- what an accepted reading has to show besides: every string is at least as far as the text, every other that is
-- equally far comes later in the order, and the text is the one sent if the noise is as above
pub record ReadWell (s : State) (pile : Meaning) (m : ℕ) (text : List ℕ) (apart : ℤ) : Type 0 where
  pub octets : Octets m text
  pub apart_is : apart ≡ distance s pile text
  pub least : (other : List ℕ) → Octets m other → apart ≤ℤ distance s pile other
  pub first : (other : List ℕ) → Octets m other → distance s pile other ≡ apart → (other ≢ text) → Earlier text other
  pub corrects : (sent : List ℕ) (heard : ℕ → Heard) → StandsAtStart s pile m sent heard → text ≡ sent
