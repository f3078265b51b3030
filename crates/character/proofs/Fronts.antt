-- The item at the front of octets: what was found there is what stands there by the definition.
use Rattle.std.proofs.Common.{◌≡◌, ℕ, ◌+◌, ◌/◌, ◌<◌, ◌≤◌, Bool, true, false, cond, eqb, ltb, List, [], ◌∷◌, ◌++◌, length, get_or, drop, Some, None, IsUtf8, Option, MatchOption, sym, refl, ap, ◌∙◌, subst, ⊎_elim, append-nil, arith, lit<, length-append}
use lib.Utf8.{scalar, encode, next}
use Rattle.std.proofs.lemmas.Bool.{lt-ltb, le-ltb, cond-true, cond-false, and_from, and_parts, eq-eqb, eqb-true, eqb-false, ne_eqb, ltb-true, ltb-false, or_from, cond_both, cases_Bool, false≢true}
use Rattle.std.proofs.iter.FirstChar.{no_text}
use Rattle.std.proofs.lemmas.Str.{encode_ascii, IsUtf8-past_char, length-encode, len_utf8_bounds}
use Rattle.std.specs.Str.{StartsWithNoChar}
use Rattle.character.specs.declared.Placed.{Placed}
use Rattle.character.specs.declared.Item.{Item}
use Rattle.character.specs.declared.Item.TheVariants.{Enquiry, Idle, Character, Broken}
use Rattle.character.specs.Forms.{Found}
use Rattle.character.specs.Reader.{starts, spelled, character_stands, front_item, standing, octets_of, is_broken, is_enquiry, holds_enquiry}
use Rattle.character.proofs.Encodings.{Form, form1, form2, form3, form4, form, Begins}

starts_own : (p r : List ℕ) → starts p (p ++ r) ≡ true
starts_own [] r = refl
starts_own (a ∷ p) r = and_from _ _ (eq-eqb a a refl) (starts_own p r)

starts_begins : (p xs : List ℕ) → starts p xs ≡ true → xs ≡ p ++ drop (length p) xs
starts_begins [] xs h = refl
starts_begins (a ∷ p) [] h = absurd (let z : ◌≡◌ {A = ℕ} 0 1 = ap (λ b. cond b 1 0) h in omega arith)
starts_begins (a ∷ p) (b ∷ xs) h =
    let k = and_parts _ _ h in
    λ i. sym (eqb-true a b k.0) i ∷ starts_begins p xs k.1 i

spelled_form : (c : ℕ) (r : List ℕ) → Form c → spelled (encode c ++ r) ≡ c
spelled_form c r (form1 h e) = ap (λ p. spelled (p ++ r)) e ∙ cond-true _ _ _ (lt-ltb c 128 h)
spelled_form c r (form2 l h e) =
    ap (λ p. spelled (p ++ r)) e
    ∙ cond-false _ _ _ (le-ltb (192 + c / 64) 128 (omega arith))
    ∙ cond-true _ _ _ (lt-ltb (192 + c / 64) 224 (omega arith))
    ∙ omega arith
spelled_form c r (form3 l h k e) =
    ap (λ p. spelled (p ++ r)) e
    ∙ cond-false _ _ _ (le-ltb (224 + c / 4096) 128 (omega arith))
    ∙ cond-false _ _ _ (le-ltb (224 + c / 4096) 224 (omega arith))
    ∙ cond-true _ _ _ (lt-ltb (224 + c / 4096) 240 (omega arith))
    ∙ omega arith
spelled_form c r (form4 l h e) =
    ap (λ p. spelled (p ++ r)) e
    ∙ cond-false _ _ _ (le-ltb (240 + c / 262144) 128 (omega arith))
    ∙ cond-false _ _ _ (le-ltb (240 + c / 262144) 224 (omega arith))
    ∙ cond-false _ _ _ (le-ltb (240 + c / 262144) 240 (omega arith))
    ∙ omega arith

-- where octets begin with a character, that one is spelled there
pub spelled_begun : (xs : List ℕ) (c : ℕ) → Begins xs c → spelled xs ≡ c
spelled_begun xs c h = ap spelled h.1 ∙ spelled_form c (drop (length (encode c)) xs) (form c h.0)

pub stands_begun : (xs : List ℕ) (c : ℕ) → Begins xs c → character_stands xs ≡ true
stands_begun xs c h =
    let e : spelled xs ≡ c = spelled_begun xs c h in
    let s : starts (encode c) xs ≡ true = ap (starts (encode c)) h.1 ∙ starts_own (encode c) (drop (length (encode c)) xs) in
    and_from _ _ (ap scalar e ∙ h.0) (ap (λ d. starts (encode d) xs) e ∙ s)

pub begun_stands : (xs : List ℕ) → character_stands xs ≡ true → Begins xs (spelled xs)
begun_stands xs h = let k = and_parts _ _ h in (k.0, starts_begins (encode (spelled xs)) xs k.1)

pub stands_none : (xs : List ℕ) → StartsWithNoChar xs → character_stands xs ≡ false
stands_none xs n = ⊎_elim (λ t. let b = begun_stands xs t in absurd (n (spelled xs) _ b.0 b.1)) (λ f. f) (cases_Bool (character_stands xs))

pub none_stands : (xs : List ℕ) → character_stands xs ≡ false → StartsWithNoChar xs
none_stands xs f c r s e =
    let b : character_stands xs ≡ true = ap character_stands e ∙ (let t : character_stands (encode c ++ r) ≡ true = stands_own in t) in
    let z : ◌≡◌ {A = ℕ} 0 1 = ap (λ t. cond t 0 1) (sym b ∙ f) in omega arith
  where
    stands_own : character_stands (encode c ++ r) ≡ true
    stands_own =
        let d : spelled (encode c ++ r) ≡ c = spelled_form c r (form c s) in
        and_from _ _ (ap scalar d ∙ s) (ap (λ n. starts (encode n) (encode c ++ r)) d ∙ starts_own (encode c) r)

-- ---- the item
front_character : (xs : List ℕ) (c : ℕ) → (get_or xs 0 0 ≡ 5 → ⊥) → (get_or xs 0 0 ≡ 22 → ⊥) → Begins xs c → Character c ≡ front_item (get_or xs 0 0) xs
front_character xs c n m h = sym (
    cond-false _ _ _ (ne_eqb _ 5 n) ∙ cond-false _ _ _ (ne_eqb _ 22 m) ∙ cond-true _ _ _ (stands_begun xs c h) ∙ ap Character (spelled_begun xs c h))

front_broken : (xs : List ℕ) → (get_or xs 0 0 ≡ 5 → ⊥) → (get_or xs 0 0 ≡ 22 → ⊥) → StartsWithNoChar xs → Broken (get_or xs 0 0) ≡ front_item (get_or xs 0 0) xs
front_broken xs n m h = sym (
    cond-false _ _ _ (ne_eqb _ 5 n) ∙ cond-false _ _ _ (ne_eqb _ 22 m) ∙ cond-false _ _ _ (stands_none xs h))

-- the item by what was found, or by the first octet where nothing was
pub front_found : (x : ℕ) (xs : List ℕ) (r : Option ℕ) (i : Item) → (x ≡ 5 → ⊥) → (x ≡ 22 → ⊥) → Found (x ∷ xs) r → MatchOption r (i ≡ Broken x) (λ c. i ≡ Character c) → i ≡ front_item x (x ∷ xs)
front_found x xs None i n m f e = e ∙ front_broken (x ∷ xs) n m f
front_found x xs (Some c) i n m f e = e ∙ front_character (x ∷ xs) c n m f

-- what holds of each item that can stand at the front, by the reason for which it stands there
module _ (xs : List ℕ) (P : Item → Type 0) where
  pub by_front : (get_or xs 0 0 ≡ 5 → P Enquiry) → (get_or xs 0 0 ≡ 22 → P Idle)
      → ((get_or xs 0 0 ≡ 5 → ⊥) → Begins xs (spelled xs) → P (Character (spelled xs)))
      → ((get_or xs 0 0 ≡ 5 → ⊥) → StartsWithNoChar xs → P (Broken (get_or xs 0 0)))
      → P (front_item (get_or xs 0 0) xs)
  by_front e i c b =
      cond_both (eqb (get_or xs 0 0) 5) _ _ P (λ t. e (eqb-true _ _ t)) (λ f.
      cond_both (eqb (get_or xs 0 0) 22) _ _ P (λ t. i (eqb-true _ _ t)) (λ g.
      cond_both (character_stands xs) _ _ P (λ t. c (eqb-false _ _ f) (begun_stands xs t)) (λ t. b (eqb-false _ _ f) (none_stands xs t))))

opened : (xs : List ℕ) (b : ℕ) → 0 < length xs → get_or xs 0 0 ≡ b → xs ≡ b ∷ drop 1 xs
opened [] b l e = absurd (omega arith)
opened (x ∷ xs) b l e = λ k. e k ∷ xs

-- the item's octets are the first ones
pub front_split : (xs : List ℕ) → 0 < length xs → xs ≡ octets_of (front_item (get_or xs 0 0) xs) ++ drop (length (octets_of (front_item (get_or xs 0 0) xs))) xs
front_split xs l =
    by_front xs (λ i. xs ≡ octets_of i ++ drop (length (octets_of i)) xs) (opened xs 5 l) (opened xs 22 l) (λ _ h. h.1) (λ _ _. opened xs _ l refl)

pub octets_some : (i : Item) → 0 < length (octets_of i)
octets_some Enquiry = lit< tt
octets_some Idle = lit< tt
octets_some (Character c) = omega (arith, length-encode c, len_utf8_bounds c)
octets_some (Broken b) = lit< tt

-- an octet is broken only where no character begins
pub front_no_char : (xs : List ℕ) → is_broken (front_item (get_or xs 0 0) xs) ≡ true → StartsWithNoChar xs
front_no_char xs =
    by_front xs (λ i. is_broken i ≡ true → StartsWithNoChar xs) (λ _ t. absurd (false≢true t)) (λ _ t. absurd (false≢true t)) (λ _ _ t. absurd (false≢true t)) (λ _ n _. n)

-- at the front of valid UTF-8 no broken octet stands, and valid UTF-8 follows
pub front_whole : (xs : List ℕ) → 0 < length xs → IsUtf8 xs
    → (is_broken (front_item (get_or xs 0 0) xs) ≡ false) × IsUtf8 (drop (length (octets_of (front_item (get_or xs 0 0) xs))) xs)
front_whole xs l u =
    by_front xs (λ i. (is_broken i ≡ false) × IsUtf8 (drop (length (octets_of i)) xs))
    (λ e. (refl, IsUtf8-past_char xs _ 5 u (opened xs 5 l e ∙ ap (λ p. p ++ drop 1 xs) (sym (encode_ascii 5 (lit< tt))))))
    (λ e. (refl, IsUtf8-past_char xs _ 22 u (opened xs 22 l e ∙ ap (λ p. p ++ drop 1 xs) (sym (encode_ascii 22 (lit< tt))))))
    (λ _ h. (refl, IsUtf8-past_char xs _ (spelled xs) u h.1))
    (λ _ n. absurd (no_text xs [] (subst StartsWithNoChar (sym (append-nil xs)) n) u l))

high_octets : (b : ℕ) (bs : List ℕ) → 128 ≤ b → holds_enquiry bs ≡ false → holds_enquiry (b ∷ bs) ≡ false
high_octets b bs h f = or_from _ _ (ne_eqb b 5 (λ e. omega arith)) f

last : (c : ℕ) → holds_enquiry (next c ∷ []) ≡ false
last c = high_octets (next c) [] (omega arith) refl

no_enquiry : (c b : ℕ) (r : List ℕ) → (b ≡ 5 → ⊥) → get_or (encode c ++ r) 0 0 ≡ b → Form c → holds_enquiry (encode c) ≡ false
no_enquiry c b r n g (form1 h e) =
    ap holds_enquiry e ∙ or_from _ _ (ne_eqb c 5 (λ k. n (sym g ∙ ap (λ p. get_or (p ++ r) 0 0) e ∙ k))) refl
no_enquiry c b r n g (form2 l h e) =
    ap holds_enquiry e ∙ high_octets (192 + c / 64) (next c ∷ []) (omega arith) (last c)
no_enquiry c b r n g (form3 l h k e) =
    ap holds_enquiry e ∙ high_octets (224 + c / 4096) (next (c / 64) ∷ next c ∷ []) (omega arith) (high_octets (next (c / 64)) (next c ∷ []) (omega arith) (last c))
no_enquiry c b r n g (form4 l h e) =
    ap holds_enquiry e
    ∙ high_octets (240 + c / 262144) (next (c / 4096) ∷ next (c / 64) ∷ next c ∷ []) (omega arith) (high_octets (next (c / 4096)) (next (c / 64) ∷ next c ∷ []) (omega arith) (high_octets (next (c / 64)) (next c ∷ []) (omega arith) (last c)))

-- an enquiry's octet stands in no other item
pub front_enquiry : (xs : List ℕ) → holds_enquiry (octets_of (front_item (get_or xs 0 0) xs)) ≡ is_enquiry (front_item (get_or xs 0 0) xs)
front_enquiry xs =
    by_front xs (λ i. holds_enquiry (octets_of i) ≡ is_enquiry i) (λ _. refl) (λ _. refl)
    (λ n h. no_enquiry (spelled xs) (get_or xs 0 0) _ n (ap (λ p. get_or p 0 0) (sym h.1)) (form (spelled xs) h.0))
    (λ n _. or_from _ _ (ne_eqb _ 5 n) refl)

-- the item at the front takes no more than the octets there
pub front_length : (x : ℕ) (xs : List ℕ) → length (octets_of (front_item x (x ∷ xs))) ≤ length (x ∷ xs)
front_length x xs =
    let i : Item = front_item x (x ∷ xs) in
    omega (arith, ap length (front_split (x ∷ xs) (omega arith)), length-append (octets_of i) (drop (length (octets_of i)) (x ∷ xs)))

-- what stands at a place stands below the end, and is the item at the front of what follows
abbrev Here : List ℕ → ℕ → Placed
Here text p = record { place = p; item = front_item (get_or text p 0) (drop p text) }

pub standing_some : (text : List ℕ) (p : ℕ) (x : Placed) → Some x ≡ standing text p → (p < length text) × (x ≡ record { place = p; item = front_item (get_or text p 0) (drop p text) })
standing_some text p x h = by (ltb p (length text)) refl h
  where
    by : (b : Bool) → ltb p (length text) ≡ b → Some x ≡ cond b (Some (Here text p)) None → (p < length text) × (x ≡ Here text p)
    by true e k = (ltb-true p (length text) e, cc)
    by false e k = absurd (let z : ◌≡◌ {A = ℕ} 0 1 = cc in omega arith)

pub standing_none : (text : List ℕ) (p : ℕ) → None ≡ standing text p → length text ≤ p
standing_none text p h = by (ltb p (length text)) refl h
  where
    by : (b : Bool) → ltb p (length text) ≡ b → ◌≡◌ {A = Option Placed} None (cond b (Some (Here text p)) None) → length text ≤ p
    by true e k = absurd (let z : ◌≡◌ {A = ℕ} 0 1 = cc in omega arith)
    by false e k = ltb-false p (length text) e
