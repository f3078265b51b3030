-- A run of the reader: what it gave, in order, is the reading of the text that it passed.
use Rattle.std.proofs.Common.{◌≡◌, ℕ, zero, suc, ◌+◌, ◌^◌, ◌<◌, ◌≤◌, Bool, true, false, cond, ◌||◌, eqb, ltb, List, [], ◌∷◌, ◌++◌, length, get_or, take, drop, Some, None, IsUtf8, sym, refl, ap, ◌∙◌, subst, append_assoc, append-nil, add-zero, zero-add, arith, length-append, length-drop, get_or-drop, drop-drop}
use Rattle.std.proofs.lemmas.Bool.{lt-ltb, le-ltb, cond-false}
use Rattle.std.proofs.lemmas.List.{nil_from_length}
use Rattle.std.specs.Iterator.{Yields, Drains}
use Rattle.std.specs.Str.{StartsWithNoChar}
use Rattle.character.specs.declared.Item.{Item}
use Rattle.character.specs.declared.Placed.{Placed}
use Rattle.character.specs.declared.Characters.{Characters}
use Rattle.character.specs.Reader.{front_item, standing, octets_of, Next, joined, is_broken, is_enquiry, is_idle, is_character, counted, tally_of, holds_enquiry, Reading}
use Rattle.character.specs.Forms.{Room, one_more}
use Rattle.character.proofs.Fronts.{front_split, front_no_char, front_whole, front_enquiry, octets_some, standing_some, standing_none}

-- ---- counts
pub counted_push : (kind : Item → Bool) (xs : List Placed) (x : Placed) → counted kind (xs ++ x ∷ []) ≡ counted kind xs + cond (kind x.item) 1 0
counted_push kind [] x = add-zero _ ∙ sym (zero-add _)
counted_push kind (y ∷ xs) x = omega (arith, counted_push kind xs x)

pub counted_le : (kind : Item → Bool) (xs : List Placed) → counted kind xs ≤ length (joined xs)
counted_le kind [] = omega arith
counted_le kind (x ∷ xs) =
    let one : cond (kind x.item) 1 0 ≤ 1 = elim (kind x.item) as (λ b. cond b 1 0 ≤ 1) [ true ↦ omega arith | false ↦ omega arith ] in
    omega (arith, one, counted_le kind xs, octets_some x.item, length-append (octets_of x.item) (joined xs))

holds_append : (xs ys : List ℕ) → holds_enquiry (xs ++ ys) ≡ (holds_enquiry xs || holds_enquiry ys)
holds_append [] ys = refl
holds_append (x ∷ xs) ys = ap (λ b. eqb x 5 || b) (holds_append xs ys) ∙ assoc (eqb x 5) (holds_enquiry xs) (holds_enquiry ys)
  where
    assoc : (a b c : Bool) → (a || (b || c)) ≡ ((a || b) || c)
    assoc true b c = refl
    assoc false b c = refl

any_more : (b : Bool) (n : ℕ) → (b || ltb 0 n) ≡ ltb 0 (cond b 1 0 + n)
any_more true n = sym (lt-ltb 0 (1 + n) (omega arith))
any_more false n = ap (ltb 0) (sym (zero-add n))

-- ---- a run
module _ (text : List ℕ) where
  pub record Ran (from to : ℕ) (xs : List Placed) : Type 0 where
    pub passed : drop from text ≡ joined xs ++ drop to text
    pub reach : to ≡ from + length (joined xs)
    pub within : from ≤ length text → to ≤ length text
    pub places : (k : ℕ) (d : Placed) → k < length xs → (get_or xs k d).place ≡ from + length (joined (take k xs))
    pub stands : (k : ℕ) (d : Placed) → k < length xs → standing text (get_or xs k d).place ≡ Some (get_or xs k d)
    pub broken : (k : ℕ) (d : Placed) → k < length xs → is_broken (get_or xs k d).item ≡ true → StartsWithNoChar (drop (get_or xs k d).place text)
    pub unbroken : IsUtf8 (drop from text) → counted is_broken xs ≡ 0
    pub enquiries : holds_enquiry (joined xs) ≡ ltb 0 (counted is_enquiry xs)

  still : (from to : ℕ) → from ≡ to → Ran from to []
  still from to e = record {
    passed = ap (λ n. drop n text) e;
    reach = sym e ∙ sym (add-zero from);
    within = λ h. omega arith;
    places = λ k d h. absurd (omega arith);
    stands = λ k d h. absurd (omega arith);
    broken = λ k d h. absurd (omega arith);
    unbroken = λ _. refl;
    enquiries = refl;
  }

  -- one item more in front
  module _ (from next to : ℕ) (x : Placed) (xs : List Placed) (e : Some x ≡ standing text from) (m : next ≡ from + length (octets_of x.item)) (r : Ran next to xs) where
    at : (from < length text) × (x ≡ record { place = from; item = front_item (get_or text from 0) (drop from text) })
    at = standing_some text from x e

    rest : List ℕ
    rest = drop from text

    first : get_or (drop from text) 0 0 ≡ get_or text from 0
    first = get_or-drop from text 0 0 ∙ ap (λ k. get_or text k 0) (add-zero from)

    item_is : x.item ≡ front_item (get_or (drop from text) 0 0) (drop from text)
    item_is = ap (λ (y : Placed). y.item) at.1 ∙ ap (λ b. front_item b (drop from text)) (sym first)

    some : 0 < length (drop from text)
    some = omega (arith, at.0, length-drop from text)

    behind : drop (length (octets_of x.item)) (drop from text) ≡ drop next text
    behind = drop-drop (length (octets_of x.item)) from text ∙ ap (λ n. drop n text) (sym m)

    split : drop from text ≡ octets_of x.item ++ drop next text
    split =
        subst (λ i. drop from text ≡ octets_of i ++ drop (length (octets_of i)) (drop from text)) (sym item_is) (front_split (drop from text) some)
        ∙ ap (λ ys. octets_of x.item ++ ys) behind

    more_places : (k : ℕ) (d : Placed) → k < length (x ∷ xs) → (get_or (x ∷ xs) k d).place ≡ from + length (joined (take k (x ∷ xs)))
    more_places zero d h = ap (λ (y : Placed). y.place) at.1 ∙ sym (add-zero from)
    more_places (suc k) d h = omega (arith, m, r.places k d (omega arith), length-append (octets_of x.item) (joined (take k xs)))

    more_stands : (k : ℕ) (d : Placed) → k < length (x ∷ xs) → standing text (get_or (x ∷ xs) k d).place ≡ Some (get_or (x ∷ xs) k d)
    more_stands zero d h = ap (λ (y : Placed). standing text y.place) at.1 ∙ sym e
    more_stands (suc k) d h = r.stands k d (omega arith)

    more_broken : (k : ℕ) (d : Placed) → k < length (x ∷ xs) → is_broken (get_or (x ∷ xs) k d).item ≡ true → StartsWithNoChar (drop (get_or (x ∷ xs) k d).place text)
    more_broken zero d h b =
        subst (λ n. StartsWithNoChar (drop n text)) (sym (ap (λ (y : Placed). y.place) at.1))
        (front_no_char (drop from text) (ap is_broken (sym item_is) ∙ b))
    more_broken (suc k) d h b = r.broken k d (omega arith) b

    more_unbroken : IsUtf8 (drop from text) → counted is_broken (x ∷ xs) ≡ 0
    more_unbroken u =
        let w = subst (λ i. (is_broken i ≡ false) × IsUtf8 (drop (length (octets_of i)) (drop from text))) (sym item_is) (front_whole (drop from text) some u) in
        ap (λ b. cond b 1 0 + counted is_broken xs) w.0 ∙ zero-add _ ∙ r.unbroken (subst IsUtf8 behind w.1)

    more_enquiries : holds_enquiry (joined (x ∷ xs)) ≡ ltb 0 (counted is_enquiry (x ∷ xs))
    more_enquiries =
        let f : holds_enquiry (octets_of x.item) ≡ is_enquiry x.item = subst (λ i. holds_enquiry (octets_of i) ≡ is_enquiry i) (sym item_is) (front_enquiry (drop from text)) in
        holds_append (octets_of x.item) (joined xs) ∙ (λ k. f k || r.enquiries k) ∙ any_more (is_enquiry x.item) (counted is_enquiry xs)

    pub more : Ran from to (x ∷ xs)
    more = record {
      passed = split ∙ ap (λ ys. octets_of x.item ++ ys) r.passed ∙ sym (append_assoc (octets_of x.item) (joined xs) (drop to text));
      reach = omega (arith, m, r.reach, length-append (octets_of x.item) (joined xs));
      within = λ h. r.within (omega (arith, some, ap length split, length-append (octets_of x.item) (drop next text), length-drop from text, length-drop next text, at.0, octets_some x.item, m));
      places = more_places;
      stands = more_stands;
      broken = more_broken;
      unbroken = more_unbroken;
      enquiries = more_enquiries;
    }

  pub ran : (xs : List Placed) (s t : Characters) → s.text.now ≡ text → Yields Next s xs t → Ran s.place t.place xs × (t.text.now ≡ text)
  ran [] s t e y = (still s.place t.place (ap (λ (u : Characters). u.place) y), ap (λ (u : Characters). u.text.now) (sym y) ∙ e)
  ran (x ∷ xs) s t e y =
      let j = y.0 in
      let n = y.1 in
      let r = ran xs j t (n.text ∙ e) y.2 in
      (more s.place j.place t.place x xs (n.item ∙ ap (λ ts. standing ts s.place) e) n.place r.0, r.1)

  -- a run from the first place to the end
  pub reading : (xs : List Placed) (s : Characters) → s.text.now ≡ text → s.place ≡ 0 → Drains Next s xs → Reading text xs
  reading xs s e z (u, w) =
      let t = w.0 in
      let y = w.1 in
      let n = w.2 in
      let r = ran xs s t e y in
      let end : length text ≤ t.place = standing_none text t.place (n.item ∙ ap (λ ts. standing ts t.place) r.1) in
      let whole : drop s.place text ≡ text = ap (λ k. drop k text) z in
      let empty : drop t.place text ≡ [] = nil_from_length (drop t.place text) (omega (arith, end, length-drop t.place text)) in
      let all : joined xs ≡ text = sym (sym whole ∙ r.0.passed ∙ ap (λ ys. joined xs ++ ys) empty ∙ append-nil (joined xs)) in
      record {
        octets = all;
        places = λ k d h. r.0.places k d h ∙ ap (λ m. m + length (joined (take k xs))) z ∙ zero-add _;
        stands = r.0.stands;
        broken = r.0.broken;
        unbroken = λ v. r.0.unbroken (subst IsUtf8 (sym whole) v);
        enquiries = ap holds_enquiry (sym all) ∙ r.0.enquiries;
      }

  -- where one item more comes, each count has room for it
  pub room : (xs : List Placed) (s t u : Characters) (x : Placed) → s.text.now ≡ text → Yields Next s xs t → Next t (Some x) u → length text < 2 ^ 64 → Room (tally_of xs)
  room xs s t u x e y n l =
      let r = ran xs s t e y in
      let at = standing_some text t.place x (n.item ∙ ap (λ ts. standing ts t.place) r.1) in
      let most : length (joined xs) + 1 ≤ length text = omega (arith, r.0.reach, at.0) in
      record {
        enquiries = omega (arith, most, l, counted_le is_enquiry xs);
        idles = omega (arith, most, l, counted_le is_idle xs);
        characters = omega (arith, most, l, counted_le is_character xs);
        broken = omega (arith, most, l, counted_le is_broken xs);
      }

pub tally_push : (xs : List Placed) (x : Placed) → tally_of (xs ++ x ∷ []) ≡ one_more (tally_of xs) x.item
tally_push xs x = λ k. record {
  enquiries = counted_push is_enquiry xs x k;
  idles = counted_push is_idle xs x k;
  characters = counted_push is_character xs x k;
  broken = counted_push is_broken xs x k;
}

-- ---- the reading of a text is one list
module _ (text : List ℕ) where
  -- each item is what stands where the one before it ends, and nothing stands behind the last
  abbrev Chain : ℕ → List Placed → Type 0
  Chain p [] = standing text p ≡ None
  Chain p (x ∷ xs) = (standing text p ≡ Some x) × Chain (p + length (octets_of x.item)) xs

  same : (xs ys : List Placed) (p : ℕ) → Chain p xs → Chain p ys → xs ≡ ys
  same [] [] p c d = refl
  same [] (y ∷ ys) p c d = absurd (let e = d.0 in let z : ◌≡◌ {A = ℕ} 0 1 = cc in omega arith)
  same (x ∷ xs) [] p c d = absurd (let e = c.0 in let z : ◌≡◌ {A = ℕ} 0 1 = cc in omega arith)
  same (x ∷ xs) (y ∷ ys) p c d =
      let f = c.0 in
      let g = d.0 in
      let e : y ≡ x = cc in
      let r = same xs ys (p + length (octets_of x.item)) c.1 (subst (λ (z : Placed). Chain (p + length (octets_of z.item)) ys) e d.1) in
      λ k. sym e k ∷ r k

  chain : (xs : List Placed) (p : ℕ) → ((k : ℕ) (d : Placed) → k < length xs → (get_or xs k d).place ≡ p + length (joined (take k xs)))
      → ((k : ℕ) (d : Placed) → k < length xs → standing text (get_or xs k d).place ≡ Some (get_or xs k d)) → p + length (joined xs) ≡ length text → Chain p xs
  chain [] p places stands end = cond-false _ _ _ (le-ltb p (length text) (omega (arith, end)))
  chain (x ∷ xs) p places stands end =
      let n : ℕ = length (octets_of x.item) in
      let here : x.place ≡ p = places 0 x (omega arith) ∙ add-zero p in (
        ap (standing text) (sym here) ∙ stands 0 x (omega arith),
        chain xs (p + n)
            (λ k d h. omega (arith, places (suc k) d (omega arith), length-append (octets_of x.item) (joined (take k xs))))
            (λ k d h. stands (suc k) d (omega arith))
            (omega (arith, end, length-append (octets_of x.item) (joined xs))),
      )

  whole_chain : (xs : List Placed) → Reading text xs → Chain 0 xs
  whole_chain xs r = chain xs 0 (λ k d h. r.places k d h ∙ sym (zero-add _)) r.stands (zero-add _ ∙ ap length r.octets)

  pub only : (xs ys : List Placed) → Reading text xs → Reading text ys → ys ≡ xs
  only xs ys r q = same ys xs 0 (whole_chain ys q) (whole_chain xs r)
