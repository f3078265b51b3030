-- The octets of a burst, place by place.
use Rattle.std.proofs.Common.{◌≡◌, ℕ, ◌<◌, ◌≤◌, not, T, ltb, leb, List, ◌++◌, map, length, get_or, drop, Ok, Err, sym, refl, ap, ◌∙◌, subst, arith}
use lib.Dec.{eqb_refl}
use Rattle.std.specs.List.{range_with_len}
use Rattle.std.proofs.lemmas.List.FromFn.{length-map-range_with_len, get_or-map-range_with_len, fill_by_all}
use Rattle.std.proofs.lemmas.List.{length-map, get_or-map}
use Rattle.std.proofs.lemmas.Bool.{lt-leb, le-ltb}
use Rattle.refusal.specs.declared.Refusal.{Refusal}
use Rattle.refusal.specs.declared.Refusal.TheVariants.{NoSuchPlace, MemoryTooShort, CountNotTaken}
use Rattle.refusal.specs.Answer.{refused_when, text_checked}
use Rattle.refusal.proofs.Checks.{past, text_past}
use Rattle.refusal.proofs.Front.{filled}
use Rattle.code.specs.Coder.{bit, coded, coded_bits, coded_count, coded_bit_answer}
use Rattle.stage.specs.declared.Content.{Content}
use Rattle.stage.specs.declared.Content.TheVariants.{Carried, Inverted, Fixed, Mute as Silence}
use Rattle.stage.specs.declared.Element.{Element}
use Rattle.stage.specs.declared.Element.TheVariants.{Mute}
use Rattle.stage.specs.Elements.{octet_of, element_of, opposite, evaluated}
use Rattle.stage.specs.Meaning.{Meaning, Homes, carries, length_answer, content_answer}
use Rattle.stage.proofs.Answers.{length_told, content_told, same_ok, is_true}
use Rattle.stage.proofs.Leaving.{length-leaving, get_or-leaving}
use Rattle.transmitter.specs.Burst.{entering, burst, burst_length, from_bit, element_answer, write_answer}

-- the octet at a place of the burst
abbrev pub octet_at : Meaning → List ℕ → ℕ → ℕ
octet_at m text p = octet_of (evaluated (entering text) (m.at (coded_count (length text)) p))

length-entering : (text : List ℕ) → length (entering text) ≡ coded_count (length text)
length-entering text =
    length-map (coded_bits text) element_of ∙ length-map-range_with_len (coded (bit text)) 0 (coded_count (length text))

get_or-entering : (text : List ℕ) (i : ℕ) → i < coded_count (length text) → get_or (entering text) i Mute ≡ element_of (coded (bit text) i)
get_or-entering text i h =
    let few = length-map-range_with_len (coded (bit text)) 0 (coded_count (length text)) in
    get_or-map element_of (coded_bits text) i (coded (bit text) i) Mute (subst (λ z. i < z) (sym few) h)
    ∙ ap element_of (get_or-map-range_with_len (coded (bit text)) 0 (coded_count (length text)) i i (coded (bit text) i) h (omega arith))

-- the burst in memory has the octet of each place
pub octets_of_burst : (m : Meaning) (text : List ℕ) → map octet_of (burst m text) ≡ map (octet_at m text) (range_with_len 0 (burst_length m text))
octets_of_burst m text =
    let long : length (burst m text) ≡ burst_length m text = length-leaving m (entering text) ∙ ap m.size (length-entering text) in
    fill_by_all (octet_at m text) (map octet_of (burst m text)) (burst_length m text) 0 (length-map (burst m text) octet_of ∙ long)
    (λ k h. get_or-map octet_of (burst m text) k Mute 0 (subst (λ z. k < z) (sym long) h)
    ∙ ap octet_of (get_or-leaving m (entering text) k (subst (λ z. k < z) (ap m.size (sym (length-entering text))) h)
    ∙ ap (λ z. evaluated (entering text) (m.at z k)) (length-entering text)))

-- the coded bit of an incoming element is answered
bit_there : (text : List ℕ) (n i : ℕ) → Ok n ≡ text_checked (length text) (Ok (coded_count (length text))) → i < coded_count (length text) → coded_bit_answer text i ≡ Ok (coded (bit text) i)
bit_there text n i e h =
    let rest = refused_when (leb (coded_count (length text)) i) NoSuchPlace (Ok (coded (bit text) i)) in
    (text_past (length text) (coded_count (length text)) n rest e).0
    ∙ past (leb (coded_count (length text)) i) NoSuchPlace (Ok (coded (bit text) i)) (lt-leb (coded_count (length text)) i h)

-- the element of a content that carries only incoming elements is answered
pub element_there : (text : List ℕ) (n : ℕ) (c : Content) → Ok n ≡ text_checked (length text) (Ok (coded_count (length text))) → ((i : ℕ) → T (carries c i) → i < coded_count (length text)) → element_answer text c ≡ Ok (evaluated (entering text) c)
element_there text n (Carried i) e h =
    ap (from_bit element_of) (bit_there text n i e (h i (eqb_refl i))) ∙ ap Ok (sym (get_or-entering text i (h i (eqb_refl i))))
element_there text n (Inverted i) e h =
    ap (from_bit (λ b. opposite (element_of b))) (bit_there text n i e (h i (eqb_refl i)))
    ∙ ap (λ x. Ok (opposite x)) (sym (get_or-entering text i (h i (eqb_refl i))))
element_there text n (Fixed b) e h = refl
element_there text n Silence e h = refl

-- what stands at a place of the burst is answered: the stage's content there, and its element
module _ (m : Meaning) (homes : Homes m) (text : List ℕ) (n : ℕ) (counted : Ok n ≡ text_checked (length text) (Ok (coded_count (length text)))) where
  pub n_is : n ≡ coded_count (length text)
  n_is = (text_past (length text) (coded_count (length text)) n (Ok n) counted).1

  pub place_there : (p : ℕ) (c : Content) → Ok c ≡ content_answer m n p → element_answer text c ≡ Ok (evaluated (entering text) (m.at (coded_count (length text)) p))
  place_there p c e =
      let w = content_told m n p c e in
      let inside : (i : ℕ) → T (carries c i) → i < coded_count (length text) =
      λ i t. subst (λ z. i < z) n_is (homes.incoming n i p w.0 (w.1, subst (λ z. T (carries z i)) w.2 t)) in
      element_there text n c counted inside ∙ ap (λ z. Ok (evaluated (entering text) z)) (w.2 ∙ ap (λ z. m.at z p) n_is)

  pub place_octet : (p : ℕ) (c : Content) (e : Element) (x : ℕ) → Ok c ≡ content_answer m n p → Ok e ≡ element_answer text c → x ≡ octet_of e → x ≡ octet_at m text p
  place_octet p c e x has is octet = octet ∙ ap octet_of (same_ok e _ (is ∙ place_there p c has))

  pub place_not_refused : (p : ℕ) (c : Content) (e : Refusal) → Ok c ≡ content_answer m n p → Err e ≡ element_answer text c → ⊥
  place_not_refused p c e has refused =
      let ok = place_there p c has in
      let z : ◌≡◌ {A = ℕ} 0 1 = cc in
      omega arith

  module _ (len : ℕ) (long : Ok len ≡ length_answer m n) where
    len_is : len ≡ burst_length m text
    len_is = (length_told m n len long).1 ∙ ap m.size n_is

    pub write_there : (places : ℕ) → len ≤ places → Ok len ≡ write_answer m text places
    write_there places room =
        let k = coded_count (length text) in
        let room-test = refused_when (ltb places (burst_length m text)) MemoryTooShort (Ok (burst_length m text)) in
        let takes-test = refused_when (not (m.takes k)) CountNotTaken room-test in
        let takes = subst (λ z. T (m.takes z)) n_is (length_told m n len long).0 in
        ap Ok len_is
        ∙ sym ((text_past (length text) k n takes-test counted).0 ∙ ap (λ b. refused_when (not b) CountNotTaken room-test) (is_true (m.takes k) takes)
        ∙ past (ltb places (burst_length m text)) MemoryTooShort (Ok (burst_length m text)) (le-ltb places (burst_length m text) (subst (λ z. z ≤ places) len_is room)))

    pub all_filled : (out : List ℕ) → filled (octet_at m text) len out ≡ map octet_of (burst m text) ++ drop (length (map octet_of (burst m text))) out
    all_filled out =
        let whole = octets_of_burst m text in
        let many : length (map octet_of (burst m text)) ≡ burst_length m text = ap length whole ∙ length-map-range_with_len (octet_at m text) 0 (burst_length m text) in
        ap (λ z. filled (octet_at m text) z out) len_is ∙ ap (λ l. l ++ drop (burst_length m text) out) (sym whole)
        ∙ ap (λ z. map octet_of (burst m text) ++ drop z out) (sym many)
