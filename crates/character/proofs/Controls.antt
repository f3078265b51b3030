-- A loop that copies a text without its control characters.
use Rattle.std.proofs.Common.{◌≡◌, ℕ, ◌+◌, ◌<◌, ◌≤◌, Bool, true, false, cond, not, List, [], ◌∷◌, ◌++◌, length, get_or, take, drop, set, Ok, Err, sym, ap, ◌∙◌, append_assoc, append-nil, arith, length-append, length-take}
use Rattle.std.proofs.lemmas.List.Elements.{filter_more}
use Rattle.std.proofs.lemmas.List.Sums.{length-filter, sum_by-take-le, count_by-le-length}
use Rattle.std.proofs.lemmas.List.{drop_more, set_at}
use Rattle.std.proofs.lemmas.Bool.{lt-ltb, le-ltb, cond-true, cond-false}
use Rattle.refusal.specs.declared.Refusal.TheVariants.{MemoryTooShort}
use Rattle.character.specs.Controls.{is_control, without_controls, removal_answer}

-- one octet more, which is a control character or not
kept_one : (text : List ℕ) (i : ℕ) → i < length text → without_controls (take (i + 1) text) ≡ without_controls (take i text) ++ cond (not (is_control (get_or text i 0))) (get_or text i 0 ∷ []) []
kept_one text i l = filter_more (λ b. not (is_control b)) text i 0 l

pub control_more : (text : List ℕ) (i : ℕ) → i < length text → is_control (get_or text i 0) ≡ true → without_controls (take (i + 1) text) ≡ without_controls (take i text)
control_more text i l e = kept_one text i l ∙ ap (λ b. without_controls (take i text) ++ cond (not b) (get_or text i 0 ∷ []) []) e ∙ append-nil _

pub text_more : (text : List ℕ) (i : ℕ) → i < length text → is_control (get_or text i 0) ≡ false → without_controls (take (i + 1) text) ≡ without_controls (take i text) ++ get_or text i 0 ∷ []
text_more text i l e = kept_one text i l ∙ ap (λ b. without_controls (take i text) ++ cond (not b) (get_or text i 0 ∷ []) []) e

pub text_more_length : (text : List ℕ) (i : ℕ) → i < length text → is_control (get_or text i 0) ≡ false → length (without_controls (take (i + 1) text)) ≡ length (without_controls (take i text)) + 1
text_more_length text i l e = ap length (text_more text i l e) ∙ length-append (without_controls (take i text)) (get_or text i 0 ∷ [])

-- the front of a text has no more octets left than the whole
pub front_least : (text : List ℕ) (i : ℕ) → length (without_controls (take i text)) ≤ length (without_controls text)
front_least text i =
    let p : ℕ → Bool = λ b. not (is_control b) in
    omega (arith, length-filter p (take i text), length-filter p text, sum_by-take-le (λ b. cond (p b) 1 0) text i)

-- the octet is written behind those before it
pub written_more : (text memory : List ℕ) (i n : ℕ) → i < length text → is_control (get_or text i 0) ≡ false → n ≡ length (without_controls (take i text)) → n < length memory
    → set (without_controls (take i text) ++ drop n memory) n (get_or text i 0) ≡ without_controls (take (i + 1) text) ++ drop (n + 1) memory
written_more text memory i n l e long within =
    let front = without_controls (take i text) in
    let x = get_or text i 0 in
    ap (λ ys. set (front ++ ys) n x) (drop_more memory n 0 within)
    ∙ set_at front _ (drop (n + 1) memory) x n (sym long)
    ∙ sym (append_assoc front (x ∷ []) (drop (n + 1) memory))
    ∙ ap (λ ys. ys ++ drop (n + 1) memory) (sym (text_more text i l e))

-- ---- the answer, where memory is short and where it is not
pub refused : (text : List ℕ) (places : ℕ) → places < length (without_controls text) → Err MemoryTooShort ≡ removal_answer text places
refused text places l = sym (cond-true _ _ _ (lt-ltb places (length (without_controls text)) l))

pub accepted : (text : List ℕ) (places : ℕ) → length (without_controls text) ≤ places → Ok (length (without_controls text)) ≡ removal_answer text places
accepted text places l = sym (cond-false _ _ _ (le-ltb places (length (without_controls text)) l))

-- no count of octets passes the text's length
pub fits_length : (text : List ℕ) (i : ℕ) → length (without_controls (take i text)) ≤ i
fits_length text i =
    omega (arith, length-filter (λ b. not (is_control b)) (take i text), count_by-le-length (λ b. not (is_control b)) (take i text), length-take i text)
