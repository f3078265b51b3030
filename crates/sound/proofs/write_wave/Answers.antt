use Rattle.std.proofs.Common.{◌≡◌, ℕ, ◌+◌, ◌-◌, ◌*◌, ltb, List, [], ◌++◌, length, get_or, pos, Ok, sym, refl, ap, ◌∙◌, arith, w16, to_z, of_z, rules}
use borrow.Rule.Slice.PartMut.{put_mid}
use Rattle.std.specs.List.{range_with_len, flat_map}
use Rattle.std.proofs.lemmas.List.{length-append}
use Rattle.std.proofs.lemmas.Bool.{le-ltb}
use Rattle.refusal.specs.declared.Refusal.TheVariants.{MemoryTooShort}
use Rattle.refusal.proofs.Checks.{past}
use Rattle.refusal.proofs.Front.{joined_counting_more, laid, laid_more, laid_over, length-joined}
use Rattle.sound.specs.Wave.{header_of, sample_octets, told_size, two_octets}
use Rattle.sound.proofs.Shape.{header_length}
use Rattle.sound.proofs.write_wave.Goals as goal

-- the header stands in front once it was copied
laid_header : (size : ℕ) (copied out : List ℕ) → copied ≡ header_of size → put_mid 0 44 out copied ≡ laid (header_of size) out
laid_header size copied out is = laid_more [] copied out 0 44 refl (ap length is ∙ header_length size) ∙ ap (λ l. laid l out) is

pub loop-i-preserved : goal.loop-i-preserved
loop-i-preserved c =
    let i : ℕ = c.loop-i.i in
    let f = sample_octets c.args.samples.now in
    let header = header_of (told_size (length c.args.samples.now)) in
    let before = header ++ flat_map f (range_with_len 0 i) in
    let start = put_mid 0 44 c.args.out.now c.copy_from_slice.new.self in
    let part = c.copy_from_slice-in-loop-i.new.self in
    let held : to_z w16 (of_z w16 (get_or c.args.samples.now i (pos 0))) ≡ get_or c.args.samples.now i (pos 0) = search rules in
    let is : part ≡ f i = c.copy_from_slice-in-loop-i.ensures.after ∙ c.octets.ensures ∙ ap (λ z. two_octets (of_z w16 z)) held in
    let long : length before ≡ 44 + 2 * i = length-append header (flat_map f (range_with_len 0 i)) ∙ (λ x. header_length (told_size (length c.args.samples.now)) x + length-joined f 2 (λ _. refl) i x) in
    let two : 44 + 2 * i + 2 - (44 + 2 * i) ≡ 2 = omega arith in
    (λ x. put_mid (44 + 2 * i) (two x) (c.loop-i.invariant x) part)
    ∙ laid_more before part start (44 + 2 * i) 2 long (ap length is)
    ∙ ap (λ l. laid l start) (ap (λ l. before ++ l) is ∙ joined_counting_more f header i)

pub returns : goal.returns
returns c =
    let out = c.args.out.now in
    let n : ℕ = length c.args.samples.now in
    let f = sample_octets c.args.samples.now in
    let header = header_of (told_size n) in
    let is = c.copy_from_slice.ensures.after ∙ c.header-header.ensures ∙ ap (λ m. header_of (2 * m)) c.min-told.ensures in
    let stands = laid_header (told_size n) c.copy_from_slice.new.self out is in
    let start = put_mid 0 44 out c.copy_from_slice.new.self in
    let all : c.loop-i.i ≡ n = omega arith in
    let whole = header ++ flat_map f (range_with_len 0 n) in
    record {
      answer = sym (past (ltb (length out) (44 + 2 * n)) MemoryTooShort (Ok (44 + 2 * n)) (le-ltb (length out) (44 + 2 * n) (omega arith)));
      memory = c.loop-i.invariant ∙ ap (λ m. laid (header ++ flat_map f (range_with_len 0 m)) start) all ∙ ap (laid whole) stands ∙ laid_over header (flat_map f (range_with_len 0 n)) out;
    }
