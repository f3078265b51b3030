use Rattle.std.proofs.Common.{◌≡◌, ℕ, ◌+◌, ◌-◌, ◌*◌, ◌/◌, ◌<◌, ◌++◌, length, refl, ap, ◌∙◌, arith}
use borrow.Rule.Slice.PartMut.{put_mid}
use Rattle.std.specs.List.{range_with_len, flat_map}
use Rattle.std.proofs.lemmas.List.{length-append}
use Rattle.refusal.proofs.Front.{joined_counting_more, laid, laid_more, length-joined}
use Rattle.tone.proofs.Pairs.{pair_at}
use Rattle.values_file.specs.Values.{first_line, frame_line, line_of}
use Rattle.values_file.proofs.write_values.Goals as goal

pub loop-frame-preserved : goal.loop-frame-preserved
loop-frame-preserved c =
    let es = c.args.elements.now in
    let i : ℕ = c.loop-frame.frame in
    let f = frame_line es in
    let first = first_line c.args.m in
    let before = first ++ flat_map f (range_with_len 0 i) in
    let start = put_mid 0 3 c.args.out.now c.copy_from_slice.new.self in
    let part = c.copy_from_slice-in-loop-frame.new.self in
    let below : i < length es / 2 = omega (arith, c.as_chunks.ensures.front_len) in
    let pair = pair_at (length es / 2) es c.as_chunks.result.0.now i c.as_chunks.ensures.front below in
    let is : part ≡ f i = c.copy_from_slice-in-loop-frame.ensures.after ∙ c.frame_line-line.ensures ∙ (λ x. line_of (pair.0 x) (pair.1 x)) in
    let long : length before ≡ 3 + 5 * i = length-append first (flat_map f (range_with_len 0 i)) ∙ ap (λ n. 3 + n) (length-joined f 5 (λ _. refl) i) in
    let five : 3 + 5 * i + 5 - (3 + 5 * i) ≡ 5 = omega arith in
    (λ x. put_mid (3 + 5 * i) (five x) (c.loop-frame.invariant x) part)
    ∙ laid_more before part start (3 + 5 * i) 5 long (ap length is)
    ∙ ap (λ l. laid l start) (ap (λ l. before ++ l) is ∙ joined_counting_more f first i)
