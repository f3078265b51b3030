use Rattle.std.proofs.Common.{◌≡◌, ℕ, ◌+◌, ◌-◌, ◌*◌, ◌/◌, ◌%◌, ◌<◌, map, length, sym, ap, ◌∙◌, mul_comm, arith}
use borrow.Rule.Slice.PartMut.{put_mid}
use Rattle.std.specs.List.{range_with_len}
use Rattle.std.proofs.lemmas.Nat.{div-mul-add, mod-mul-add}
use Rattle.refusal.proofs.Front.{filled_part}
use Rattle.tone.specs.Tones.{frame, sample, tone_of, tone_sample}
use Rattle.tone.proofs.Pairs.{pair_at}
use Rattle.tone.proofs.play.Goals as goal

pub loop-frame-preserved : goal.loop-frame-preserved
loop-frame-preserved c =
    let es = c.args.elements.now in
    let n : ℕ = c.loop-frame.frame in
    let out = c.args.out.now in
    let below : n < length es / 2 = omega (arith, c.as_chunks.ensures.front_len) in
    let pair = pair_at (length es / 2) es c.as_chunks.result.0.now n c.as_chunks.ensures.front below in
    let tone : c.of.result ≡ frame es n = c.of.ensures ∙ (λ x. tone_of (pair.0 x) (pair.1 x)) in
    let within : (i : ℕ) → i < 40 → tone_sample (frame es n) i ≡ sample es (40 * n + i) = λ i h. sym (λ x. tone_sample (frame es ((ap (λ (p : ℕ). (p + i) / 40) (mul_comm 40 n) ∙ div-mul-add n 40 i h) x)) ((ap (λ (p : ℕ). (p + i) % 40) (mul_comm 40 n) ∙ mod-mul-add n 40 i h) x)) in
    let size : 40 * n + 40 - 40 * n ≡ 40 = omega arith in
    (λ x. put_mid (40 * n) (size x) (c.loop-frame.invariant x) c.copy_from_slice.new.self)
    ∙ filled_part (sample es) (tone_sample (frame es n)) (40 * n) 40 (40 * (n + 1)) out c.copy_from_slice.new.self (omega arith) (c.copy_from_slice.ensures.after ∙ c.samples-samples.ensures ∙ ap (λ t. map (tone_sample t) (range_with_len 0 40)) tone) within
