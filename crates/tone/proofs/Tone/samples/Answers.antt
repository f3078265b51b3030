use Rattle.std.proofs.Common.{rules, tests, pos}
use Rattle.tone.specs.Tones.{tone_sample}
use Rattle.tone.proofs.Made.{made}
use Rattle.tone.proofs.Tone.samples.Goals as goal

pub returns : goal.returns
returns c = made _ (tone_sample c.args.self) _ (λ i y q h. search (rules, tests)) c.from_fn.result 40 (pos 0) c.from_fn.ensures.items
