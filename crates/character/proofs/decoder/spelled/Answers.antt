use Rattle.std.proofs.Common.{rules}
use Rattle.character.proofs.Encodings.{shifted_behind}
use Rattle.character.proofs.decoder.spelled.Goals as goal

pub unwrap-requires : goal.unwrap-requires
unwrap-requires c =
    let e = shifted_behind c.args.high c.args.behind.now c.fold-number.result c.requires (search rules) in
    search rules

pub returns : goal.returns
returns c =
    let e = shifted_behind c.args.high c.args.behind.now c.fold-number.result c.requires (search rules) in
    search rules
