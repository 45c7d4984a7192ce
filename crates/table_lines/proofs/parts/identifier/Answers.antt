use Rattle.std.proofs.Common.{◌∙◌, arith}
use Rattle.table_lines.proofs.PartLemmas.{identifier_long}
use Rattle.table_lines.proofs.parts.identifier.Goals as goal

pub pair-requires : goal.pair-requires
pair-requires c =
    let long = identifier_long _ c.as_bytes.result.now (c.as_bytes.ensures.value ∙ c.encode_lower-text.ensures.text) in
    omega (arith, long, c.requires)

pub returns-clause-room : goal.returns-clause-room
returns-clause-room c =
    let long = identifier_long _ c.as_bytes.result.now (c.as_bytes.ensures.value ∙ c.encode_lower-text.ensures.text) in
    omega (arith, long, c.pair.ensures.room)
