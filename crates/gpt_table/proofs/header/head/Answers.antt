use Rattle.std.proofs.Common.{◌≡◌, ◌++◌, ℕ, List, length, replicate, ap, ◌∙◌, arith}
use Rattle.base_fields.specs.Crc.{crc32_of}
use Rattle.gpt_table.proofs.Headers.{head_byte, header_sum_is}
use Rattle.gpt_table.proofs.header.head.Goals as goal

pub returns : goal.returns
returns c o h =
    let sixteen : length c.args.header.now.disk ≡ 16 = omega arith in
    head_byte c.args.header.now c.crc32-sum.result 420 o _ sixteen
    (c.crc32-sum.ensures ∙ (ap crc32_of c.header_bytes.ensures ∙ header_sum_is c.args.header.now sixteen))
    (c.padded.ensures ∙ ap (λ (xs : List ℕ). xs ++ replicate 420 0) c.header_bytes-2.ensures)
