use Rattle.std.proofs.Common.{◌≡◌, ◌∙◌, ◌%◌, ℕ, ap, refl, arith}
use Rattle.std.specs.Prelude.{bit_and, bit_xor}
use Rattle.std.proofs.lemmas.Nat.{and_mask}
use Rattle.base_fields.proofs.CrcTable.{crc_step-table}
use Rattle.base_fields.proofs.checksum.with_byte.Goals as goal

pub returns : goal.returns
returns c =
    let table = crc_step-table c.args.remainder c.args.byte (omega arith) (omega arith) in
    let low : bit_and (bit_xor c.args.remainder c.from.result) 255 ≡ bit_xor c.args.remainder c.args.byte % 256 = and_mask (bit_xor c.args.remainder c.from.result) 8 ∙ ap (λ (b : ℕ). bit_xor c.args.remainder b % 256) c.from.ensures in
    rw (low, table) refl
