use Rattle.std.proofs.Common.{Bool, if◌then◌else◌, ap, ◌∙◌, sym}
use Rattle.gpt_table.specs.Gpt.{back_header, header_byte}
use Rattle.gpt_table.proofs.Slots.{zeros_are_zero}
use Rattle.gpt_table.proofs.table.GptSpec.back_head.Goals as goal

pub returns-then-not-self : goal.returns-then-not-self
returns-then-not-self c o h =
    zeros_are_zero 512 o
    ∙ sym (ap (λ (b : Bool). if b then header_byte (back_header c.args.self.now) o else 0) c.if-not-self.true)
