use Rattle.std.proofs.Common.{◌≡◌, ◌+◌, length}
use Rattle.conf_lexer.specs.Text.{later, body_len}
use Rattle.conf_lexer.proofs.extents.body_length.Given as goal

abbrev pub invariant-loop-rest : goal.invariant-loop-rest
invariant-loop-rest l = record { there : body_len l.text ≡ later l.at (body_len l.rest); len : l.at + length l.rest ≡ length l.text }

abbrev pub decreases-loop-rest : goal.decreases-loop-rest
decreases-loop-rest l = length l.rest
