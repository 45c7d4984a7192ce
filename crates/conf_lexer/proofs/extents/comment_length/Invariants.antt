use Rattle.std.proofs.Common.{◌≡◌, ◌+◌, length}
use Rattle.conf_lexer.specs.Text.{later, through_comment}
use Rattle.conf_lexer.proofs.extents.comment_length.Given as goal

abbrev pub invariant-loop-rest : goal.invariant-loop-rest
invariant-loop-rest l = record { there : through_comment l.text ≡ later l.at (through_comment l.rest); len : l.at + length l.rest ≡ length l.text }

abbrev pub decreases-loop-rest : goal.decreases-loop-rest
decreases-loop-rest l = length l.rest
