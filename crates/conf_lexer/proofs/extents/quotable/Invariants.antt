use Rattle.std.proofs.Common.{◌≡◌, length, is_some}
use Rattle.conf_lexer.specs.Text.{never, parts_len, quoted_part}
use Rattle.conf_lexer.proofs.extents.quotable.Given as goal

abbrev pub invariant-loop-rest : goal.invariant-loop-rest
invariant-loop-rest l = is_some (parts_len never quoted_part 0 l.body) ≡ is_some (parts_len never quoted_part 0 l.rest)

abbrev pub decreases-loop-rest : goal.decreases-loop-rest
decreases-loop-rest l = length l.rest
