use Rattle.std.proofs.Common.{◌≡◌, ◌+◌, length}
use Rattle.conf_lexer.specs.Text.{followed, tokens_from, tokens_of}
use Rattle.conf_lexer.proofs.lexing.lex.Given as goal

abbrev pub invariant-loop-rest : goal.invariant-loop-rest
invariant-loop-rest l = record { so_far : tokens_of l.text ≡ followed l.tokens (tokens_from l.at 0 l.rest); len : l.at + length l.rest ≡ length l.text }

abbrev pub decreases-loop-rest : goal.decreases-loop-rest
decreases-loop-rest l = length l.rest
