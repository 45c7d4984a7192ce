use Rattle.std.proofs.Common.{◌≡◌, ◌+◌, length}
use Rattle.bmap_grammar.specs.Text.{later, through}
use Rattle.bmap_lexer.proofs.marks.length_through.Given as goal

abbrev pub invariant-loop-rest : goal.invariant-loop-rest
invariant-loop-rest l = record {
  there : through l.end l.text ≡ later l.at (through l.end l.rest);
  len : l.at + length l.rest ≡ length l.text;
}

abbrev pub decreases-loop-rest : goal.decreases-loop-rest
decreases-loop-rest l = length l.rest
