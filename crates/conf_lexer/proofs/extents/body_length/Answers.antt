use Rattle.std.proofs.Common.{arith, rules}
use Rattle.conf_lexer.specs.Text.{at_quote, pair_part}
use Rattle.conf_lexer.proofs.Steps.{step}
use Rattle.conf_lexer.proofs.extents.body_length.Goals as goal

pub loop-rest-preserved : goal.loop-rest-preserved
loop-rest-preserved c = record {
  there = rw c.split_at.ensures.back (step at_quote pair_part c.loop-rest.at c.in_ok-part.part c.args.text.now c.loop-rest.rest.now c.loop-rest.invariant.there (search rules) (search rules) (search rules) c.in_ok-part.ensures.within.0 c.in_ok-part.ensures.within.1);
  len = omega arith;
}
