use Rattle.std.proofs.Common.{◌≡◌, Some, arith, rules}
use Rattle.conf_lexer.specs.Text.{ends_word, word_len, word_part}
use Rattle.conf_lexer.proofs.Steps.{ended, step, word_above}
use Rattle.conf_lexer.proofs.extents.word_length.Goals as goal

pub loop-rest-preserved : goal.loop-rest-preserved
loop-rest-preserved c = record {
  there = rw c.split_at.ensures.back (step ends_word word_part c.loop-rest.at c.in_ok-part.part c.args.text.now c.loop-rest.rest.now c.loop-rest.invariant.there (search rules) (search rules) (search rules) c.in_ok-part.ensures.within.0 c.in_ok-part.ensures.within.1);
  len = omega arith;
}

pub returns-clause-within : goal.returns-clause-within
returns-clause-within c =
    let there : word_len c.args.text.now ≡ Some c.loop-rest.at = ended ends_word word_part c.loop-rest.at c.args.text.now c.loop-rest.rest.now c.loop-rest.invariant.there (search rules) in
    (word_above c.args.text.now c.loop-rest.at c.requires there, omega arith)
