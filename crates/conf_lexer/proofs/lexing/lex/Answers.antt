use Rattle.std.proofs.Common.{arith, rules}
use Rattle.conf_lexer.proofs.Standing.{each_stands, in_order}
use Rattle.conf_lexer.proofs.Whole.{finished, piece_step}
use Rattle.conf_lexer.proofs.lexing.lex.Goals as goal

pub loop-rest-preserved : goal.loop-rest-preserved
loop-rest-preserved c = record {
  so_far = rw c.split_at.ensures.back (rw c.in_ok-add_piece.ensures.ok (piece_step c.loop-rest.at c.loop-rest.tokens c.in-Some.piece c.args.text.now c.loop-rest.rest.now c.loop-rest.invariant.so_far (search rules) c.in-Some.ensures.within.0 c.in-Some.ensures.within.1));
  len = omega arith;
}

pub returns-clause-each : goal.returns-clause-each
returns-clause-each c = each_stands c.args.text.now c.loop-rest.tokens (finished c.loop-rest.at c.loop-rest.tokens c.args.text.now c.loop-rest.rest.now c.loop-rest.invariant.so_far (search rules))

pub returns-clause-order : goal.returns-clause-order
returns-clause-order c = in_order c.args.text.now c.loop-rest.tokens (finished c.loop-rest.at c.loop-rest.tokens c.args.text.now c.loop-rest.rest.now c.loop-rest.invariant.so_far (search rules))
