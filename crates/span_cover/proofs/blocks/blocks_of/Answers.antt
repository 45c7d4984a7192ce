use Rattle.std.proofs.Common.{arith}
use Rattle.span_cover.proofs.Touching.{blocks_exact}
use Rattle.span_cover.proofs.blocks.blocks_of.Goals as goal

pub returns-clause-exact : goal.returns-clause-exact
returns-clause-exact c b = rw (c.min-end.ensures, c.from-block.ensures) (blocks_exact c.args.span c.args.size c.args.block b c.requires.nonzero (omega arith))
