use Rattle.std.proofs.Common.{sym, ◌∙◌}
use Rattle.block_map.proofs.Pieces.{pieces_length}
use Rattle.block_map.proofs.units.pieces_in.Goals as goal

pub returns-clause-exact : goal.returns-clause-exact
returns-clause-exact c = c.div_ceil.ensures ∙ sym (pieces_length c.args.unit c.args.span)
