use Rattle.std.proofs.Common.{arith}
use Rattle.std.proofs.lemmas.Grind.{common_steps}
use Rattle.placement.proofs.Chaining.{chain_fits}
use Rattle.placement.proofs.tables.with_extended.Goals as goal

pub extended_entry-requires-clause-fits : goal.extended_entry-requires-clause-fits
extended_entry-requires-clause-fits c = chain_fits c.args.logical.now _ c.requires (grind (arith, common_steps))
