use Rattle.flash_geometry.proofs.Blocks.{least_is}
use Rattle.flash_geometry.proofs.places.least_multiple.Goals as goal

pub returns-clause-exact : goal.returns-clause-exact
returns-clause-exact c = least_is c.args.to c.args.n c.round_up.result c.requires.0 c.round_up.ensures.least
