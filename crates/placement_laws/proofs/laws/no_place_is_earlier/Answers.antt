use Rattle.placement_laws.proofs.Exactly.{none_earlier}
use Rattle.placement_laws.proofs.laws.no_place_is_earlier.Goals as goal

pub returns : goal.returns
returns c = none_earlier
