use Rattle.placement_tables.proofs.Tabled.{placed_is_tabled}
use Rattle.placement_tables.proofs.laws.placed_is_tabled.Goals as goal

pub returns : goal.returns
returns c = placed_is_tabled
