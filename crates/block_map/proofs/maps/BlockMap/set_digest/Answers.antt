use Rattle.std.proofs.Common.{None, refl, arith}
use Rattle.std.proofs.lemmas.Grind.{common_steps}
use Rattle.block_map.proofs.Runs.{map_kept}
use Rattle.block_map.proofs.maps.BlockMap.set_digest.Goals as goal

pub returns-clause-map : goal.returns-clause-map
returns-clause-map c = map_kept c.args.self.now _ c.args.k (record { first = 0; last = 0; digest = None }) c.args.digest (record { size = refl; block = refl; ranges = λ d. grind (arith, common_steps) }) c.requires
