use Rattle.copy_narrow.proofs.NearLemmas.{all_since_are_near}
use Rattle.copy_narrow.proofs.laws.pairs_since_are_near.Goals as goal

pub returns : goal.returns
returns g c = all_since_are_near (g.met.B.Bench.only_now c.args.before.now)
