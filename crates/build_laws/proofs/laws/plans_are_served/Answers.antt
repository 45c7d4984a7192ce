use Rattle.build_laws.proofs.Served.{plans_are_served}
use Rattle.build_laws.proofs.laws.plans_are_served.Goals as goal

pub returns : goal.returns
returns c = plans_are_served
