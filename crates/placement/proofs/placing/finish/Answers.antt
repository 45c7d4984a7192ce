use Rattle.placement.proofs.Settled.{settled}
use Rattle.placement.proofs.placing.finish.Goals as goal

pub layout-requires-clause-settled : goal.layout-requires-clause-settled
layout-requires-clause-settled c = settled c.args.spec.now c.args.frame.now c.args.placed.now c.requires c.in_ok-check_last.ensures.ok
