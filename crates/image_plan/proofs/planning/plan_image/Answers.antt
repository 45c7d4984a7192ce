use Rattle.image_plan.proofs.Parts.{own_file}
use Rattle.image_plan.proofs.planning.plan_image.Goals as goal

pub returns-clause-own : goal.returns-clause-own
returns-clause-own g c = own_file c.args.spec.now _ _ c.in_ok-layout.ensures.placed.1
