use Rattle.std.proofs.Common.{refl}
use Rattle.image_order.proofs.SetLemmas.{has_added}
use Rattle.image_order.proofs.sets.added.Goals as goal

pub returns-then-child-lt64 : goal.returns-then-child-lt64
returns-then-child-lt64 c = has_added c.args.set c.args.child _ c.if-child-lt64.true refl
