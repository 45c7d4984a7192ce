use Rattle.std.proofs.Common.{add-one}
use Rattle.image_order.proofs.SetLemmas.{tells_more}
use Rattle.image_order.proofs.sets.chained.Goals as goal

pub loop-middle-preserved : goal.loop-middle-preserved
loop-middle-preserved c =
    rw add-one (tells_more c.args.families.now c.loop-middle.middle c.loop-middle.sets.items c.join.new.sets.items c.loop-middle.invariant c.loop-middle-test.true c.requires.few c.join.ensures)
