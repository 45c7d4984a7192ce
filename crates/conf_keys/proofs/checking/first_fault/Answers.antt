use Rattle.std.proofs.Common.{◌∙◌, sym, take, arith}
use Rattle.conf_keys.proofs.Failing.{holes_more, item_fails, item_passes}
use Rattle.conf_keys.specs.Holes.{holes_of}
use Rattle.conf_keys.specs.Items.{inner_keys}
use Rattle.conf_keys.proofs.checking.first_fault.Goals as goal

pub returns-in-Some : goal.returns-in-Some
returns-in-Some c =
    item_fails c.args.section c.args.items.now c.loop-item.item-index c.loop-item.before c.item-item.result c.in-Some.fault
    (omega arith) c.item-item.is c.loop-item.invariant.count (sym c.in-Some.is ∙ c.item_fault.ensures)
    ∙ sym c.loop-item.invariant.first

pub loop-item-preserved : goal.loop-item-preserved
loop-item-preserved c = record {
  first =
      c.loop-item.invariant.first
      ∙ item_passes c.args.section c.args.items.now c.loop-item.item-index c.loop-item.before c.item-item.result
      (omega arith) c.item-item.is c.loop-item.invariant.count (sym c.in_default.is ∙ c.item_fault.ensures);
  count =
      rw (holes_more c.args.items.now c.loop-item.item-index c.item-item.result (omega arith) c.item-item.is)
      (c.holes_past-before.ensures (holes_of (inner_keys (take c.loop-item.item-index c.args.items.now))) c.loop-item.invariant.count);
}
