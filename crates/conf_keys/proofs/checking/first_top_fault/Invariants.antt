use Rattle.std.proofs.Common.{◌≡◌, drop}
use Rattle.conf_keys.specs.Checking.{first_top_fault}
use Rattle.conf_keys.proofs.checking.first_top_fault.Given as goal

abbrev pub invariant-loop-item : goal.invariant-loop-item
invariant-loop-item l = first_top_fault l.section l.items ≡ first_top_fault l.section (drop l.item-index l.items)
