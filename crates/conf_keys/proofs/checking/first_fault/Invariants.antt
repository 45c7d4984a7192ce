use Rattle.std.proofs.Common.{◌≡◌, drop, take}
use Rattle.conf_keys.specs.Checking.{fault_behind, first_fault, held}
use Rattle.conf_keys.specs.Holes.{holes_of}
use Rattle.conf_keys.specs.Items.{inner_keys}
use Rattle.conf_keys.proofs.checking.first_fault.Given as goal

abbrev pub invariant-loop-item : goal.invariant-loop-item
invariant-loop-item l = record {
  first : first_fault l.section l.items ≡ fault_behind l.section (take l.item-index l.items) (drop l.item-index l.items);
  count : l.before ≡ held (holes_of (inner_keys (take l.item-index l.items)));
}
