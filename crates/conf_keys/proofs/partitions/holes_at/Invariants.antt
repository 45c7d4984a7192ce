use Rattle.std.proofs.Common.{◌≡◌, drop}
use Rattle.std.specs.List.{fold}
use Rattle.conf_keys.specs.Holes.{holes_of, with_setting}
use Rattle.conf_keys.specs.Items.{inner_keys}
use Rattle.conf_keys.proofs.partitions.holes_at.Given as goal

abbrev pub invariant-loop-item : goal.invariant-loop-item
invariant-loop-item l = holes_of (inner_keys l.items) ≡ fold with_setting l.holes (inner_keys (drop l.item-index l.items))
