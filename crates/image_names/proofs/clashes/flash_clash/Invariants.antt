use Rattle.std.proofs.Common.{◌≡◌, drop}
use Rattle.image_names.specs.Clashes.{again, flash_clash}
use Rattle.image_names.specs.Counts.{names_of}
use Rattle.image_names.proofs.clashes.flash_clash.Given as goal

abbrev pub invariant-loop-flash : goal.invariant-loop-flash
invariant-loop-flash l = flash_clash l.flashes ≡ again l.names (names_of (drop l.flash-index l.flashes))
