use Rattle.std.proofs.Common.{◌≡◌, drop}
use Rattle.image_names.specs.Counts.{first_fault, flash_fault}
use Rattle.image_names.proofs.counts.flash_faults.Given as goal

abbrev pub invariant-loop-image : goal.invariant-loop-image
invariant-loop-image l = first_fault (flash_fault l.names) l.images ≡ first_fault (flash_fault l.names) (drop l.image-index l.images)
