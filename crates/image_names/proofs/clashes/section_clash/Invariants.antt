use Rattle.std.proofs.Common.{◌≡◌, drop}
use Rattle.image_names.specs.Clashes.{part_clash, section_clash}
use Rattle.image_names.specs.Counts.{first_fault}
use Rattle.image_names.proofs.clashes.section_clash.Given as goal

abbrev pub invariant-loop-image : goal.invariant-loop-image
invariant-loop-image l = section_clash l.conf ≡ first_fault part_clash (drop l.image-index l.image-items)
