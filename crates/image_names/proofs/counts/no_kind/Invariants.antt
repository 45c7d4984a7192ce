use Rattle.std.proofs.Common.{◌≡◌, drop}
use Rattle.image_names.specs.Counts.{first_fault, kind_fault, no_kind}
use Rattle.image_names.proofs.counts.no_kind.Given as goal

abbrev pub invariant-loop-image : goal.invariant-loop-image
invariant-loop-image l = no_kind l.conf ≡ first_fault kind_fault (drop l.image-index l.image-items)
