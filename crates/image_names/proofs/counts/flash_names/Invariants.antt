use Rattle.std.proofs.Common.{take}
use Rattle.image_names.specs.Counts.{names_of}
use Rattle.image_names.specs.Names.{HoldSame}
use Rattle.image_names.proofs.counts.flash_names.Given as goal

abbrev pub invariant-loop-flash : goal.invariant-loop-flash
invariant-loop-flash l = HoldSame l.names (names_of (take l.flash-index l.flashes))
