use Rattle.std.proofs.Common.{◌≡◌, map}
use Rattle.genflash.specs.Handing.{pair_of}
use Rattle.genflash.proofs.handing.variables.Given as goal

abbrev pub invariant-loop-name : goal.invariant-loop-name
invariant-loop-name l = l.vars ≡ map pair_of l.yielded
