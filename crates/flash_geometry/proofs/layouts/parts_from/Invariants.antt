use Rattle.flash_geometry.proofs.Walk.{Made}
use Rattle.flash_geometry.proofs.layouts.parts_from.Given as goal

abbrev pub invariant-loop-k : goal.invariant-loop-k
invariant-loop-k l = Made l.parts l.sources l.lens l.spans l.placed l.k
