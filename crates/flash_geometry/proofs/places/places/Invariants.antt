use Rattle.flash_geometry.proofs.Walk.{Standing}
use Rattle.flash_geometry.proofs.places.places.Given as goal

abbrev pub invariant-loop-k : goal.invariant-loop-k
invariant-loop-k l = Standing l.geometry l.parts l.lens l.taken l.k
