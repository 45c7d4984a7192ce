use Rattle.std.proofs.Common.{◌≡◌, ◌++◌, length, map}
use Rattle.job_words.specs.Arguments.{paired}
use Rattle.job_words.proofs.places.pairs_of.Given as goal

abbrev pub invariant-loop-rest : goal.invariant-loop-rest
invariant-loop-rest l = l.pairs ++ paired (map (λ place. place.now) l.rest) ≡ paired (map (λ place. place.now) l.fn.places)

abbrev pub decreases-loop-rest : goal.decreases-loop-rest
decreases-loop-rest l = length l.rest
