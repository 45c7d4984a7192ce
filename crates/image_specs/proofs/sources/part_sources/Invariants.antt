use Rattle.std.proofs.Common.{◌≡◌, take, map}
use Rattle.image_specs.specs.Specs.{source_of}
use Rattle.image_specs.proofs.sources.part_sources.Given as goal

abbrev pub invariant-loop-part : goal.invariant-loop-part
invariant-loop-part l = l.sources ≡ map (λ part. source_of l.conf l.names part.image) (take l.part-index l.parts)
