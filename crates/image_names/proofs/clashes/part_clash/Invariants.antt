use Rattle.std.proofs.Common.{◌≡◌, drop, map}
use Rattle.image_names.specs.Clashes.{again, part_clash}
use Rattle.image_names.proofs.clashes.part_clash.Given as goal

abbrev pub invariant-loop-part : goal.invariant-loop-part
invariant-loop-part l = part_clash l.image ≡ again l.names (map (λ part. part.name) (drop l.part-index l.part-items))
