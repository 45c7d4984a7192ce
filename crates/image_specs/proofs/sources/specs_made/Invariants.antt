use Rattle.std.proofs.Common.{◌≡◌, map, take}
use Rattle.std.specs.Prelude.{All, filter}
use Rattle.image_names.specs.Images.{built_names, is_built}
use Rattle.image_specs.specs.Identifiers.{HasIdentifiers}
use Rattle.image_specs.specs.Specs.{spec_of}
use Rattle.image_specs.proofs.sources.specs_made.Given as goal

abbrev pub invariant-loop-image : goal.invariant-loop-image
invariant-loop-image l = record {
  made : l.specs ≡ map (spec_of l.conf (built_names l.conf)) (filter is_built (take l.image-index l.image-items));
  identifiers : All (λ spec. HasIdentifiers spec.keys) l.specs;
}
