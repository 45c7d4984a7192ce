use Rattle.std.proofs.Common.{◌≡◌, None, drop, take}
use Rattle.image_names.specs.Clashes.{image_again}
use Rattle.image_names.specs.Images.{names_built}
use Rattle.image_specs.proofs.sources.built_names.Given as goal

abbrev pub invariant-loop-image : goal.invariant-loop-image
invariant-loop-image l = record {
  names : l.names ≡ names_built (take l.image-index l.image-items);
  apart : image_again l.conf.output (take l.image-index l.image-items) (drop l.image-index l.image-items) ≡ None;
}
