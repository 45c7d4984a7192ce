use Rattle.std.proofs.Common.{◌≡◌, drop, take}
use Rattle.image_names.specs.Clashes.{built_fulls, image_again, image_clash}
use Rattle.image_names.specs.Images.{all_names}
use Rattle.image_names.proofs.clashes.image_clash.Given as goal

abbrev pub invariant-loop-image : goal.invariant-loop-image
invariant-loop-image l = record {
  names : l.names ≡ all_names (take l.image-index l.images);
  fulls : l.fulls ≡ built_fulls l.output (take l.image-index l.images);
  rest : image_clash l.output l.images ≡ image_again l.output (take l.image-index l.images) (drop l.image-index l.images);
}
