use Rattle.std.proofs.Common.{◌≡◌, ◌≤◌, drop, length}
use Rattle.image_names.specs.Counts.{first_fault, past, too_many}
use Rattle.image_names.specs.Images.{counted_parts}
use Rattle.image_names.proofs.counts.too_many.Given as goal

abbrev pub invariant-loop-image : goal.invariant-loop-image
invariant-loop-image l = record {
  rest : too_many l.conf ≡ first_fault (λ image. past 256 (length (counted_parts image))) (drop l.image-index l.image-items);
  few : length l.conf.images ≤ 64;
}
