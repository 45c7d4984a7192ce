use Rattle.std.proofs.Common.{◌≡◌, take}
use Rattle.std.specs.Prelude.{All}
use Rattle.image_specs.specs.Identifiers.{HasPartIdentifiers}
use Rattle.image_specs.proofs.copies.copy_parts.Given as goal

abbrev pub invariant-loop-part : goal.invariant-loop-part
invariant-loop-part l = record {
  copy : l.copy ≡ take l.part-index l.part-items;
  identifiers : All HasPartIdentifiers l.copy;
}
