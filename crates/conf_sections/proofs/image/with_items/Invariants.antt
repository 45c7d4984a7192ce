use Rattle.std.proofs.Common.{◌≡◌, drop}
use Rattle.conf_keys.specs.Within.{IsImageWithin}
use Rattle.conf_sections.specs.Image.{with_items}
use Rattle.conf_sections.proofs.image.with_items.Given as goal

abbrev pub invariant-loop-item : goal.invariant-loop-item
invariant-loop-item l = record {
  answers : with_items l.origin l.items l.initial.image ≡ with_items l.origin (drop l.item-index l.items) l.image;
  within : IsImageWithin l.image;
}
