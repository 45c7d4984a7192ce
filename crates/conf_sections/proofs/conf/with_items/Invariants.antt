use Rattle.std.proofs.Common.{◌≡◌, drop}
use Rattle.conf_keys.specs.Within.{IsWithin}
use Rattle.conf_sections.specs.Conf.{with_items}
use Rattle.conf_sections.proofs.conf.with_items.Given as goal

abbrev pub invariant-loop-item : goal.invariant-loop-item
invariant-loop-item l = record {
  answers : with_items l.items l.initial.conf ≡ with_items (drop l.item-index l.items) l.conf;
  within : IsWithin l.conf;
}
