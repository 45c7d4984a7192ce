use Rattle.conf_keys.specs.Sections.{flash_values}
use Rattle.conf_keys.specs.Within.{IsFlashWithin}
use Rattle.conf_keys.specs.Items.{top_keys}
use Rattle.conf_keys.proofs.Within.{flash_within, kept_within}
use Rattle.conf_keys.proofs.sections.read_flash.Goals as goal

pub returns-in-None-clause-within : goal.returns-in-None-clause-within
returns-in-None-clause-within c =
    kept_within IsFlashWithin (flash_values c.args.head.now (top_keys c.args.items.now)) c.flash_values.result c.kept.result
    (flash_within c.args.head.now c.args.items.now c.flash_head_fault.result c.flash_head_fault.ensures c.in-None.ensures) c.flash_values.ensures c.kept.ensures
