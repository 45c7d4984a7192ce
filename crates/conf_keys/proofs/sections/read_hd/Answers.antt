use Rattle.conf_keys.specs.Items.{inner_keys}
use Rattle.conf_keys.proofs.Limits.{hd_within}
use Rattle.conf_keys.proofs.sections.read_hd.Goals as goal

pub returns-in-None-clause-within : goal.returns-in-None-clause-within
returns-in-None-clause-within c = hd_within (inner_keys c.args.items.now) c.hd_values.result c.hd_values.ensures
