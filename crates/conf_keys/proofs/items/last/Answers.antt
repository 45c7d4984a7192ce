use Rattle.std.proofs.Common.{◌∙◌}
use Rattle.conf_keys.proofs.Keys.{last_inner}
use Rattle.conf_keys.proofs.items.last.Goals as goal

pub returns : goal.returns
returns c = c.key_in.ensures ∙ last_inner c.args.name.now c.args.items.now _ c.last_item.ensures
