use Rattle.std.proofs.Common.{◌∙◌}
use Rattle.conf_keys.proofs.Keys.{last_top}
use Rattle.conf_keys.proofs.items.last_top.Goals as goal

pub returns : goal.returns
returns c = c.top_key_in.ensures ∙ last_top c.args.name.now c.args.items.now _ c.last_top_item.ensures
