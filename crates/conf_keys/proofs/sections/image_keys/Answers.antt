use Rattle.std.specs.Prelude.{codes}
use Rattle.conf_keys.specs.Items.{top_keys}
use Rattle.conf_keys.proofs.Limits.{size_at_within}
use Rattle.conf_keys.proofs.sections.image_keys.Goals as goal

pub returns-clause-within : goal.returns-clause-within
returns-clause-within c = rw c.top_size_at.ensures (size_at_within 0 (codes "size") (top_keys c.args.items.now))
