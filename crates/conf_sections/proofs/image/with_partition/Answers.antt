use Rattle.std.proofs.Common.{rules}
use Rattle.conf_sections.proofs.Growing.{part_within}
use Rattle.conf_sections.proofs.image.with_partition.Goals as goal

pub returns-clause-within : goal.returns-clause-within
returns-clause-within c = part_within c.args.image c.in_ok-keys.keys c.push.new.self (search rules) c.requires c.in_ok-keys.ensures.within
