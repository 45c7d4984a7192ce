use Rattle.std.proofs.Common.{rules}
use Rattle.conf_sections.proofs.Growing.{image_within}
use Rattle.conf_sections.proofs.conf.image_section.Goals as goal

pub returns-clause-within : goal.returns-clause-within
returns-clause-within c = image_within c.args.conf c.in_ok-image.image c.push.new.self (search rules) c.requires c.in_ok-image.ensures.within
