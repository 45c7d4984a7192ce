use Rattle.std.proofs.Common.{rules}
use Rattle.conf_sections.proofs.Growing.{flash_within}
use Rattle.conf_sections.proofs.conf.flash_section.Goals as goal

pub returns-clause-within : goal.returns-clause-within
returns-clause-within c = flash_within c.args.conf c.in_ok-flash.flash c.push.new.self (search rules) c.requires c.in_ok-flash.ensures.within
