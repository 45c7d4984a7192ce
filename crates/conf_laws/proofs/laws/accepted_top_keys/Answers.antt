use Rattle.conf_laws.proofs.Image.{image_stands}
use Rattle.conf_laws.proofs.Top.{config_stands, flash_stands}
use Rattle.conf_laws.proofs.laws.accepted_top_keys.Goals as goal

pub returns-clause-config : goal.returns-clause-config
returns-clause-config c = config_stands

pub returns-clause-flash : goal.returns-clause-flash
returns-clause-flash c = flash_stands

pub returns-clause-image : goal.returns-clause-image
returns-clause-image c = image_stands
