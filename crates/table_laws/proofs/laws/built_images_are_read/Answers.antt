use Rattle.table_laws.proofs.Built.{built_images_are_read}
use Rattle.table_laws.proofs.laws.built_images_are_read.Goals as goal

pub returns : goal.returns
returns c = built_images_are_read
