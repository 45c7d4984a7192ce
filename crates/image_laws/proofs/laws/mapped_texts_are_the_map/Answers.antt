use Rattle.image_laws.proofs.Maps.{mapped_read, mapped_texts}
use Rattle.image_laws.proofs.laws.mapped_texts_are_the_map.Goals as goal

pub returns-clause-same : goal.returns-clause-same
returns-clause-same c = mapped_texts

pub returns-clause-read : goal.returns-clause-read
returns-clause-read c = mapped_read
