use Rattle.image_names.proofs.LawLemmas.{images_exactly, twice_exactly}
use Rattle.image_names.proofs.laws.clashes_are_first.Goals as goal

pub returns-clause-names : goal.returns-clause-names
returns-clause-names c = twice_exactly

pub returns-clause-images : goal.returns-clause-images
returns-clause-images c = images_exactly
