use Rattle.sparse_reader.proofs.ViewLemmas.{views_are_of_chunks}
use Rattle.sparse_reader.proofs.laws.views_are_of_chunks.Goals as goal

pub returns : goal.returns
returns c = views_are_of_chunks
