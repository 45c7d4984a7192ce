use Rattle.sparse_reader.proofs.ChunkLemmas.{chunks_are_found}
use Rattle.sparse_reader.proofs.laws.chunks_are_found.Goals as goal

pub returns : goal.returns
returns c = chunks_are_found
