use Rattle.sparse_reader.proofs.ChunkLemmas.{one_list_of_chunks}
use Rattle.sparse_reader.proofs.laws.one_list_of_chunks.Goals as goal

pub returns : goal.returns
returns c = one_list_of_chunks
