use Rattle.sparse_reader.proofs.ViewLemmas.{chunks_come_in_order}
use Rattle.sparse_reader.proofs.laws.chunks_come_in_order.Goals as goal

pub returns : goal.returns
returns c = chunks_come_in_order
