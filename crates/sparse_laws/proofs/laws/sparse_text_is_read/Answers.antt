use Rattle.sparse_laws.proofs.Stored.{block_bytes}
use Rattle.sparse_laws.proofs.TheLaw.{sparse_text_is_read}
use Rattle.sparse_laws.proofs.laws.sparse_text_is_read.Goals as goal

pub returns-clause-read : goal.returns-clause-read
returns-clause-read c = sparse_text_is_read

pub returns-clause-bytes : goal.returns-clause-bytes
returns-clause-bytes c = block_bytes
