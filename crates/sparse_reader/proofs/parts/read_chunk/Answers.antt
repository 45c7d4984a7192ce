use Rattle.std.proofs.lemmas.Result.{err_from_is_err_and}
use Rattle.sparse_reader.proofs.parts.read_chunk.Goals as goal

pub returns-in_err-read_part-clause-fault : goal.returns-in_err-read_part-clause-fault
returns-in_err-read_part-clause-fault g c =
    let fault = err_from_is_err_and c.from_residual.result c.from_residual.ensures.1 in
    rw (fault.1, fault.2) (c.in_err-read_part.ensures.fault c.args.cursor.chunk)

pub returns-in_err-word-clause-fault : goal.returns-in_err-word-clause-fault
returns-in_err-word-clause-fault g c =
    let fault = err_from_is_err_and c.from_residual-in_err-word.result c.from_residual-in_err-word.ensures.1 in
    rw (fault.1, fault.2) (c.in_err-word.ensures.fault c.args.cursor.chunk)
