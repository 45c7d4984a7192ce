use Rattle.std.proofs.lemmas.Result.{err_from_is_err_and}
use Rattle.sparse_reader.proofs.next.next_chunk.Goals as goal

pub returns-in_err-len-clause-fault : goal.returns-in_err-len-clause-fault
returns-in_err-len-clause-fault g c =
    let fault = err_from_is_err_and c.from_residual.result c.from_residual.ensures.1 in
    rw (fault.1, fault.2) (c.in_err-len.ensures.fault c.args.cursor.now.chunk)

pub returns-in_err-header-clause-fault : goal.returns-in_err-header-clause-fault
returns-in_err-header-clause-fault g c =
    let fault = err_from_is_err_and c.from_residual-in_err-header.result c.from_residual-in_err-header.ensures.1 in
    rw (fault.1, fault.2) (c.in_err-header.ensures.fault c.args.cursor.now.chunk)
