use Rattle.std.proofs.lemmas.Result.{err_from_is_err_and}
use Rattle.sparse_reader.proofs.parts.read_word.Goals as goal

pub returns-in_err-read_part-clause-fault : goal.returns-in_err-read_part-clause-fault
returns-in_err-read_part-clause-fault g c = λ k.
    let fault = err_from_is_err_and c.from_residual.result c.from_residual.ensures.1 in
    rw (fault.1, fault.2) (c.in_err-read_part.ensures.fault k)
