use Rattle.std.proofs.lemmas.Result.{err_from_is_err_and}
use Rattle.table_reader.specs.Halves.{half}
use Rattle.table_reader.proofs.BackupSteps.{backup_refused}
use Rattle.table_reader.proofs.gpt.read_backup.Goals as goal

pub returns-in_err-compare-clause-answers : goal.returns-in_err-compare-clause-answers
returns-in_err-compare-clause-answers g c = λ told.
    let fault = err_from_is_err_and c.from_residual-in_err-compare.result c.from_residual-in_err-compare.ensures.1 in
    rw (fault.1, fault.2)
    (backup_refused _ c.args.sector c.read_long-own.result (half c.args.head.now c.args.entries.now) (half c.in_ok-back.back c.read_half.new.room) _
    c.read_long-own.ensures c.if-own-eq1.false (c.in_ok-back.ensures.there told) c.in_err-compare.ensures.exact c.in_err-compare.ensures.fault)
