use Rattle.table_reader.specs.Halves.{half}
use Rattle.table_reader.proofs.TableForm.{gpt_all, table_form}
use Rattle.table_reader.proofs.gpt.read_gpt.Goals as goal

pub returns-clause-form : goal.returns-clause-form
returns-clause-form g c = table_form c.in_ok-table.table c.in_ok-head.head c.read_half.new.room c.in_ok-table.ensures

pub returns-clause-answers : goal.returns-clause-answers
returns-clause-answers g c = λ told.
    let same = c.in_ok-head.ensures.same_files in
    let done = rw same at (c.in_ok-read_backup.ensures.answers told) in
    gpt_all _ c.args.sector (half c.in_ok-head.head c.read_half.new.room) c.in_ok-table.table _ (c.in_ok-head.ensures.there told) done c.in_ok-table.ensures
