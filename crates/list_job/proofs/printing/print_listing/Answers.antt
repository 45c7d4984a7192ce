use Rattle.list_job.proofs.TurnLemmas.{turn_prints}
use Rattle.list_job.proofs.printing.print_listing.Goals as goal

pub returns-in-Tables-clause-prints : goal.returns-in-Tables-clause-prints
returns-in-Tables-clause-prints g c =
    rw c.in-Tables.is (turn_prints _ _ _ _ _ c.print_tables.result c.print_tables.ensures.prints)
