-- What was counted of real files.
use Rattle.host_files.specs.declared.Tally.{Tally}
use Rattle.outside.specs.Counts.{Counts}

abbrev pub counts_of : Tally → Counts
counts_of tally = record { faults = tally.faults; absences = tally.absences; ends = tally.ends }
