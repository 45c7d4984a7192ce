use Rattle.std.proofs.Common.{take}
use Rattle.std.specs.List.{All}
use Rattle.mbr_table.specs.Mbr.{HasLast}
use Rattle.scenario_tables.proofs.table_steps.all_have_last.Given as goal

abbrev pub invariant-loop-entry : goal.invariant-loop-entry
invariant-loop-entry l = All (HasLast 0) (take l.entry-index l.entries)
