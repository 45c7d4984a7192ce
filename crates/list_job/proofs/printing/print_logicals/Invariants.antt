use Rattle.std.proofs.Common.{Ok, take}
use Rattle.list_job.specs.Printed.{PrintsTurn, lines_from, partition_lines}
use Rattle.list_job.proofs.printing.print_logicals.Given as goal

-- so many of them are printed
abbrev pub invariant-loop-place : goal.invariant-loop-place
invariant-loop-place g l =
    let printer = g.P.Printer in
    PrintsTurn (lines_from partition_lines 5 (take l.place l.logical)) (printer.lines l.fn.out) (printer.lines l.out)
    (printer.faults l.fn.out) (printer.faults l.out) (Ok tt)
