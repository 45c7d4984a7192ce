use Rattle.std.proofs.Common.{Ok, take}
use Rattle.list_job.specs.Printed.{PrintsTurn, lines_from, slot_lines}
use Rattle.list_job.proofs.printing.print_slots.Given as goal

-- so many of them are printed
abbrev pub invariant-loop-place : goal.invariant-loop-place
invariant-loop-place g l =
    let printer = g.P.Printer in
    PrintsTurn (lines_from slot_lines 1 (take l.place l.slots)) (printer.lines l.fn.out) (printer.lines l.out)
    (printer.faults l.fn.out) (printer.faults l.out) (Ok tt)
