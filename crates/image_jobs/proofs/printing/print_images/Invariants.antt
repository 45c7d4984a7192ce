use Rattle.std.proofs.Common.{◌≡◌, take}
use Rattle.job_stages.specs.Printing.{all_added}
use Rattle.image_jobs.specs.Printed.{image_lines}
use Rattle.image_jobs.proofs.printing.print_images.Given as goal

-- so many lines are printed
abbrev pub invariant-loop-place : goal.invariant-loop-place
invariant-loop-place g l =
    let printer = g.P.Printer in
    record {
      steady : printer.faults l.out ≡ printer.faults l.fn.out;
      lines : printer.lines l.out ≡ all_added (printer.lines l.fn.out) (take l.place (image_lines l.graph l.images l.sizes));
    }
